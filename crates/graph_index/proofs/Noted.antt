-- Numbers that are noted once each.
use Rattle.std.proofs.Common.{◌≡◌, ◌≢◌, ℕ, suc, zero, ◌+◌, ◌<◌, ◌≤◌, ◌⊎◌, inl, inr, List, [], ◌∷◌, ◌++◌, refl, ap, sym, ◌∙◌, length, get_or, set, arith, Bool, true, false, true≢false, Some, subst, Contains, replicate}
use Rattle.std.proofs.lemmas.List.{get_or-set_other, get_or-replicate, length-replicate, get_or_past}
use Rattle.std.proofs.lemmas.List.Elements.{Contains-append_left, Contains-append_right, Contains-append_cases}
use Rattle.std.proofs.lemmas.Option.{slice_get_within, slice_get-get_or, get_or_from_slice_get}
use Rattle.std.proofs.Math.ListN.{length-set}
use Rattle.std.specs.List.{slice_get}
use Rattle.rdf_terms.specs.declared.terms.TermId.{TermId}
use Rattle.rdf_terms.specs.declared.terms.Triple.{Triple}
use Rattle.graph_index.specs.Numbers.{AreNoted, IsOf}
use Rattle.graph_index.specs.Places.{IsBelow}

pub id_is : (a b : TermId) → a.0 ≡ b.0 → a ≡ b
id_is a b e = λ i. record { 0 = e i }

pub same_or : (x y : ℕ) → (x ≡ y) ⊎ (x ≢ y)
same_or x y = by (order x y)
  where
    order : (x y : ℕ) → (x ≡ y) ⊎ ((x < y) ⊎ (y < x))
    order x y = grind arith

    by : (x ≡ y) ⊎ ((x < y) ⊎ (y < x)) → (x ≡ y) ⊎ (x ≢ y)
    by (inl e) = inl e
    by (inr (inl l)) = inr (λ e. omega arith)
    by (inr (inr l)) = inr (λ e. omega arith)

itself : (n : TermId) → Contains (n ∷ []) n
itself n = (zero, omega arith, refl)

only : (n m : TermId) → Contains (n ∷ []) m → m ≡ n
only n m (zero, l, e) = sym e
only n m (suc k, l, e) = absurd (omega arith)

pub is_known : (marks : List Bool) (ids : List TermId) (n : TermId) (d : Bool) → AreNoted marks ids → n.0 < length marks → get_or marks n.0 d ≡ true → Contains ids n
is_known marks ids n d noted l e = noted.marked n (slice_get-get_or marks n.0 d l ∙ ap (λ (b : Bool). Some b) e)

pub notes_more : (marks : List Bool) (ids new : List TermId) (n : TermId) → AreNoted marks ids → n.0 < length marks → new ≡ ids ++ n ∷ [] → AreNoted (set marks n.0 true) new
notes_more marks ids new n noted fits is = subst (AreNoted (set marks n.0 true)) (sym is) (record {
  marked = λ m e. by m e (same_or m.0 n.0);
  within = λ m h. subst (λ z. m.0 < z) (sym (length-set marks n.0 true)) (into m (Contains-append_cases ids (n ∷ []) m h));
})
  where
    by : (m : TermId) → slice_get (set marks n.0 true) m.0 ≡ Some true → (m.0 ≡ n.0) ⊎ (m.0 ≢ n.0) → Contains (ids ++ n ∷ []) m
    by m e (inl same) = subst (Contains (ids ++ n ∷ [])) (sym (id_is m n same)) (Contains-append_right ids (n ∷ []) n (itself n))
    by m e (inr other) =
        let l : m.0 < length marks = subst (λ z. m.0 < z) (length-set marks n.0 true) (slice_get_within (set marks n.0 true) m.0 true e) in
        Contains-append_left ids (n ∷ []) m (is_known marks ids m false noted l (sym (get_or-set_other marks n.0 m.0 true false other) ∙ get_or_from_slice_get (set marks n.0 true) m.0 true false e))

    into : (m : TermId) → Contains ids m ⊎ Contains (n ∷ []) m → m.0 < length marks
    into m (inl h) = noted.within m h
    into m (inr h) = subst (λ z. z < length marks) (ap (λ (k : TermId). k.0) (sym (only n m h))) fits

pub keeps : (ids new : List TermId) (n : TermId) → new ≡ ids ++ n ∷ [] → (m : TermId) → Contains ids m → Contains new m
keeps ids new n is m h = subst (λ (v : List TermId). Contains v m) (sym is) (Contains-append_left ids (n ∷ []) m h)

-- nothing is noted yet
pub none_noted : (marks : List Bool) (ids : List TermId) (len : ℕ) → marks ≡ replicate len false → ids ≡ [] → AreNoted marks ids
none_noted marks ids len is none = record {
  marked = λ n e. absurd (true≢false (sym (get_or_from_slice_get marks n.0 true false e) ∙ ap (λ (v : List Bool). get_or v n.0 false) is ∙ blank len n.0));
  within = λ n h. absurd (empty n (subst (λ (v : List TermId). Contains v n) none h));
}
  where
    blank : (len k : ℕ) → get_or (replicate len false) k false ≡ false
    blank len k = by (order k len)
      where
        order : (x y : ℕ) → (x < y) ⊎ (y ≤ x)
        order x y = grind arith

        by : (k < len) ⊎ (len ≤ k) → get_or (replicate len false) k false ≡ false
        by (inl l) = get_or-replicate len k false false l
        by (inr l) = get_or_past (replicate len false) k false (omega (arith, length-replicate len false))

    empty : (n : TermId) → Contains [] n → ⊥
    empty n (k, l, e) = absurd (omega arith)

pub is_of_more : (ids new : List TermId) (t : Triple) → ((m : TermId) → Contains ids m → Contains new m) → IsOf ids t → IsOf new t
is_of_more ids new t kept h = record { subject = kept t.s h.subject; predicate = kept t.p h.predicate; object = kept t.o h.object }

pub below_up : (m n : ℕ) (t : Triple) → m ≤ n → IsBelow m t → IsBelow n t
below_up m n t l h = record { subject = let a = h.subject in omega arith; predicate = let a = h.predicate in omega arith; object = let a = h.object in omega arith }

-- the numbers of the triples before a place are noted
pub record Gathered (len : ℕ) (triples : List Triple) (i : ℕ) (marks : List Bool) (ids : List TermId) : Type 0 where
  pub size : length marks ≡ len
  pub noted : AreNoted marks ids
  pub held : (k : ℕ) (d : Triple) → k < i → IsOf ids (get_or triples k d)

pub none_gathered : (len : ℕ) (triples : List Triple) (marks : List Bool) (ids : List TermId) → marks ≡ replicate len false → ids ≡ [] → Gathered len triples 0 marks ids
none_gathered len triples marks ids is none = record {
  size = ap length is ∙ length-replicate len false;
  noted = none_noted marks ids len is none;
  held = λ k d l. absurd (omega arith);
}

pub gathers_more :
    (len : ℕ) (triples : List Triple) (i : ℕ) (marks new_marks : List Bool) (ids new : List TermId) (t : Triple) → Gathered len triples i marks ids → ((d : Triple) → t ≡ get_or triples i d) →
    length new_marks ≡ length marks → AreNoted new_marks new → IsOf new t → ((m : TermId) → Contains ids m → Contains new m) → Gathered len triples (i + 1) new_marks new
gathers_more len triples i marks new_marks ids new t h own size noted held kept = record {
  size = size ∙ h.size;
  noted = noted;
  held = λ k d l. by k d l (order k i);
}
  where
    order : (x y : ℕ) → (x < y) ⊎ (y ≤ x)
    order x y = grind arith

    by : (k : ℕ) (d : Triple) → k < i + 1 → (k < i) ⊎ (i ≤ k) → IsOf new (get_or triples k d)
    by k d l (inl before) = is_of_more ids new (get_or triples k d) kept (h.held k d before)
    by k d l (inr after) =
        let e : k ≡ i = omega arith in
        subst (IsOf new) (own d ∙ ap (λ z. get_or triples z d) (sym e)) held

pub below_more :
    (triples : List Triple) (i len more : ℕ) (t : Triple) → ((k : ℕ) (d : Triple) → k < i → IsBelow len (get_or triples k d)) → ((d : Triple) → t ≡ get_or triples i d) → len ≤ more → IsBelow more t →
    (k : ℕ) (d : Triple) → k < i + 1 → IsBelow more (get_or triples k d)
below_more triples i len more t h own longer here k d l = by (order k i)
  where
    order : (x y : ℕ) → (x < y) ⊎ (y ≤ x)
    order x y = grind arith

    by : (k < i) ⊎ (i ≤ k) → IsBelow more (get_or triples k d)
    by (inl before) = below_up len more (get_or triples k d) longer (h k d before)
    by (inr after) =
        let e : k ≡ i = omega arith in
        subst (IsBelow more) (own d ∙ ap (λ z. get_or triples z d) (sym e)) here
