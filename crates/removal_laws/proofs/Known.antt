-- What is known by marks, and what one more mark changes.
use Rattle.std.proofs.Common.{◌≡◌, ◌≢◌, ℕ, zero, suc, ◌⊎◌, inl, inr, List, [], ◌∷◌, ◌++◌, refl, sym, subst, ap, ◌∙◌, Bool, true, false, not, true≢false, append_assoc}
use Rattle.std.proofs.lemmas.List.Elements.{Contains-append_cases, Contains-append_left, Contains-append_right}
use Rattle.std.specs.List.{list_any}
use Rattle.std.specs.Prelude.{◌↔◌, ◌||◌, Contains, Some, None, slice_get, slice_set}
use Rattle.lists.specs.Distinct.{AreDistinct}
use Rattle.rdf_terms.specs.declared.terms.Term.{Term}
use Rattle.rdf_terms.specs.declared.terms.Triple.{Triple}
use Rattle.schema_tree.proofs.Pairs.{pair_is, pair_same}
use Rattle.schema_tree.specs.declared.schema.Pair.{Pair}
use Rattle.schema_tree.specs.declared.schema.Schema.{Schema}
use Rattle.schema_tree.specs.declared.verdicts.Lean.{Lean}
use Rattle.schema_tree.specs.declared.verdicts.Verdict.{Verdict}
use Rattle.schema_tree.specs.declared.verdicts.Verdict.TheVariants.{Yes, No, Unknown}
use Rattle.schema_tree.specs.Places.{PairCanMatch}
use Rattle.schema_tree.specs.Sure.{Known, PairIs}
use Rattle.lists.proofs.Members.{got_in, in_one, in_rest, is_first, is_later, not_in_none}
use Rattle.lists.proofs.Filters.{in_filter, filter_has}
use Rattle.removal_laws.specs.Marks.{KnowSame, known_by, marked, outside}
use Rattle.schema_tree.specs.Entries.{same_pair}
use Rattle.removal_laws.proofs.Carried.{match_alike}
use Rattle.removal_laws.proofs.Marking.{from_mark, to_mark}

-- ---- pairs and places

pub held_at : {X : Type 0} (xs : List X) (x : X) → Contains xs x → (i : ℕ) × (slice_get xs i ≡ Some x)
held_at [] x c = absurd (not_in_none x c)
held_at (y ∷ ys) x c = go (in_rest y ys x c) (λ later. held_at ys x later)
  where
    go : (y ≡ x) ⊎ Contains ys x → (Contains ys x → (i : ℕ) × (slice_get ys i ≡ Some x)) → (i : ℕ) × (slice_get (y ∷ ys) i ≡ Some x)
    go (inl e) deeper = (0, ap (λ z. Some z) e)
    go (inr later) deeper = let (i, at) = deeper later in (suc i, at)

any_here : (q : Pair) (pairs : List Pair) → Contains pairs q → list_any (same_pair q) pairs ≡ true
any_here q [] c = absurd (not_in_none q c)
any_here q (p ∷ ps) c = go (same_pair q p) refl (in_rest p ps q c) (λ later. any_here q ps later)
  where
    go : (b : Bool) → same_pair q p ≡ b → (p ≡ q) ⊎ Contains ps q → (Contains ps q → list_any (same_pair q) ps ≡ true) → (b || list_any (same_pair q) ps) ≡ true
    go true is h deeper = refl
    go false is (inl e) deeper = absurd (true≢false (sym (ap (λ z. same_pair q z) e ∙ pair_same q) ∙ is))
    go false is (inr later) deeper = deeper later

any_gone : (q : Pair) (pairs : List Pair) → ¬ Contains pairs q → list_any (same_pair q) pairs ≡ false
any_gone q [] none = refl
any_gone q (p ∷ ps) none = go (same_pair q p) refl (any_gone q ps (λ c. none (is_later p ps q c)))
  where
    go : (b : Bool) → same_pair q p ≡ b → list_any (same_pair q) ps ≡ false → (b || list_any (same_pair q) ps) ≡ false
    go true is deeper = absurd (none (subst (λ z. Contains (z ∷ ps) q) (pair_is q p is) (is_first q ps)))
    go false is deeper = deeper

pub set_here : {X : Type 0} (xs : List X) (i : ℕ) (x v : X) → slice_get xs i ≡ Some x → slice_get (slice_set xs i v) i ≡ Some v
set_here [] i x v at = cc
set_here (y ∷ ys) zero x v at = refl
set_here (y ∷ ys) (suc i) x v at = set_here ys i x v at

pub set_other : {X : Type 0} (xs : List X) (i j : ℕ) (v : X) → j ≢ i → slice_get (slice_set xs i v) j ≡ slice_get xs j
set_other [] i j v apart = refl
set_other (y ∷ ys) zero zero v apart = absurd (apart refl)
set_other (y ∷ ys) zero (suc j) v apart = refl
set_other (y ∷ ys) (suc i) zero v apart = refl
set_other (y ∷ ys) (suc i) (suc j) v apart = set_other ys i j v (λ e. apart (ap suc e))

-- ---- those outside

pub to_outside : (pairs others : List Pair) (q : Pair) → Contains (outside pairs others) q → Contains others q × (¬ Contains pairs q)
to_outside pairs others q c =
    let (held, passes) = in_filter (λ u. not (list_any (same_pair u) pairs)) others q c in
    (held, (λ inside. true≢false (sym passes ∙ ap not (any_here q pairs inside))))

pub from_outside : (pairs others : List Pair) (q : Pair) → Contains others q → ¬ Contains pairs q → Contains (outside pairs others) q
from_outside pairs others q held none =
    filter_has (λ u. not (list_any (same_pair u) pairs)) others q held (ap not (any_gone q pairs none))

-- ---- what is known

module _ (elsewhere : Known) (pairs : List Pair) (distinct : AreDistinct pairs) (marks : List Verdict) where
  -- at a place with a mark
  pub yes_at : (i : ℕ) (q : Pair) → slice_get pairs i ≡ Some q → Contains (known_by elsewhere pairs marks).yes q → slice_get marks i ≡ Some Yes
  yes_at i q at c = elim (Contains-append_cases (marked Yes pairs marks) (outside pairs elsewhere.yes) q c) [
    | inl m ↦ (let (j, there, mark) = to_mark Yes pairs marks q m in subst (λ k. slice_get marks k ≡ Some Yes) (distinct j i q there at) mark)
    | inr o ↦ absurd ((to_outside pairs elsewhere.yes q o).1 (got_in pairs i q at))
  ]

  pub no_at : (i : ℕ) (q : Pair) → slice_get pairs i ≡ Some q → Contains (known_by elsewhere pairs marks).no q → slice_get marks i ≡ Some No
  no_at i q at c = elim (Contains-append_cases (marked No pairs marks) (outside pairs elsewhere.no) q c) [
    | inl m ↦ (let (j, there, mark) = to_mark No pairs marks q m in subst (λ k. slice_get marks k ≡ Some No) (distinct j i q there at) mark)
    | inr o ↦ absurd ((to_outside pairs elsewhere.no q o).1 (got_in pairs i q at))
  ]

  pub is_yes : (i : ℕ) (q : Pair) → slice_get pairs i ≡ Some q → slice_get marks i ≡ Some Yes → Contains (known_by elsewhere pairs marks).yes q
  is_yes i q at mark = Contains-append_left (marked Yes pairs marks) (outside pairs elsewhere.yes) q (from_mark Yes pairs marks q (i, at, mark))

  pub is_no : (i : ℕ) (q : Pair) → slice_get pairs i ≡ Some q → slice_get marks i ≡ Some No → Contains (known_by elsewhere pairs marks).no q
  is_no i q at mark = Contains-append_left (marked No pairs marks) (outside pairs elsewhere.no) q (from_mark No pairs marks q (i, at, mark))

  -- the mark of a pair is what is known of it
  pub answers_in : (i : ℕ) (q : Pair) (v : Verdict) → slice_get pairs i ≡ Some q → slice_get marks i ≡ Some v → PairIs (known_by elsewhere pairs marks) q v
  answers_in i q Yes at mark = is_yes i q at mark
  answers_in i q No at mark = ((λ c. (let e = yes_at i q at c in absurd cc)), is_no i q at mark)
  answers_in i q Unknown at mark = ((λ c. (let e = yes_at i q at c in absurd cc)), λ c. (let e = no_at i q at c in absurd cc))

  -- a pair without a mark is not known
  pub answers_none : (i : ℕ) (q : Pair) → slice_get pairs i ≡ Some q → slice_get marks i ≡ None → PairIs (known_by elsewhere pairs marks) q Unknown
  answers_none i q at mark = ((λ c. (let e = yes_at i q at c in absurd cc)), λ c. (let e = no_at i q at c in absurd cc))

  -- another pair is known as it was
  pub answers_out : (q : Pair) (v : Verdict) → ¬ Contains pairs q → PairIs elsewhere q v → PairIs (known_by elsewhere pairs marks) q v
  answers_out q v none is = by v is
    where
      out : (w : Verdict) (others : List Pair) → Contains (marked w pairs marks ++ outside pairs others) q → Contains others q
      out w others c = elim (Contains-append_cases (marked w pairs marks) (outside pairs others) q c) [
        | inl m ↦ (let (j, there, mark) = to_mark w pairs marks q m in absurd (none (got_in pairs j q there)))
        | inr o ↦ (to_outside pairs others q o).0
      ]

      in_ : (w : Verdict) (others : List Pair) → Contains others q → Contains (marked w pairs marks ++ outside pairs others) q
      in_ w others c = Contains-append_right (marked w pairs marks) (outside pairs others) q (from_outside pairs others q c none)

      by : (w : Verdict) → PairIs elsewhere q w → PairIs (known_by elsewhere pairs marks) q w
      by Yes h = in_ Yes elsewhere.yes h
      by No h = ((λ c. h.0 (out Yes elsewhere.yes c)), in_ No elsewhere.no h.1)
      by Unknown h = ((λ c. h.0 (out Yes elsewhere.yes c)), λ c. h.1 (out No elsewhere.no c))

-- ---- views with the same pairs

pub same_alike : (a b : Known) → KnowSame a b → (q : Pair) (v : Verdict) → PairIs a q v ↔ PairIs b q v
same_alike a b h q Yes = (h.0.0 q, h.0.1 q)
same_alike a b h q No = ((λ is. ((λ c. is.0 (h.0.1 q c)), h.1.0 q is.1)), (λ is. ((λ c. is.0 (h.0.0 q c)), h.1.1 q is.1)))
same_alike a b h q Unknown = ((λ is. ((λ c. is.0 (h.0.1 q c)), (λ c. is.1 (h.1.1 q c)))), (λ is. ((λ c. is.0 (h.0.0 q c)), (λ c. is.1 (h.1.0 q c)))))

pub know_turned : (a b : Known) → KnowSame a b → KnowSame b a
know_turned a b h = ((h.0.1, h.0.0), (h.1.1, h.1.0))

pub match_known :
    (s : Schema) (terms : List Term) (g : List Triple) (a b : Known) (lean : Lean) (p : Pair) → KnowSame a b → PairCanMatch s terms g a lean p →
    PairCanMatch s terms g b lean p
match_known s terms g a b lean p h = match_alike s terms g a b lean p (λ q need v. same_alike a b h q v)

-- one more pair is known to be No: no other is known otherwise
pub more_no :
    (yes_ no_ : List Pair) (p q : Pair) (v : Verdict) → q ≢ p →
    PairIs (record { yes = yes_; no = no_ }) q v ↔ PairIs (record { yes = yes_; no = no_ ++ p ∷ [] }) q v
more_no yes_ no_ p q v apart = same v
  where
    less : Contains (no_ ++ p ∷ []) q → Contains no_ q
    less c = elim (Contains-append_cases no_ (p ∷ []) q c) [ inl l ↦ l | inr r ↦ absurd (apart (sym (in_one p q r))) ]

    same : (w : Verdict) → PairIs (record { yes = yes_; no = no_ }) q w ↔ PairIs (record { yes = yes_; no = no_ ++ p ∷ [] }) q w
    same Yes = ((λ h. h), (λ h. h))
    same No = ((λ h. (h.0, Contains-append_left no_ (p ∷ []) q h.1)), (λ h. (h.0, less h.1)))
    same Unknown = ((λ h. (h.0, (λ c. h.1 (less c)))), (λ h. (h.0, (λ c. h.1 (Contains-append_left no_ (p ∷ []) q c)))))

pub more_gone :
    (yes_ no_ gone : List Pair) (p q : Pair) (v : Verdict) → q ≢ p →
    PairIs (record { yes = yes_; no = no_ ++ gone }) q v ↔ PairIs (record { yes = yes_; no = no_ ++ (gone ++ p ∷ []) }) q v
more_gone yes_ no_ gone p q v apart =
    subst (λ xs. PairIs (record { yes = yes_; no = no_ ++ gone }) q v ↔ PairIs (record { yes = yes_; no = xs }) q v) (append_assoc no_ gone (p ∷ []))
    (more_no yes_ (no_ ++ gone) p q v apart)
