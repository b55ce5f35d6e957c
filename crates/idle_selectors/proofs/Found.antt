-- What selectors find in a graph.
use Rattle.std.proofs.Common.{◌≡◌, ◌∙◌, ◌⊎◌, Bool, List, None, Option, Some, [], ◌∷◌, ap, eq-eqb, false, filter, inl, inr, length, not, refl, subst, sym, true, true≢false}
use Rattle.std.proofs.lemmas.Bool.{eqb-true}
use Rattle.std.proofs.lemmas.List.Sorted.{Contains-permutation, IsPermutation-sym}
use Rattle.std.specs.Prelude.{◌==◌, ◌↔◌, Contains, IsTrue, slice_get}
use Rattle.std.specs.declared.cmp.Ordering.{Ordering}
use Rattle.lists.specs.Distinct.{AreDistinct}
use Rattle.lists.specs.Sorting.{sorted_by}
use Rattle.lists.proofs.Filters.{filter_has, in_filter}
use Rattle.lists.proofs.Members.{got_in, is_first, no_items, not_in_none}
use Rattle.lists.proofs.Ordered.{sorted_same}
use Rattle.rdf_terms.specs.Graphs.{same_id}
use Rattle.rdf_terms.specs.declared.terms.Term.{Term}
use Rattle.rdf_terms.specs.declared.terms.TermId.{TermId}
use Rattle.rdf_terms.specs.declared.terms.Triple.{Triple}
use Rattle.shape_map.specs.Selection.{MayStandAt, at_focus, at_other}
use Rattle.shape_map.specs.declared.items.TriplePattern.{TriplePattern}
use Rattle.idle_selectors.specs.Idle.{HasEnd, HasMatch, IsInData}

-- a list that is not empty has an item
pub some_there : {X : Type 0} (xs : List X) (b : Bool) → b ≡ (length xs == 0) → IsTrue (not b) ↔ ((x : X) × Contains xs x)
some_there xs true e = let none = no_items xs xs refl e in (λ h. absurd (true≢false (sym h)), λ w. absurd (not_in_none w.0 (subst (λ v. Contains v w.0) none w.1)))
some_there [] false e = absurd (true≢false (sym e))
some_there (x ∷ xs) false e = (λ h. (x, is_first x xs), λ w. refl)

-- some triple passes
abbrev Passes : List Triple → (Triple → Bool) → Type 0
Passes g p = (t : Triple) × Contains g t × (p t ≡ true)

-- the triples that pass a test, in another order
passing : (order : Triple → Triple → Ordering) (p : Triple → Bool) (g ts : List Triple) → ts ≡ sorted_by order (filter p g) → (b : Bool) →
    IsTrue b ↔ ((t : Triple) × Contains ts t) → IsTrue b ↔ Passes g p
passing order p g ts e b some = (there, back)
  where
    there : IsTrue b → Passes g p
    there h =
        let (t, held) = some.0 h in
        let i = Contains-permutation (sorted_by order (filter p g))
        (filter p g) t (IsPermutation-sym (filter p g) (sorted_by order (filter p g)) (sorted_same order (filter p g))) (subst (λ (v : List Triple). Contains v t) e held) in
        let (j, a) = in_filter p g t i in
        (t, j, a)

    back : Passes g p → IsTrue b
    back (t, held, a) =
        some.1 (t, subst (λ (v : List Triple). Contains v t) (sym e) (Contains-permutation (filter p g) (sorted_by order (filter p g)) t (sorted_same order (filter p g)) (filter_has p g t held a)))

same_node : (a b : TermId) → same_id a b ≡ true → a ≡ b
same_node a b h = let e : a.0 ≡ b.0 = eqb-true a.0 b.0 h in λ i. record { 0 = e i }

node_same : (a b : TermId) → a ≡ b → same_id a b ≡ true
node_same a b e = eq-eqb a.0 b.0 (ap (λ (n : TermId). n.0) e)

-- a node is the subject of a triple, or its object
abbrev pub IsSubject : List Triple → TermId → Type 0
IsSubject g n = (t : Triple) × Contains g t × (t.s ≡ n)

abbrev pub IsObject : List Triple → TermId → Type 0
IsObject g n = (t : Triple) × Contains g t × (t.o ≡ n)

pub subject_by : (order : Triple → Triple → Ordering) (n : TermId) (g ts : List Triple) → ts ≡ sorted_by order (filter (λ t. same_id t.s n) g) → (b : Bool) →
    IsTrue b ↔ ((t : Triple) × Contains ts t) → IsTrue b ↔ IsSubject g n
subject_by order n g ts e b some =
    let by = passing order (λ t. same_id t.s n) g ts e b some in
    (λ h. let (t, held, a) = by.0 h in (t, held, same_node t.s n a), λ w. by.1 (w.0, w.1, node_same w.0.s n w.2))

pub object_by : (order : Triple → Triple → Ordering) (n : TermId) (g ts : List Triple) → ts ≡ sorted_by order (filter (λ t. same_id t.o n) g) → (b : Bool) →
    IsTrue b ↔ ((t : Triple) × Contains ts t) → IsTrue b ↔ IsObject g n
object_by order n g ts e b some =
    let by = passing order (λ t. same_id t.o n) g ts e b some in
    (λ h. let (t, held, a) = by.0 h in (t, held, same_node t.o n a), λ w. by.1 (w.0, w.1, node_same w.0.o n w.2))

-- an end is a subject, or else an object
pub end_first : (g : List Triple) (n : TermId) (b : Bool) → b ≡ true → IsTrue b ↔ IsSubject g n → IsTrue b ↔ HasEnd g n
end_first g n b so by = (λ h. let (t, held, e) = by.0 h in (t, held, inl e), λ w. so)

pub end_else : (g : List Triple) (n : TermId) (a b : Bool) → a ≡ false → IsTrue a ↔ IsSubject g n → IsTrue b ↔ IsObject g n → IsTrue b ↔ HasEnd g n
end_else g n a b off first other = (λ h. let (t, held, e) = other.0 h in (t, held, inr e), λ w. by w.0 w.1 w.2)
  where
    by : (t : Triple) → Contains g t → (t.s ≡ n) ⊎ (t.o ≡ n) → IsTrue b
    by t held (inl e) = absurd (true≢false (sym (first.1 (t, held, e)) ∙ off))
    by t held (inr e) = other.1 (t, held, e)

-- what is used in the triples of a graph is used in the graph
pub used_in : (ts g : List Triple) (p : TermId) (b : Bool) → ts ≡ g → IsTrue b ↔ ((t : Triple) × Contains ts t × (same_id t.p p ≡ true)) →
    IsTrue b ↔ ((t : Triple) × Contains g t × (same_id t.p p ≡ true))
used_in ts g p b e by = subst (λ (v : List Triple). IsTrue b ↔ ((t : Triple) × Contains v t × (same_id t.p p ≡ true))) e by

module _ (terms : List Term) (g : List Triple) where
  -- a term that the table has is in the data where its number is
  pub data_by : AreDistinct terms → (x : Term) (n : TermId) → slice_get terms n.0 ≡ Some x → (b : Bool) → IsTrue b ↔ HasEnd g n → IsTrue b ↔ IsInData terms g x
  data_by d x n at b by = (λ h. (n, at, by.0 h), λ w. by.1 (subst (λ (z : TermId). HasEnd g z) (same_node w.0 n (eq-eqb w.0.0 n.0 (d w.0.0 n.0 x w.1 at))) w.2))

  -- and one that the table does not have is not
  pub none_in_data : (x : Term) → (¬ Contains terms x) → ¬ IsInData terms g x
  none_in_data x absent w = absent (got_in terms w.0.0 x w.1)

  module _ (x : TriplePattern) where
    -- the number of a term
    number_of : AreDistinct terms → (a b : TermId) (t : Term) → slice_get terms a.0 ≡ Some t → slice_get terms b.0 ≡ Some t → same_id a b ≡ true
    number_of d a b t h k = eq-eqb a.0 b.0 (d a.0 b.0 t h k)

    term_at : (a b : TermId) (t : Term) → same_id a b ≡ true → slice_get terms b.0 ≡ Some t → slice_get terms a.0 ≡ Some t
    term_at a b t e h = ap (slice_get terms) (eqb-true a.0 b.0 e) ∙ h

    -- any node may stand at the other end
    pub matches_any : AreDistinct terms → (p : TermId) → slice_get terms p.0 ≡ Some x.predicate → x.other ≡ None → (b : Bool)
        → IsTrue b ↔ ((t : Triple) × Contains g t × (same_id t.p p ≡ true)) → IsTrue b ↔ HasMatch terms g x
    matches_any d p is any b by = (there, λ w. by.1 (w.1.triple, w.1.held, number_of d w.1.triple.p p x.predicate w.1.predicate is))
      where
        there : IsTrue b → HasMatch terms g x
        there h =
            let (t, held, a) = by.0 h in (
              at_focus x.focus t,
              record {
                triple = t;
                held = held;
                focus = refl;
                predicate = term_at t.p p x.predicate a is;
                other = subst (λ (o : Option Term). MayStandAt terms o (at_other x.focus t)) (sym any) tt;
              },
            )

    -- one node is to stand there
    pub matches_one : AreDistinct terms → (p : TermId) → slice_get terms p.0 ≡ Some x.predicate → (y : Term) → x.other ≡ Some y → (o : TermId) → slice_get terms o.0 ≡ Some y → (b : Bool)
        → IsTrue b ↔ ((t : Triple) × Contains g t × (same_id (at_other x.focus t) o ≡ true) × (same_id t.p p ≡ true)) → IsTrue b ↔ HasMatch terms g x
    matches_one d p is y asked o at b by = (there, back)
      where
        there : IsTrue b → HasMatch terms g x
        there h =
            let (t, held, e, a) = by.0 h in (
              at_focus x.focus t,
              record {
                triple = t;
                held = held;
                focus = refl;
                predicate = term_at t.p p x.predicate a is;
                other = subst (λ (v : Option Term). MayStandAt terms v (at_other x.focus t)) (sym asked) (term_at (at_other x.focus t) o y e at);
              },
            )

        back : HasMatch terms g x → IsTrue b
        back (n, f) =
            let t = f.triple in
            by.1 (
              t,
              f.held,
              number_of d (at_other x.focus t) o y (subst (λ (v : Option Term). MayStandAt terms v (at_other x.focus t)) asked f.other) at,
              number_of d t.p p x.predicate f.predicate is,
            )

    -- a node that the table does not hold
    pub matches_none : (y : Term) → x.other ≡ Some y → (¬ Contains terms y) → ¬ HasMatch terms g x
    matches_none y asked absent (n, f) =
        absent (got_in terms (at_other x.focus f.triple).0 y (subst (λ (v : Option Term). MayStandAt terms v (at_other x.focus f.triple)) asked f.other))

    -- a predicate that the table does not hold
    pub no_predicate : (¬ Contains terms x.predicate) → ¬ HasMatch terms g x
    no_predicate absent (n, f) = absent (got_in terms f.triple.p.0 x.predicate f.predicate)
