-- The nodes at the focus of the triples that a pattern matches.
use Rattle.std.proofs.Common.{◌≡◌, Bool, true, List, [], Option, Some, None, sym, ap, subst, ◌∙◌, map, filter}
use Rattle.std.proofs.lemmas.Bool.{eqb-true, eq-eqb}
use Rattle.std.proofs.lemmas.List.Sorted.{Contains-permutation, IsPermutation-sym}
use Rattle.std.specs.Prelude.{◌↔◌, Contains, slice_get}
use Rattle.std.specs.declared.cmp.Ordering.{Ordering}
use Rattle.rdf_terms.specs.Graphs.{same_id}
use Rattle.lists.specs.Distinct.{AreDistinct}
use Rattle.lists.specs.Sorting.{sorted_by}
use Rattle.rdf_terms.specs.declared.terms.Term.{Term}
use Rattle.rdf_terms.specs.declared.terms.TermId.{TermId}
use Rattle.rdf_terms.specs.declared.terms.Triple.{Triple}
use Rattle.lists.proofs.Members.{got_in, in_map, not_in_none, from_map}
use Rattle.lists.proofs.Filters.{in_filter, filter_has}
use Rattle.lists.proofs.Ordered.{sorted_same}
use Rattle.shape_map.specs.declared.items.Focus.{Focus}
use Rattle.shape_map.specs.declared.items.Focus.TheVariants.{Subject, Object}
use Rattle.shape_map.specs.declared.items.TriplePattern.{TriplePattern}
use Rattle.shape_map.specs.Selection.{at_focus, at_other, MayStandAt, IsFocus}
use Rattle.shape_map.specs.Resolving.{AreAmong}

-- the triples that pass two tests, in another order
pub passing : (order : Triple → Triple → Ordering) (p q : Triple → Bool) (g ts : List Triple) → ts ≡ sorted_by order (filter q (filter p g))
    → (t : Triple) → Contains ts t ↔ (Contains g t × (p t ≡ true) × (q t ≡ true))
passing order p q g ts e t = (there, back)
  where
    there : Contains ts t → Contains g t × (p t ≡ true) × (q t ≡ true)
    there h =
        let i = Contains-permutation (sorted_by order (filter q (filter p g)))
        (filter q (filter p g)) t (IsPermutation-sym (filter q (filter p g)) (sorted_by order (filter q (filter p g))) (sorted_same order (filter q (filter p g))))
        (subst (λ (v : List Triple). Contains v t) e h) in
        let (j, b) = in_filter q (filter p g) t i in
        let (k, a) = in_filter p g t j in
        (k, a, b)

    back : Contains g t × (p t ≡ true) × (q t ≡ true) → Contains ts t
    back (h, a, b) =
        subst (λ (v : List Triple). Contains v t) (sym e)
        (Contains-permutation (filter q (filter p g)) (sorted_by order (filter q (filter p g))) t (sorted_same order (filter q (filter p g))) (filter_has q (filter p g) t (filter_has p g t h a) b))

pub with_object : (order : Triple → Triple → Ordering) (f : Focus) (o p : TermId) (g ts : List Triple) → f ≡ Subject →
    ts ≡ sorted_by order (filter (λ t. same_id t.p p) (filter (λ t. same_id t.o o) g))
    → (t : Triple) → Contains ts t ↔ (Contains g t × (same_id (at_other f t) o ≡ true) × (same_id t.p p ≡ true))
with_object order Subject o p g ts e is = passing order (λ t. same_id t.o o) (λ t. same_id t.p p) g ts is
with_object order Object o p g ts e is = absurd cc

pub with_subject : (order : Triple → Triple → Ordering) (f : Focus) (o p : TermId) (g ts : List Triple) → f ≡ Object →
    ts ≡ sorted_by order (filter (λ t. same_id t.p p) (filter (λ t. same_id t.s o) g))
    → (t : Triple) → Contains ts t ↔ (Contains g t × (same_id (at_other f t) o ≡ true) × (same_id t.p p ≡ true))
with_subject order Object o p g ts e is = passing order (λ t. same_id t.s o) (λ t. same_id t.p p) g ts is
with_subject order Subject o p g ts e is = absurd cc

module _ (terms : List Term) (g : List Triple) (x : TriplePattern) where
  abbrev Found : List TermId → Type 0
  Found ns = (n : TermId) → Contains ns n ↔ IsFocus terms g x n

  -- a number of a term
  one_number : AreDistinct terms → (a b : TermId) (t : Term) → slice_get terms a.0 ≡ Some t → slice_get terms b.0 ≡ Some t → same_id a b ≡ true
  one_number d a b t h k = eq-eqb a.0 b.0 (d a.0 b.0 t h k)

  read_at : (a b : TermId) (t : Term) → same_id a b ≡ true → slice_get terms b.0 ≡ Some t → slice_get terms a.0 ≡ Some t
  read_at a b t e h = ap (slice_get terms) (eqb-true a.0 b.0 e) ∙ h

  abbrev with_predicate : TermId → List Triple → List Triple
  with_predicate p ts = filter (λ t. same_id t.p p) ts

  from_triples : AreDistinct terms → (p : TermId) → slice_get terms p.0 ≡ Some x.predicate → (ts : List Triple)
      → ((t : Triple) → Contains ts t → Contains g t × MayStandAt terms x.other (at_other x.focus t))
      → ((t : Triple) → Contains g t → MayStandAt terms x.other (at_other x.focus t) → same_id t.p p ≡ true → Contains ts t)
      → (ns : List TermId) → ns ≡ map (at_focus x.focus) (filter (λ t. same_id t.p p) ts) → Found ns
  from_triples d p is ts only all ns e n = (there, back)
    where
      there : Contains ns n → IsFocus terms g x n
      there h =
          let (t, i, f) = from_map (at_focus x.focus) (with_predicate p ts) n (subst (λ (v : List TermId). Contains v n) e h) in
          let (j, q) = in_filter (λ t. same_id t.p p) ts t i in
          let o = only t j in
          record { triple = t; held = o.0; focus = f; predicate = read_at t.p p x.predicate q is; other = o.1 }

      back : IsFocus terms g x n → Contains ns n
      back f =
          let q = one_number d f.triple.p p x.predicate f.predicate is in
          subst (λ (v : List TermId). Contains v n) (sym e)
          (subst (λ (z : TermId). Contains (map (at_focus x.focus) (with_predicate p ts)) z) f.focus (in_map (at_focus x.focus) (with_predicate p ts) f.triple (filter_has (λ t. same_id t.p p) ts f.triple (all f.triple f.held f.other q) q)))

  none_there : (ns : List TermId) → ns ≡ [] → ((n : TermId) → IsFocus terms g x n → ⊥) → Found ns
  none_there ns e never n = (λ h. absurd (not_in_none n (subst (λ (v : List TermId). Contains v n) e h)), λ f. absurd (never n f))

  -- the triples among which a pattern's are
  pub all_found : AreDistinct terms → (p : TermId) → slice_get terms p.0 ≡ Some x.predicate → (ts : List Triple) → AreAmong terms g x p ts
      → (ns ms : List TermId) → ns ≡ map (at_focus x.focus) (filter (λ t. same_id t.p p) ts) → ((n : TermId) → Contains ms n ↔ Contains ns n) → Found ms
  all_found d p is ts among ns ms e same n =
      let f = from_triples d p is ts (λ t h. among.only t h) (λ t h a q. among.whole t h a q) ns e n in
      (λ h. f.0 ((same n).0 h), λ h. (same n).1 (f.1 h))

  -- any node may stand at the other end
  pub any_among : (p : TermId) → x.other ≡ None → AreAmong terms g x p g
  any_among p none = record { only = λ t h. (h, subst (λ (o : Option Term). MayStandAt terms o (at_other x.focus t)) (sym none) tt); whole = λ t h a q. h }

  -- one node is to stand there
  pub some_among : AreDistinct terms → (p : TermId) (y : Term) → x.other ≡ Some y → (o : TermId) → slice_get terms o.0 ≡ Some y → (ts : List Triple)
      → ((t : Triple) → Contains ts t ↔ (Contains g t × (same_id (at_other x.focus t) o ≡ true) × (same_id t.p p ≡ true))) → AreAmong terms g x p ts
  some_among d p y asked o at ts those = record {
    only = λ t h. let (i, b, q) = (those t).0 h in (i, subst (λ (v : Option Term). MayStandAt terms v (at_other x.focus t)) (sym asked) (read_at (at_other x.focus t) o y b at));
    whole = λ t h a q. (those t).1 (h, one_number d (at_other x.focus t) o y (subst (λ (v : Option Term). MayStandAt terms v (at_other x.focus t)) asked a) at, q);
  }

  -- a node that the table does not hold
  pub none_among : (p : TermId) (y : Term) → x.other ≡ Some y → (¬ Contains terms y) → (ts : List Triple) → ts ≡ [] → AreAmong terms g x p ts
  none_among p y asked never ts e = record {
    only = λ t h. absurd (not_in_none t (subst (λ (v : List Triple). Contains v t) e h));
    whole = λ t h a q. absurd (never (got_in terms (at_other x.focus t).0 y (subst (λ (v : Option Term). MayStandAt terms v (at_other x.focus t)) asked a)));
  }

  -- a predicate that the table does not hold
  pub no_predicate : (¬ Contains terms x.predicate) → (ns : List TermId) → ns ≡ [] → Found ns
  no_predicate never ns e = none_there ns e (λ n f. never (got_in terms f.triple.p.0 x.predicate f.predicate))
