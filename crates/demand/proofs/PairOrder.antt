-- The order of pairs is total, tells pairs apart, and puts a list of them into one order.
use Rattle.lists.proofs.Halving.{one_place}
use Rattle.std.proofs.lemmas.List.{map-id}
use Rattle.std.proofs.Common.{◌≡◌, ◌∙◌, ℕ, suc, arith, List, [], ◌∷◌, refl, sym, ap, subst, Bool, true, false, ◌&&◌, if◌then◌else◌, nat_eq}
use Rattle.std.proofs.lemmas.Map.Keys.{IsDistinct-IsPermutation}
use Rattle.std.specs.List.{AllByRecursion, IsDistinct, dedup_from}
use Rattle.demand.proofs.Same.{pair_decides, same_pair}
use Rattle.std.proofs.lemmas.Bool.{eq-eqb}
use Rattle.std.proofs.lemmas.Cmp.{nat_cmp_total, then_total}
use Rattle.std.proofs.lemmas.List.Filters.{dedup_is}
use Rattle.std.proofs.lemmas.List.Kept.{Contains-from_dedup, Contains-dedup, IsStrictlySortedBy-dedup}
use Rattle.std.proofs.lemmas.List.Sorted.{Contains-permutation, IsPermutation-sym}
use Rattle.std.specs.Cmp.{IsTotalOrder, on_total, unsigned_ties}
use Rattle.std.specs.List.Retain.{DiffersFromLast, IsFiltered}
use Rattle.std.specs.List.Sorted.{IsPermutation, IsSorted, IsStrictlySortedBy}
use Rattle.std.specs.Ordering.{eq_by_cmp, is_eq, nat_cmp, ordering_then}
use Rattle.std.specs.Prelude.{◌↔◌, Contains, Some, slice_get}
use Rattle.std.specs.declared.cmp.Ordering.{Ordering}
use Rattle.std.specs.declared.cmp.Ordering.TheVariants.{Less, Equal, Greater}
use Rattle.lists.specs.Distinct.{AreDistinct}
use Rattle.rdf_terms.specs.Order.{compare_at}
use Rattle.lists.specs.Equality.{decided_equiv}
use Rattle.rdf_terms.specs.declared.terms.Term.{Term}
use Rattle.rdf_terms.proofs.Orders.{id_total, ids_tie}
use Rattle.demand.specs.Orders.{compare_pairs}
use Rattle.schema_tree.proofs.Pairs.{pair_is}
use Rattle.schema_tree.specs.declared.schema.Pair.{Pair}

pub pairs_total : (terms : List Term) → IsTotalOrder (compare_pairs terms)
pairs_total terms = then_total (on_total (λ (q : Pair). q.node) (id_total terms)) (on_total (λ (q : Pair). q.shape.0) nat_cmp_total)

module _ (terms : List Term) where
  both_tie : (r s : Ordering) → (is_eq r && is_eq s) ≡ is_eq (ordering_then r s)
  both_tie Less s = refl
  both_tie Equal s = refl
  both_tie Greater s = refl

  pairs_tie : (a b : Pair) → (nat_eq a.node.0 b.node.0 && nat_eq a.shape.0 b.shape.0) ≡ eq_by_cmp (compare_pairs terms) a b
  pairs_tie a b = (λ i. ids_tie terms a.node b.node i && unsigned_ties a.shape.0 b.shape.0 i) ∙ both_tie (compare_at terms a.node b.node) (nat_cmp a.shape.0 b.shape.0)

  module _ (E : Pair → Pair → Bool) (is : (a b : Pair) → E a b ≡ (nat_eq a.node.0 b.node.0 && nat_eq a.shape.0 b.shape.0)) where
    decides : (a b : Pair) → (E a b ≡ true → a ≡ b) × (a ≡ b → E a b ≡ true)
    decides a b = (
      λ h. pair_is a b (sym (is a b) ∙ h),
      λ e. is a b ∙ (λ i. eq-eqb a.node.0 b.node.0 (ap (λ (q : Pair). q.node.0) e) i && eq-eqb a.shape.0 b.shape.0 (ap (λ (q : Pair). q.shape.0) e) i),
    )

    pub pairs_sorted : (ys zs : List Pair) → IsSorted (compare_pairs terms) ys → IsFiltered (DiffersFromLast E) [] ys zs → IsStrictlySortedBy (compare_pairs terms) zs
    pairs_sorted ys zs s f = subst (IsStrictlySortedBy (compare_pairs terms)) (sym (dedup_is E ys zs f)) (IsStrictlySortedBy-dedup (pairs_total terms) (λ a b. is a b ∙ pairs_tie a b) ys s)

    pub pairs_same : (xs ys zs : List Pair) → IsPermutation xs ys → IsFiltered (DiffersFromLast E) [] ys zs → (q : Pair) → Contains zs q ↔ Contains xs q
    pairs_same xs ys zs p f q = (
      λ h. Contains-permutation ys xs q (IsPermutation-sym xs ys p) (Contains-from_dedup E ys q (subst (λ (v : List Pair). Contains v q) (dedup_is E ys zs f) h)),
      λ h. subst (λ (v : List Pair). Contains v q) (sym (dedup_is E ys zs f)) (Contains-dedup (decided_equiv E decides) (λ a b. (decides a b).0) ys q (Contains-permutation xs ys q p h)),
    )

-- each pair has one place
pub pairs_once : (terms : List Term) (ps : List Pair) → IsStrictlySortedBy (compare_pairs terms) ps → AreDistinct ps
pairs_once terms ps up i j p a b =
    one_place (compare_pairs terms) (pairs_total terms) (λ q. q) ps (subst (IsStrictlySortedBy (compare_pairs terms)) (sym (map-id ps)) up) i j p p a b refl

-- ---- distinct pairs

unlike : (a b : Pair) → (a ≡ b → ⊥) → same_pair a b ≡ false
unlike a b apart = not_true (same_pair a b) (λ h. apart ((pair_decides a b).0 h))
  where
    not_true : (t : Bool) → (t ≡ true → ⊥) → t ≡ false
    not_true true h = absurd (h refl)
    not_true false h = refl

flips : (a b : Pair) → same_pair a b ≡ same_pair b a
flips a b = alike (same_pair a b) (same_pair b a) (turned a b) (turned b a)
  where
    turned : (c d : Pair) → same_pair c d ≡ true → same_pair d c ≡ true
    turned c d h = (pair_decides d c).1 (sym ((pair_decides c d).0 h))

    alike : (t u : Bool) → (t ≡ true → u ≡ true) → (u ≡ true → t ≡ true) → t ≡ u
    alike true u to from = sym (to refl)
    alike false true to from = from refl
    alike false false to from = refl

-- the test finds a pair at none of the places
unlike_all : (p : Pair) (ps : List Pair) → ((i : ℕ) → slice_get ps i ≡ Some p → ⊥) → AllByRecursion (λ q. same_pair p q ≡ false) ps
unlike_all p [] apart = tt
unlike_all p (q ∷ qs) apart = (unlike p q (λ e. apart 0 (ap (λ u. Some u) (sym e))), unlike_all p qs (λ i. apart (suc i)))

told_apart : (ps : List Pair) → AreDistinct ps → IsDistinct same_pair ps
unfolding IsDistinct
told_apart [] distinct = tt
told_apart (p ∷ ps) distinct = (
  unlike_all p ps (λ i at. let e : 0 ≡ suc i = distinct 0 (suc i) p refl at in absurd (omega arith)),
  told_apart ps (λ i j q a b. let e : suc i ≡ suc j = distinct (suc i) (suc j) q a b in omega arith),
)

-- nothing is taken away of what the test tells apart
all_stay : (p : Pair) (ps : List Pair) → IsDistinct same_pair (p ∷ ps) → dedup_from same_pair p ps ≡ p ∷ ps
unfolding IsDistinct
all_stay p [] apart = refl
all_stay p (q ∷ qs) apart =
    ap (λ t. if t then dedup_from same_pair p qs else p ∷ dedup_from same_pair q qs) (flips q p ∙ apart.0.0)
    ∙ ap (λ rs. p ∷ rs) (all_stay q qs apart.1)

-- distinct pairs that are put in order rise
pub pairs_strict : (terms : List Term) (xs ys : List Pair) → AreDistinct xs → IsPermutation xs ys → IsSorted (compare_pairs terms) ys →
    IsStrictlySortedBy (compare_pairs terms) ys
pairs_strict terms xs [] distinct moved sorted = IsStrictlySortedBy-dedup (pairs_total terms) (pairs_tie terms) [] sorted
pairs_strict terms xs (y ∷ ys) distinct moved sorted =
    subst (IsStrictlySortedBy (compare_pairs terms))
    (all_stay y ys (IsDistinct-IsPermutation same_pair flips xs (y ∷ ys) moved (told_apart xs distinct)))
    (IsStrictlySortedBy-dedup (pairs_total terms) (pairs_tie terms) (y ∷ ys) sorted)
