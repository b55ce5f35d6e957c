-- The order of numbers is total, tells numbers apart, and puts a list of them into one order.
use Rattle.std.proofs.Common.{◌≡◌, ℕ, zero, suc, List, refl, ap, sym, ◌∙◌, get_or, Bool, true, false, nat_eq, [], ◌∷◌, subst, arith, ◌<◌, length, map, Ok, Err}
use Rattle.std.proofs.lemmas.Bool.{eqb-true, eq-eqb}
use Rattle.std.proofs.lemmas.Cmp.{then_total, nat_cmp_total}
use Rattle.std.specs.Cmp.{IsTotalOrder, on_total, tied_itself, unsigned_ties}
use Rattle.std.specs.Cmp.Lexicographic.{on_texts, slice_cmp}
use Rattle.std.specs.Ordering.{nat_cmp, ordering_then, eq_by_cmp, is_eq}
use Rattle.std.specs.declared.cmp.Ordering.{Ordering}
use Rattle.std.specs.declared.cmp.Ordering.TheVariants.{Less, Equal, Greater}
use Rattle.std.proofs.lemmas.List.Filters.{dedup_is}
use Rattle.std.proofs.lemmas.List.Kept.{Contains-from_dedup, Contains-dedup, IsStrictlySortedBy-dedup}
use Rattle.std.proofs.lemmas.List.Sorted.{Contains-permutation, IsPermutation-sym}
use Rattle.std.specs.Prelude.{◌↔◌, Contains, Some, slice_get}
use Rattle.std.specs.List.Retain.{IsFiltered, DiffersFromLast}
use Rattle.std.specs.List.Sorted.{IsPermutation, IsSorted, IsStrictlySortedBy, IsBinarySearchResult}
use Rattle.std.proofs.lemmas.Option.{slice_get-get_or}
use Rattle.std.proofs.lemmas.List.{map-id}
use Rattle.std.proofs.lemmas.Map.Keys.{sorted_head, sorted_tail}
use Rattle.lists.proofs.Halving.{not_missed, one_place}
use Rattle.lists.proofs.Members.{got_in}
use Rattle.lists.proofs.Quantifiers.{all_at}
use Rattle.rdf_terms.proofs.SameTerms.{same_is}
use Rattle.rdf_terms.specs.declared.terms.Term.{Term}
use Rattle.rdf_terms.specs.declared.terms.TermId.{TermId}
use Rattle.rdf_terms.specs.declared.terms.Triple.{Triple}
use Rattle.rdf_terms.specs.Order.{compare_at, text_at, by_object, by_subject}
use Rattle.lists.specs.Equality.{decided_equiv}

pub id_total : (terms : List Term) → IsTotalOrder (compare_at terms)
id_total terms = then_total (on_texts (text_at terms)) (on_total (λ (n : TermId). n.0) nat_cmp_total)

pub object_total : (terms : List Term) → IsTotalOrder (by_object terms)
object_total terms = then_total (on_total (λ (t : Triple). t.p) (id_total terms)) (on_total (λ (t : Triple). t.o) (id_total terms))

pub subject_total : (terms : List Term) → IsTotalOrder (by_subject terms)
subject_total terms = then_total (on_total (λ (t : Triple). t.p) (id_total terms)) (on_total (λ (t : Triple). t.s) (id_total terms))

-- a number is as far as itself
pub id_itself : (terms : List Term) (n : TermId) → compare_at terms n n ≡ Equal
id_itself terms n = tied_itself (id_total terms) n

module _ (terms : List Term) where
  abbrev texts : TermId → TermId → Ordering
  texts a b = slice_cmp nat_cmp (text_at terms a) (text_at terms b)

  same_texts : (a b : TermId) → nat_eq a.0 b.0 ≡ true → texts a b ≡ Equal
  same_texts a b e = ap (λ (z : TermId). texts a z) (sym (same_is a b e)) ∙ tied_itself (on_texts (text_at terms)) a

  other : (a b : TermId) (c : Bool) → nat_eq a.0 b.0 ≡ c → (texts a b ≡ Equal → ⊥) → nat_eq a.0 b.0 ≡ false
  other a b true e n = absurd (n (same_texts a b e))
  other a b false e n = e

  -- two numbers tie exactly where they are one
  pub ids_tie : (a b : TermId) → nat_eq a.0 b.0 ≡ eq_by_cmp (compare_at terms) a b
  ids_tie a b = by (texts a b) refl
    where
      by : (r : Ordering) → texts a b ≡ r → nat_eq a.0 b.0 ≡ is_eq (ordering_then r (nat_cmp a.0 b.0))
      by Less e = other a b (nat_eq a.0 b.0) refl (λ k. absurd cc)
      by Equal e = unsigned_ties a.0 b.0
      by Greater e = other a b (nat_eq a.0 b.0) refl (λ k. absurd cc)

  module _ (E : TermId → TermId → Bool) (is : (a b : TermId) → E a b ≡ nat_eq a.0 b.0) where
    decides : (a b : TermId) → (E a b ≡ true → a ≡ b) × (a ≡ b → E a b ≡ true)
    decides a b = (λ h. same_is a b (sym (is a b) ∙ h), λ e. is a b ∙ eq-eqb a.0 b.0 (ap (λ (z : TermId). z.0) e))

    pub sorted_once : (xs ys zs : List TermId) → IsPermutation xs ys → IsSorted (compare_at terms) ys → IsFiltered (DiffersFromLast E) [] ys zs → IsStrictlySortedBy (compare_at terms) zs
    sorted_once xs ys zs p s f = subst (IsStrictlySortedBy (compare_at terms)) (sym (dedup_is E ys zs f)) (IsStrictlySortedBy-dedup (id_total terms) (λ a b. is a b ∙ ids_tie a b) ys s)

    pub same_nodes : (xs ys zs : List TermId) → IsPermutation xs ys → IsFiltered (DiffersFromLast E) [] ys zs → (n : TermId) → Contains zs n ↔ Contains xs n
    same_nodes xs ys zs p f n = (
      λ h. Contains-permutation ys xs n (IsPermutation-sym xs ys p) (Contains-from_dedup E ys n (subst (λ (v : List TermId). Contains v n) (dedup_is E ys zs f) h)),
      λ h. subst (λ (v : List TermId). Contains v n) (sym (dedup_is E ys zs f)) (Contains-dedup (decided_equiv E decides) (λ a b. (decides a b).0) ys n (Contains-permutation xs ys n p h)),
    )

ids_one : (terms : List Term) (a b : TermId) → compare_at terms a b ≡ Equal → a ≡ b
ids_one terms a b tied =
    let e : a.0 ≡ b.0 = eqb-true a.0 b.0 (ids_tie terms a b ∙ ap is_eq tied) in λ i. record { 0 = e i }

module _ (terms : List Term) (nodes : List TermId) (n : TermId) where
  pub place_found : (i : ℕ) → i < length nodes → IsBinarySearchResult (λ y. compare_at terms y n) nodes (Ok i) → slice_get nodes i ≡ Some n
  place_found i inside found =
      slice_get-get_or nodes i n inside ∙ ap (λ m. Some m) (ids_one terms (get_or nodes i n) n (found n))

  module _ (up : IsStrictlySortedBy (compare_at terms) nodes) where
    abbrev itself : IsStrictlySortedBy (compare_at terms) (map (λ m. m) nodes)
    itself = subst (IsStrictlySortedBy (compare_at terms)) (sym (map-id nodes)) up

    pub place_missed : (i : ℕ) → Contains nodes n → IsBinarySearchResult (λ y. compare_at terms y n) nodes (Err i) → ⊥
    place_missed i held = not_missed (compare_at terms) (id_total terms) (λ m. m) nodes itself n i (subst (λ ms. Contains ms n) (sym (map-id nodes)) held)

-- each node has one place
pub nodes_once : (terms : List Term) (nodes : List TermId) → IsStrictlySortedBy (compare_at terms) nodes → (k j : ℕ) (n : TermId) → slice_get nodes k ≡ Some n → slice_get nodes j ≡ Some n → k ≡ j
nodes_once terms nodes up k j n a b =
    one_place (compare_at terms) (id_total terms) (λ m. m) nodes (subst (IsStrictlySortedBy (compare_at terms)) (sym (map-id nodes)) up) k j n n a b refl

-- a node at a lower place comes first
pub comes_first : (terms : List Term) (nodes : List TermId) → IsStrictlySortedBy (compare_at terms) nodes → (i j : ℕ) (n m : TermId) →
    slice_get nodes i ≡ Some n → slice_get nodes j ≡ Some m → i < j → compare_at terms n m ≡ Less
comes_first terms [] up i j n m at is less = cc
comes_first terms (k ∷ nodes) up i zero n m at is less = absurd (omega (arith, less))
comes_first terms (k ∷ nodes) up zero (suc j) n m at is less =
    let first : k ≡ n = cc in
    subst (λ z. compare_at terms z m ≡ Less) first (all_at (λ y. compare_at terms k y ≡ Less) nodes m (sorted_head (compare_at terms) k nodes up) (got_in nodes j m is))
comes_first terms (k ∷ nodes) up (suc i) (suc j) n m at is less =
    comes_first terms nodes (sorted_tail (compare_at terms) k nodes up) i j n m at is (omega (arith, less))
