-- Places that are taken from a sorted list follow its order.
use Rattle.std.proofs.Common.{◌≡◌, ◌≢◌, ℕ, zero, suc, ◌<◌, ◌⊎◌, inl, inr, List, refl, ap, sym, ◌∙◌, get_or, arith, false, true≢false, Option, Some}
use Rattle.std.proofs.lemmas.Option.{unwrap_or-slice_get, slice_get_within, get_or_from_slice_get}
use Rattle.std.proofs.lemmas.List.Sorted.{sorted_far}
use Rattle.std.specs.List.{slice_get}
use Rattle.std.specs.List.Sorted.{IsSortedBy}
use Rattle.std.specs.Cmp.{nat_cmp_is}
use Rattle.std.specs.Ordering.{nat_cmp, is_lt, ordering_reverse}
use Rattle.std.specs.declared.cmp.Ordering.{Ordering}
use Rattle.std.specs.declared.cmp.Ordering.TheVariants.{Less, Equal, Greater}
use Rattle.rdf_terms.specs.declared.terms.Term.{Term}
use Rattle.rdf_terms.specs.declared.terms.TermId.{TermId}
use Rattle.rdf_terms.specs.Order.{compare_at}
use Rattle.graph_index.specs.Numbers.{ArePlacesIn}
use Rattle.graph_index.specs.Places.{place_of, FollowTexts, AreApart}
use Rattle.graph_index.proofs.Orders.{id_alone}
use Rattle.rdf_terms.proofs.Orders.{id_total, id_itself}
use Rattle.lists.proofs.Sorting.{lower, weak}

pub place_is : (places : List ℕ) (n : TermId) → place_of places n ≡ get_or places n.0 0
place_is places n = unwrap_or-slice_get places n.0 0

pub id_is : (a b : TermId) → a.0 ≡ b.0 → a ≡ b
id_is a b e = λ i. record { 0 = e i }

-- a number above 0 follows another
pub before : (n : ℕ) → 0 < n → (k : ℕ) × (n ≡ suc k)
before zero h = absurd (omega arith)
before (suc k) h = (k, refl)

below_is : (x y : ℕ) → x < y → nat_cmp x y ≡ Less
below_is x y h = sym (nat_cmp_is x y Less h)

same_is : (x y : ℕ) → x ≡ y → nat_cmp x y ≡ Equal
same_is x y h = sym (nat_cmp_is x y Equal h)

above_is : (x y : ℕ) → y < x → nat_cmp x y ≡ Greater
above_is x y h = sym (nat_cmp_is x y Greater h)

order_cases : (i j : ℕ) → (i < j) ⊎ ((i ≡ j) ⊎ (j < i))
order_cases i j = grind arith

-- what is not below, and not the same, is above
only_above : (r : Ordering) → is_lt r ≡ false → r ≢ Equal → r ≡ Greater
only_above Less h other = absurd (true≢false h)
only_above Equal h other = absurd (other refl)
only_above Greater h other = refl

module _ (terms : List Term) (ids : List TermId) (up : IsSortedBy (lower (compare_at terms) (id_total terms)) ids) where
  -- of two places the later one has the greater number
  later : (a b : TermId) (i j : ℕ) → slice_get ids i ≡ Some a → slice_get ids j ≡ Some b → i < j → a.0 ≢ b.0 → compare_at terms b a ≡ Greater
  later a b i j at_i at_j less other =
      let far : is_lt (compare_at terms (get_or ids j a) (get_or ids i a)) ≡ false = sorted_far (lower (compare_at terms) (id_total terms))
      (weak (compare_at terms) (id_total terms)) ids up i j a (omega arith) (slice_get_within ids j b at_j) in
      let here : is_lt (compare_at terms b a) ≡ false = ap (λ z. is_lt (compare_at terms z a)) (sym (get_or_from_slice_get ids j b a at_j))
      ∙ (ap (λ z. is_lt (compare_at terms (get_or ids j a) z)) (sym (get_or_from_slice_get ids i a a at_i)) ∙ far) in
      only_above (compare_at terms b a) here (λ e. other (sym (id_alone terms b a e)))

  some_same : (a b : TermId) → Path (Option TermId) (Some a) (Some b) → a ≡ b
  some_same a b e = cc

  in_order : (places : List ℕ) → ArePlacesIn ids places → (a b : TermId) (i j : ℕ) → place_of places a ≡ suc i → place_of places b ≡ suc j → nat_cmp (suc i) (suc j) ≡ compare_at terms a b
  in_order places are a b i j pa pb = by (order_cases i j)
    where
      apart : i ≢ j → a.0 ≢ b.0
      apart other e = other (let same : place_of places a ≡ place_of places b = ap (place_of places) (id_is a b e) in omega (arith, pa, pb, same))

      by : (i < j) ⊎ ((i ≡ j) ⊎ (j < i)) → nat_cmp (suc i) (suc j) ≡ compare_at terms a b
      by (inl less) =
          below_is (suc i) (suc j) (omega arith)
          ∙ sym ((id_total terms).antisymm a b ∙ ap ordering_reverse (later a b i j (are a i pa) (are b j pb) less (apart (λ e. omega arith))))
      by (inr (inl same)) =
          same_is (suc i) (suc j) (omega arith)
          ∙ sym (ap (compare_at terms a) (some_same b a (sym (are b j pb) ∙ ap (slice_get ids) (sym same) ∙ are a i pa)) ∙ id_itself terms a)
      by (inr (inr more)) = above_is (suc i) (suc j) (omega arith) ∙ sym (later b a j i (are b j pb) (are a i pa) more (λ e. apart (λ s. omega arith) (sym e)))

  pub follow : (places : List ℕ) → ArePlacesIn ids places → FollowTexts terms places
  follow places are a b ha hb =
      let (i, pa) = before (place_of places a) ha in
      let (j, pb) = before (place_of places b) hb in
      ap (λ z. nat_cmp z (place_of places b)) pa ∙ ap (nat_cmp (suc i)) pb ∙ in_order places are a b i j pa pb

pub apart : (ids : List TermId) (places : List ℕ) → ArePlacesIn ids places → AreApart places
apart ids places are a b ha e =
    let (i, pa) = before (place_of places a) ha in
    ap (λ (n : TermId). n.0) (same a b (sym (are a i pa) ∙ are b i (sym e ∙ pa)))
  where
    same : (a b : TermId) → Path (Option TermId) (Some a) (Some b) → a ≡ b
    same a b e = cc
