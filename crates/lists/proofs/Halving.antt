-- What halving finds in a list whose keys strictly rise.
use Rattle.std.proofs.Common.{◌≡◌, ℕ, zero, suc, ◌<◌, ◌≤◌, ◌+◌, ◌⊎◌, inl, inr, List, [], ◌∷◌, refl, arith, sym, ◌∙◌, ap, length, get_or, map, Result, Ok, Err}
use Rattle.std.proofs.lemmas.Fn.{always_returns_same}
use Rattle.std.specs.Fn.{Called, ComputesKey}
use Rattle.std.proofs.lemmas.Cmp.{tied_itself}
use Rattle.std.proofs.lemmas.List.Sorted.{searchable_from_sorted}
use Rattle.std.proofs.lemmas.Map.Keys.{Less-from_sorted}
use Rattle.std.specs.Cmp.{IsTotalOrder}
use Rattle.std.specs.List.Sorted.{IsBinarySearchResult, IsPartitionPoint, IsSortedBy, IsStrictlySortedBy}
use Rattle.std.specs.Ordering.{is_lt, ordering_reverse}
use Rattle.std.specs.Prelude.{Contains, Some, slice_get}
use Rattle.std.proofs.lemmas.Option.{get_or_from_slice_get, slice_get_read, slice_get_within}
use Rattle.std.specs.declared.cmp.Ordering.{Ordering}
use Rattle.std.specs.declared.cmp.Ordering.TheVariants.{Less, Equal, Greater}
use Rattle.std.proofs.lemmas.List.{length-map}
use denote.Param.Members.{Mut}
use denote.Ref.{Bor}
use Rattle.lists.proofs.Members.{from_map}

key_at : {X K : Type 0} (key : X → K) (xs : List X) (i : ℕ) (d : X) → get_or (map key xs) i (key d) ≡ key (get_or xs i d)
key_at key [] i d = refl
key_at key (x ∷ xs) zero d = refl
key_at key (x ∷ xs) (suc i) d = key_at key xs i d

before_or : (j i : ℕ) → (j < i) ⊎ (i ≤ j)
before_or j zero = inr (omega arith)
before_or zero (suc i) = inl (omega arith)
before_or (suc j) (suc i) = elim (before_or j i) [
  | inl l ↦ inl (omega arith)
  | inr l ↦ inr (omega arith)
]

module _ {X K : Type 0} (R : K → K → Ordering) (o : IsTotalOrder R) (key : X → K) (xs : List X) (up : IsStrictlySortedBy R (map key xs)) where
  rises : IsSortedBy (λ a b. is_lt (R (key a) (key b))) xs
  rises k d low high =
      let inside : k + 1 < length (map key xs) = omega (arith, length-map xs key) in
      let under : k < k + 1 = omega arith in
      let less : R (get_or (map key xs) k (key d)) (get_or (map key xs) (k + 1) (key d)) ≡ Less = Less-from_sorted R (map key xs) k (k + 1) (key d) up under inside in
      let here : R (key (get_or xs k d)) (key (get_or xs (k + 1) d)) ≡ Less = (λ i. R (sym (key_at key xs k d) i) (sym (key_at key xs (k + 1) d) i)) ∙ less in
      ap is_lt (o.antisymm (key (get_or xs (k + 1) d)) (key (get_or xs k d)) ∙ ap ordering_reverse here)

  -- a key that is there is not missed
  pub not_missed : (k : K) (i : ℕ) → Contains (map key xs) k → IsBinarySearchResult (λ y. R (key y) k) xs (Err i) → ⊥
  not_missed k i held missed =
      let (x, (j, inside, at), same) = from_map key xs k held in
      let point : IsPartitionPoint (λ y. R (key y) k ≡ Less) (λ y. R (key y) k ≡ Greater) xs i = missed (searchable_from_sorted o key xs k rises) in
      let tied : R (key (get_or xs j x)) k ≡ Equal = ap (λ z. R (key z) k) at ∙ ap (λ z. R z k) same ∙ tied_itself o k in
      elim (before_or j i) [
        | inl l ↦ (let less : R (key (get_or xs j x)) k ≡ Less = point.0 j x (omega arith) l in absurd (cc))
        | inr l ↦ (let more : R (key (get_or xs j x)) k ≡ Greater = point.1 j x l inside in absurd (cc))
      ]

  apart : (i j : ℕ) (d : X) → i < j → j < length xs → R (key (get_or xs i d)) (key (get_or xs j d)) ≡ Less
  apart i j d under inside =
      let there : j < length (map key xs) = omega (arith, length-map xs key) in
      (λ k. R (sym (key_at key xs i d) k) (sym (key_at key xs j d) k)) ∙ Less-from_sorted R (map key xs) i j (key d) up under there

  tied_apart : (i j : ℕ) (d : X) → i < j → j < length xs → key (get_or xs i d) ≡ key (get_or xs j d) → ⊥
  tied_apart i j d under inside same =
      let less : R (key (get_or xs i d)) (key (get_or xs j d)) ≡ Less = apart i j d under inside in
      let tied : R (key (get_or xs i d)) (key (get_or xs j d)) ≡ Equal = ap (λ k. R k (key (get_or xs j d))) same ∙ tied_itself o (key (get_or xs j d)) in
      absurd (cc)

  -- two places with one key are one
  pub one_place : (i j : ℕ) (x y : X) → slice_get xs i ≡ Some x → slice_get xs j ≡ Some y → key x ≡ key y → i ≡ j
  one_place i j x y a b same = go (before_or i j) (before_or j i)
    where
      at : get_or xs i x ≡ x
      at = get_or_from_slice_get xs i x x a

      other : get_or xs j x ≡ y
      other = get_or_from_slice_get xs j y x b

      keys : key (get_or xs i x) ≡ key (get_or xs j x)
      keys = ap key at ∙ same ∙ sym (ap key other)

      go : (i < j) ⊎ (j ≤ i) → (j < i) ⊎ (i ≤ j) → i ≡ j
      go (inl l) m = absurd (tied_apart i j x l (slice_get_within xs j y b) keys)
      go (inr l) (inl m) = absurd (tied_apart j i x m (slice_get_within xs i x a) (sym keys))
      go (inr l) (inr m) = omega arith

  -- two items with one key are one
  pub one_item : (x y : X) → Contains xs x → Contains xs y → key x ≡ key y → x ≡ y
  one_item x y (i, a, e) (j, b, f) same =
      let p = slice_get_read xs (length xs) i x refl a (sym e) in
      let q = slice_get_read xs (length xs) j y refl b (sym f) in
      let places : i ≡ j = one_place i j x y p q same in
      let both : Some x ≡ Some y = sym p ∙ ap (λ k. slice_get xs k) places ∙ q in
      cc

-- what is found by halving has the key that is sought, where two keys tie only if they are one
pub met : {X K : Type 0} (R : K → K → Ordering) (key : X → K) (xs : List X) → ((a b : K) → R a b ≡ Equal → a ≡ b) → (k : K) (i : ℕ) (x : X) →
    slice_get xs i ≡ Some x → IsBinarySearchResult (λ y. R (key y) k) xs (Ok i) → key x ≡ k
met R key xs one k i x at found = one (key x) k (ap (λ y. R (key y) k) (sym (get_or_from_slice_get xs i x x at)) ∙ found x)

-- ---- the clause of a search whose closure answers by an order
pub halves : {X : Type 0} (ord : X → Ordering) {F : Type 0} {g : Mut F (Bor X × Unit {0}) Ordering} {f : F} (xs : List X) (r : Result ℕ ℕ) →
    ((by : X → Ordering) → ComputesKey g by f → IsBinarySearchResult by xs r) →
    ((a : Bor X × Unit {0}) (q : Ordering) (f' : F) → Called g f a q f' → (q ≡ ord a.0.now) × (f' ≡ f)) → IsBinarySearchResult ord xs r
halves ord {g = g} {f = f} xs r clause answers = clause ord (always_returns_same g (λ a q. q ≡ ord a.0.now) f answers)
