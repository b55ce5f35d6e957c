-- No place stands twice among the entries.
use Rattle.std.proofs.Common.{◌≡◌, ℕ, zero, suc, ◌+◌, ◌<◌, ◌≤◌, List, [], ◌∷◌, ◌++◌, refl, sym, ap, subst, arith, length, Some, Bool, true, false, get_or, inl, inr, ◌⊎◌, if◌then◌else◌}
use Rattle.std.specs.Prelude.{filter, nat_eq, slice_get, Contains}
use Rattle.std.proofs.lemmas.Bool.{eqb-true}
use Rattle.std.proofs.lemmas.List.Elements.{Contains-append_cases}
use Rattle.lists.specs.Distinct.{AreDistinct}
use Rattle.lists.proofs.Filters.{in_filter}
use Rattle.lists.proofs.Members.{in_rest, not_in_none}
use Rattle.schema_load.specs.declared.part.Part.{Part}
use Rattle.schema_load.specs.Parts.{is_entry, places_where, with_place}
use Rattle.schema_load.specs.Stands.{entry_places, of_depth}
use Rattle.schema_load.proofs.Loadable.{append_cases, held_at, index_of}

-- ---- lists

pub none_twice : {X : Type 0} → AreDistinct {X = X} []
none_twice i j x a b = absurd (let bad : ⊥ = cc in bad)

pub one_more_apart : {X : Type 0} (x : X) (xs : List X) → (¬ Contains xs x) → AreDistinct xs → AreDistinct (x ∷ xs)
one_more_apart x xs new apart zero zero y a b = refl
one_more_apart x xs new apart zero (suc j) y a b = let same : x ≡ y = cc in absurd (new (subst (λ z. Contains xs z) (sym same) (held_at xs j y b)))
one_more_apart x xs new apart (suc i) zero y a b = let same : x ≡ y = cc in absurd (new (subst (λ z. Contains xs z) (sym same) (held_at xs i y a)))
one_more_apart x xs new apart (suc i) (suc j) y a b = ap suc (apart i j y a b)

rest_apart : {X : Type 0} (x : X) (xs : List X) → AreDistinct (x ∷ xs) → AreDistinct xs
rest_apart x xs apart i j y a b = let same = apart (suc i) (suc j) y a b in omega arith

first_apart : {X : Type 0} (x : X) (xs : List X) → AreDistinct (x ∷ xs) → ¬ Contains xs x
first_apart x xs apart c = let (i, at) = index_of xs x c in let same = apart (suc i) 0 x at refl in omega arith

pub sift_apart : {X : Type 0} (p : X → Bool) (xs : List X) → AreDistinct xs → AreDistinct (filter p xs)
sift_apart p [] apart = none_twice
sift_apart p (x ∷ xs) apart = go (p x) (sift_apart p xs (rest_apart x xs apart))
  where
    go : (b : Bool) → AreDistinct (filter p xs) → AreDistinct (if b then x ∷ filter p xs else filter p xs)
    go true rest = one_more_apart x (filter p xs) (λ c. first_apart x xs apart ((in_filter p xs x c).0)) rest
    go false rest = rest

pub join_apart : {X : Type 0} (xs ys : List X) → AreDistinct xs → AreDistinct ys → ((x : X) → Contains xs x → ¬ Contains ys x) → AreDistinct (xs ++ ys)
join_apart xs ys a b apart i j x at there = go (append_cases xs ys i x at) (append_cases xs ys j x there)
  where
    go : ((i < length xs) × (slice_get xs i ≡ Some x)) ⊎ ((k : ℕ) × (i ≡ length xs + k) × (slice_get ys k ≡ Some x)) →
        ((j < length xs) × (slice_get xs j ≡ Some x)) ⊎ ((k : ℕ) × (j ≡ length xs + k) × (slice_get ys k ≡ Some x)) → i ≡ j
    go (inl (lt, h)) (inl (less, g)) = a i j x h g
    go (inl (lt, h)) (inr (k, is, g)) = absurd (apart x (held_at xs i x h) (held_at ys k x g))
    go (inr (k, is, h)) (inl (lt, g)) = absurd (apart x (held_at xs j x g) (held_at ys k x h))
    go (inr (k, is, h)) (inr (n, e, g)) = let same = b k n x h g in omega arith

-- ---- places

place_low : (test : Part → Bool) (k : ℕ) (us : List Part) (p : ℕ) → Contains (places_where test k us) p → k ≤ p
place_low test k [] p c = absurd (not_in_none p c)
place_low test k (u ∷ us) p c = go (test u) c (λ h. place_low test (k + 1) us p h)
  where
    go : (b : Bool) → Contains (with_place b k (places_where test (k + 1) us)) p → (Contains (places_where test (k + 1) us) p → k + 1 ≤ p) → k ≤ p
    go true h deeper = elim (in_rest k (places_where test (k + 1) us) p h) [
      | inl same ↦ omega arith
      | inr rest ↦ (let l = deeper rest in omega arith)
    ]
    go false h deeper = let l = deeper h in omega arith

pub places_apart : (test : Part → Bool) (k : ℕ) (us : List Part) → AreDistinct (places_where test k us)
places_apart test k [] = none_twice
places_apart test k (u ∷ us) = go (test u) (places_apart test (k + 1) us)
  where
    go : (b : Bool) → AreDistinct (places_where test (k + 1) us) → AreDistinct (with_place b k (places_where test (k + 1) us))
    go true rest = one_more_apart k (places_where test (k + 1) us) (λ c. (let low = place_low test (k + 1) us k c in omega arith)) rest
    go false rest = rest

module _ (parts : List Part) (depths : List ℕ) where
  of_depth_is : (n p : ℕ) → Contains (of_depth parts depths n) p → get_or depths p 0 ≡ n
  of_depth_is n p c = eqb-true (get_or depths p 0) n (in_filter (λ q. nat_eq (get_or depths q 0) n) (places_where is_entry 0 parts) p c).1

  up_to : (n p : ℕ) → Contains (entry_places parts depths n) p → get_or depths p 0 ≤ n
  unfolding entry_places
  up_to zero p c = absurd (not_in_none p c)
  up_to (suc n) p c = elim (Contains-append_cases (entry_places parts depths n) (of_depth parts depths (suc n)) p c) [
    | inl low ↦ (let h = up_to n p low in omega arith)
    | inr here ↦ (let h = of_depth_is (suc n) p here in omega arith)
  ]

  -- no place stands twice in the order of entries
  pub entries_apart : (n : ℕ) → AreDistinct (entry_places parts depths n)
  unfolding entry_places
  entries_apart zero = none_twice
  entries_apart (suc n) = join_apart (entry_places parts depths n) (of_depth parts depths (suc n)) (entries_apart n)
      (sift_apart (λ p. nat_eq (get_or depths p 0) (suc n)) (places_where is_entry 0 parts) (places_apart is_entry 0 parts))
      (λ p low here. (let l = up_to n p low in let h = of_depth_is (suc n) p here in omega arith))

  -- each is the place of an entry
  pub entry_there : (n p : ℕ) → Contains (entry_places parts depths n) p → Contains (places_where is_entry 0 parts) p
  unfolding entry_places
  entry_there zero p c = absurd (not_in_none p c)
  entry_there (suc n) p c = elim (Contains-append_cases (entry_places parts depths n) (of_depth parts depths (suc n)) p c) [
    | inl low ↦ entry_there n p low
    | inr here ↦ (in_filter (λ q. nat_eq (get_or depths q 0) (suc n)) (places_where is_entry 0 parts) p here).0
  ]
