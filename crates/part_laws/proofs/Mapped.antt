-- Tests, counts and sorting of a list whose items are led elsewhere one to one.
use Rattle.std.proofs.Common.{◌≡◌, ◌∙◌, ℕ, List, [], ◌∷◌, refl, sym, ap, Bool, true, false, cond, filter, map, length}
use Rattle.std.proofs.lemmas.List.{length-map}
use Rattle.std.proofs.lemmas.List.Sorted.{Contains-permutation, IsPermutation-sym}
use Rattle.std.proofs.lemmas.List.Sums.{length-filter}
use Rattle.std.specs.declared.cmp.Ordering.{Ordering}
use Rattle.std.specs.declared.cmp.Ordering.TheVariants.{Equal, Greater, Less}
use Rattle.std.specs.List.{list_all, list_any}
use Rattle.std.specs.Prelude.{◌&&◌, ◌||◌, Contains, count_by}
use Rattle.lists.specs.Sorting.{insert_by, put_by, sorted_by}
use Rattle.lists.proofs.Filters.{filter_same}
use Rattle.lists.proofs.Members.{is_first, is_later}
use Rattle.lists.proofs.Ordered.{sorted_same}

pub any_alike : {X : Type 0} (p q : X → Bool) (xs : List X) → ((x : X) → Contains xs x → p x ≡ q x) → list_any p xs ≡ list_any q xs
any_alike p q [] same = refl
any_alike p q (x ∷ xs) same = λ i. same x (is_first x xs) i || any_alike p q xs (λ y c. same y (is_later x xs y c)) i

pub all_alike : {X : Type 0} (p q : X → Bool) (xs : List X) → ((x : X) → Contains xs x → p x ≡ q x) → list_all p xs ≡ list_all q xs
all_alike p q [] same = refl
all_alike p q (x ∷ xs) same = λ i. same x (is_first x xs) i && all_alike p q xs (λ y c. same y (is_later x xs y c)) i

pub count_alike : {X : Type 0} (p q : X → Bool) (xs : List X) → ((x : X) → Contains xs x → p x ≡ q x) → count_by p xs ≡ count_by q xs
count_alike p q xs same = sym (length-filter p xs) ∙ ap (λ zs. length zs) (filter_same p q xs same) ∙ length-filter q xs

module _ {X Y : Type 0} (f : X → Y) where
  pub filter_mapped : (p : X → Bool) (q : Y → Bool) (xs : List X) → ((x : X) → q (f x) ≡ p x) → filter q (map f xs) ≡ map f (filter p xs)
  filter_mapped p q [] same = refl
  filter_mapped p q (x ∷ xs) same = (λ i. cond (same x i) (f x ∷ filter_mapped p q xs same i) (filter_mapped p q xs same i)) ∙ out (p x)
    where
      out : (b : Bool) → cond b (f x ∷ map f (filter p xs)) (map f (filter p xs)) ≡ map f (cond b (x ∷ filter p xs) (filter p xs))
      out true = refl
      out false = refl

  pub any_mapped : (p : X → Bool) (q : Y → Bool) (xs : List X) → ((x : X) → q (f x) ≡ p x) → list_any q (map f xs) ≡ list_any p xs
  any_mapped p q [] same = refl
  any_mapped p q (x ∷ xs) same = λ i. same x i || any_mapped p q xs same i

  pub count_mapped : (p : X → Bool) (q : Y → Bool) (xs : List X) → ((x : X) → q (f x) ≡ p x) → count_by q (map f xs) ≡ count_by p xs
  count_mapped p q xs same =
      sym (length-filter q (map f xs)) ∙ ap (λ zs. length zs) (filter_mapped p q xs same) ∙ length-map (filter p xs) f ∙ length-filter p xs

  pub map_mapped : (h : X → ℕ) (k : Y → ℕ) (xs : List X) → ((x : X) → k (f x) ≡ h x) → map k (map f xs) ≡ map h xs
  map_mapped h k [] same = refl
  map_mapped h k (x ∷ xs) same = λ i. same x i ∷ map_mapped h k xs same i

  module _ (order : X → X → Ordering) (other : Y → Y → Ordering) where
    put_mapped : (r : Ordering) (x y : X) (ys rest : List X) → put_by r (f x) (f y) (map f ys) (map f rest) ≡ map f (put_by r x y ys rest)
    put_mapped Less x y ys rest = refl
    put_mapped Equal x y ys rest = refl
    put_mapped Greater x y ys rest = refl

    insert_mapped : (x : X) (ys : List X) → ((y : X) → Contains ys y → other (f x) (f y) ≡ order x y) → insert_by other (f x) (map f ys) ≡ map f (insert_by order x ys)
    insert_mapped x [] same = refl
    insert_mapped x (y ∷ ys) same =
        (λ i. put_by (same y (is_first y ys) i) (f x) (f y) (map f ys) (insert_mapped x ys (λ z c. same z (is_later y ys z c)) i))
        ∙ put_mapped (order x y) x y ys (insert_by order x ys)

    pub sorted_mapped : (xs : List X) → ((x y : X) → Contains xs x → Contains xs y → other (f x) (f y) ≡ order x y) → sorted_by other (map f xs) ≡ map f (sorted_by order xs)
    sorted_mapped [] same = refl
    sorted_mapped (x ∷ xs) same =
        ap (insert_by other (f x)) (sorted_mapped xs (λ y z c d. same y z (is_later x xs y c) (is_later x xs z d)))
        ∙ insert_mapped x (sorted_by order xs) (λ y c. same x y (is_first x xs)
        (is_later x xs y (Contains-permutation (sorted_by order xs) xs y (IsPermutation-sym xs (sorted_by order xs) (sorted_same order xs)) c)))
