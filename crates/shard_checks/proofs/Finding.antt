-- The first item of a list whose image passes a test, found one after the other.
use Rattle.std.proofs.Common.{◌≡◌, ◌∙◌, ◌++◌, ◌<◌, ◌+◌, ◌≤◌, Bool, true, false, cond, ℕ, suc, List, [], ◌∷◌, sym, ap, drop, filter, get_or, length, map, take}
use Rattle.std.proofs.lemmas.List.{map-append, take-append-drop, take_all, take_more}
use Rattle.std.proofs.lemmas.List.Elements.{filter-append}
use Rattle.std.proofs.Math.Seq.{drop-cons}
use Rattle.std.specs.Prelude.{Some, slice_get}

module _ {X Y : Type 0} (f : X → Y) (p : Y → Bool) where
  abbrev passing : List X → List Y
  passing xs = filter p (map f xs)

  both : (xs ys : List X) → passing (xs ++ ys) ≡ passing xs ++ passing ys
  both xs ys = ap (filter p) (map-append f xs ys) ∙ filter-append p (map f xs) (map f ys)

  -- so far none passes, nor does the next
  pub none_more : (xs : List X) (i : ℕ) (d : X) → i < length xs → passing (take i xs) ≡ [] → p (f (get_or xs i d)) ≡ false → passing (take (i + 1) xs) ≡ []
  none_more xs i d lt none fails =
      ap passing (take_more xs i d lt) ∙ both (take i xs) (get_or xs i d ∷ []) ∙ (λ j. none j ++ cond (fails j) (f (get_or xs i d) ∷ []) [])

  -- and none passes of all
  pub none_of_all : (xs : List X) (i : ℕ) → length xs ≤ i → passing (take i xs) ≡ [] → passing xs ≡ []
  none_of_all xs i all none = sym (ap passing (take_all i xs all)) ∙ none

  -- so far none passes, and the next does
  pub first_here : (xs : List X) (i : ℕ) (d : X) → i < length xs → passing (take i xs) ≡ [] → p (f (get_or xs i d)) ≡ true → slice_get (passing xs) 0 ≡ Some (f (get_or xs i d))
  first_here xs i d lt none passes =
      ap (λ zs. slice_get (passing zs) 0) (sym (take-append-drop i xs) ∙ ap (λ zs. take i xs ++ zs) (drop-cons xs i d lt))
      ∙ ap (λ zs. slice_get zs 0) (both (take i xs) (get_or xs i d ∷ drop (suc i) xs))
      ∙ (λ j. slice_get (none j ++ cond (passes j) (f (get_or xs i d) ∷ passing (drop (suc i) xs)) (passing (drop (suc i) xs))) 0)
