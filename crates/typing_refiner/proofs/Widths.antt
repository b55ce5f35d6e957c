-- What is told of Widths, pair by pair.
use Rattle.std.proofs.Common.{◌≡◌, ◌∙◌, ℕ, suc, arith, ◌<◌, ◌+◌, ◌++◌, ◌∷◌, [], List, sym, ap, subst, length, map, take, get_or}
use Rattle.std.proofs.Math.Seq.{take-suc}
use Rattle.std.proofs.lemmas.Grind.{flat_map-append}
use Rattle.std.proofs.lemmas.List.{append-nil, map-append}
use Rattle.std.specs.List.{flat_map}

next_taken : {X : Type 0} (xs : List X) (i : ℕ) (d : X) → i < length xs → take (i + 1) xs ≡ take i xs ++ get_or xs i d ∷ []
next_taken xs i d lt = let e : suc i ≡ i + 1 = omega arith in subst (λ j. take j xs ≡ take i xs ++ get_or xs i d ∷ []) e (take-suc xs i d lt)

-- one more item has its image
pub map_next : {X Y : Type 0} (f : X → Y) (xs : List X) (i : ℕ) (d : X) (y : Y) (old new : List Y) → i < length xs → old ≡ map f (take i xs) → new ≡ old ++ y ∷ [] → y ≡ f (get_or xs i d) →
    new ≡ map f (take (i + 1) xs)
map_next f xs i d y old new lt before grown image =
    (grown ∙ (ap (λ zs. zs ++ y ∷ []) before ∙ ap (λ z. map f (take i xs) ++ z ∷ []) image))
    ∙ sym (ap (map f) (next_taken xs i d lt) ∙ map-append f (take i xs) (get_or xs i d ∷ []))

-- one more item has its images
pub flat_next : {X Y : Type 0} (f : X → List Y) (xs : List X) (i : ℕ) (d : X) (ys old new : List Y) → i < length xs → old ≡ flat_map f (take i xs) → new ≡ old ++ ys → ys ≡ f (get_or xs i d) →
    new ≡ flat_map f (take (i + 1) xs)
flat_next f xs i d ys old new lt before grown image =
    (grown ∙ (ap (λ zs. zs ++ ys) before ∙ ap (λ z. flat_map f (take i xs) ++ z) (image ∙ sym (append-nil (f (get_or xs i d))))))
    ∙ sym (ap (flat_map f) (next_taken xs i d lt) ∙ flat_map-append f (take i xs) (get_or xs i d ∷ []))
