-- Lists of lists, and lists that are joined.
use Rattle.std.proofs.Common.{◌≡◌, List, [], ◌∷◌, ◌++◌, refl, map, append_assoc}
use Rattle.std.specs.List.Sorted.{IsPermutation}
use Rattle.std.proofs.lemmas.List.Sorted.{IsPermutation-append_left, IsPermutation-append_comm, IsPermutation-append_right, IsPermutation-trans}
use Rattle.std.proofs.lemmas.List.Concat.{flat_map-append}
use Rattle.std.specs.List.{AllByRecursion, flat_map}
use Rattle.lists.proofs.Quantifiers.{all_front, all_back}

-- the items of all lists
abbrev pub flat : {X : Type 0} → List (List X) → List X
flat xss = flat_map (λ xs. xs) xss

-- what holds of all items of all lists holds of all of each
pub all_flat : {X : Type 0} (P : X → Type 0) (xss : List (List X)) → AllByRecursion P (flat xss) → AllByRecursion (AllByRecursion P) xss
all_flat P [] h = tt
all_flat P (xs ∷ xss) h = (all_front P xs (flat xss) h, all_flat P xss (all_back P xs (flat xss) h))

-- to flatten the inner lists first or the outer ones first gives the same
pub flat_of_maps : {X : Type 0} (xsss : List (List (List X))) → flat (map flat xsss) ≡ flat (flat xsss)
flat_of_maps [] = refl
flat_of_maps (xss ∷ xsss) = rw (flat_map-append (λ xs. xs) xss (flat xsss), flat_of_maps xsss)

-- (x ++ P) ++ (y ++ R) to x ++ (y ++ Z), where P ++ R is Z in another order
pub interleave : {X : Type 0} (x P y R Z : List X) → IsPermutation (P ++ R) Z → IsPermutation ((x ++ P) ++ (y ++ R)) (x ++ (y ++ Z))
interleave x P y R Z h =
    let swap : IsPermutation ((P ++ y) ++ R) ((y ++ P) ++ R) = IsPermutation-append_left R (P ++ y) (y ++ P) (IsPermutation-append_comm P y) in
    let swapped : IsPermutation (P ++ (y ++ R)) (y ++ (P ++ R)) = simp append_assoc at swap in
    let whole : IsPermutation (P ++ (y ++ R)) (y ++ Z) = IsPermutation-trans _ _ _ swapped (IsPermutation-append_right y (P ++ R) Z h) in
    rw (append_assoc x P (y ++ R)) (IsPermutation-append_right x (P ++ (y ++ R)) (y ++ Z) whole)
