-- Another order of a list's images is the images of another order of the list.
use Rattle.std.proofs.Common.{◌≡◌, ℕ, ◌<◌, List, [], ◌∷◌, refl, arith, sym, ap, ◌∙◌, length, map, get_or, set}
use Rattle.std.proofs.lemmas.List.{length-map, map-set, get_or-map}
use Rattle.std.proofs.lemmas.List.Sorted.{IsPermutation-refl, IsPermutation-trans, IsPermutation-swap, IsPermutation-keeps}
use Rattle.std.specs.Prelude.{swap}
use Rattle.std.specs.List.Sorted.{IsPermutation}

pub map_swap :
    {A B : Type 0} (f : A → B) (xs : List A) (i j : ℕ) → i < length xs → j < length xs → map f (swap xs i j) ≡ swap (map f xs) i j
map_swap f [] i j li lj = refl
map_swap f (d ∷ ys) i j li lj =
    let a = get_or-map f (d ∷ ys) j d (f d) lj in
    let b = get_or-map f (d ∷ ys) i d (f d) li in
    rw (map-set f (set (d ∷ ys) i (get_or (d ∷ ys) j d)) j (get_or (d ∷ ys) i d), map-set f (d ∷ ys) i (get_or (d ∷ ys) j d), ← a, ← b) refl

pub record Lift {A B : Type 0} (f : A → B) (xs : List A) (ys : List B) : Type 0 where
  pub lifted : List A
  pub moved : IsPermutation xs lifted
  pub is : map f lifted ≡ ys

pub lift : {A B : Type 0} (f : A → B) (xs : List A) (ys : List B) → IsPermutation (map f xs) ys → Lift f xs ys
lift {A} {B} f xs ys = IsPermutation-keeps (map f xs) (λ zs. Lift f xs zs) (record { lifted = xs; moved = IsPermutation-refl xs; is = refl }) step ys
  where
    step : (l : List B) (i j : ℕ) → i < length l → j < length l → Lift f xs l → Lift f xs (swap l i j)
    step l i j li lj t =
        let size : length t.lifted ≡ length l = sym (length-map t.lifted f) ∙ ap length t.is in
        record {
          lifted = swap t.lifted i j;
          moved = IsPermutation-trans _ _ _ t.moved (IsPermutation-swap t.lifted (swap t.lifted i j) i j (omega arith) (omega arith) refl);
          is = map_swap f t.lifted i j (omega arith) (omega arith) ∙ ap (λ l. swap l i j) t.is;
        }
