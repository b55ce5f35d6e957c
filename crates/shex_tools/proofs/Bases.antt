-- What stands in import words.
use Rattle.std.proofs.Common.{◌≡◌, ◌∙◌, ap, sym, ℕ, ◌<◌, List, arith, get_or, length, map}
use Rattle.std.proofs.lemmas.List.{get_or-map, length-map}

-- the item at a place, seen twice
pub seen_twice : {X Y Z : Type 0} (f : X → Y) (g : Y → Z) (xs : List X) (n : ℕ) (x : X) (d : Z) → n < length xs → x ≡ get_or xs n x → g (f x) ≡ get_or (map g (map f xs)) n d
seen_twice f g xs n x d inside is =
    let within : n < length (map f xs) = omega (arith, inside, length-map xs f) in
    ap (λ y. g (f y)) is ∙ ap g (sym (get_or-map f xs n x (f x) inside)) ∙ sym (get_or-map g (map f xs) n (f x) d within)
