-- What holds of some item.
use Rattle.std.specs.Prelude.{List, [], ◌∷◌, ◌⊎◌}

-- the fact holds of some item
abbrev pub SomeByRecursion : {X : Type 0} → (X → Type 0) → List X → Type 0
SomeByRecursion P [] = ⊥
SomeByRecursion P (x ∷ xs) = P x ⊎ SomeByRecursion P xs
