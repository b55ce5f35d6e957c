-- What is added to a list where it is new.
use Rattle.std.specs.Prelude.{List, [], ◌∷◌, ◌++◌, ◌≡◌, ◌⊎◌, Contains}

-- an item goes last where the list does not hold it, and else the list stays
abbrev pub Adds : {X : Type 0} → List X → X → List X → Type 0
Adds old x new = (Contains old x × (new ≡ old)) ⊎ ((¬ Contains old x) × (new ≡ old ++ x ∷ []))

-- one item after the other goes last where the list does not hold it
pub data AddsAll {X : Type 0} : List X → List X → List X → Type 0 where
  none : {old : List X} → AddsAll old [] old
  more : {old mid new xs : List X} {x : X} → Adds old x mid → AddsAll mid xs new → AddsAll old (x ∷ xs) new
