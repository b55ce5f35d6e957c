-- Visits to places, by which they are sorted.
use Rattle.std.specs.Prelude.{ℕ, Bool, true, false, ◌+◌, ◌<◌, ◌≡◌, ◌⊎◌, List, ◌∷◌, Some, get_or, length, slice_get}
use Rattle.schema_load.specs.declared.part.Part.{Part}
use Rattle.schema_load.specs.declared.sorting.Visit.{Visit}
use Rattle.schema_load.specs.declared.sorting.Visit.TheVariants.{Enter, Leave}
use Rattle.schema_load.specs.Graph.{Reaches}
use Rattle.schema_load.specs.Steps.{IsNext, nexts}

-- the place of a visit
abbrev pub place_of : Visit → ℕ
place_of (Enter p) = p
place_of (Leave p) = p

-- each of so many places is entered
pub record AreEntered (n : ℕ) (visits : List Visit) : Type 0 where
  pub size : length visits ≡ n
  pub each : (p : ℕ) → p < n → slice_get visits p ≡ Some (Enter p)

-- a visit to the place q comes behind number i
abbrev pub IsBehind : List Visit → ℕ → ℕ → Type 0
IsBehind visits i q = (j : ℕ) × (v : Visit) × (i < j) × (slice_get visits j ≡ Some v) × (place_of v ≡ q)

-- there is a visit to the place
abbrev pub IsVisited : List Visit → ℕ → Type 0
IsVisited visits q = (j : ℕ) × (v : Visit) × (slice_get visits j ≡ Some v) × (place_of v ≡ q)

-- What holds of the visits that are left, of which the last is the next one.
pub record IsVisiting (parts : List Part) (targets : List ℕ) (opened done : List Bool) (visits : List Visit) : Type 0 where
  pub size : length opened ≡ length parts
  pub inside : (i : ℕ) (v : Visit) → slice_get visits i ≡ Some v → place_of v < length parts
  -- all to which a place leads are done before it is left
  pub pending : (i p q : ℕ) → slice_get visits i ≡ Some (Leave p) → IsNext parts targets p q → (get_or done q false ≡ true) ⊎ IsBehind visits i q
  -- what is visited before a place is left is reached from it
  pub reach : (i j p : ℕ) (v : Visit) → slice_get visits i ≡ Some (Leave p) → i < j → slice_get visits j ≡ Some v → Reaches parts p (place_of v)
  -- a place that was entered is done, or it is to be left
  pub left : (q : ℕ) → get_or opened q false ≡ true → (get_or done q false ≡ true) ⊎ ((i : ℕ) × (slice_get visits i ≡ Some (Leave q)))
  -- each place is done or is visited
  pub waits : (q : ℕ) → q < length parts → (get_or done q false ≡ true) ⊎ IsVisited visits q

-- the visits that the places that were not entered can lead to
abbrev pub unopened : List Part → List ℕ → List Bool → ℕ
unopened (x ∷ xs) (t ∷ ts) (true ∷ os) = unopened xs ts os
unopened (x ∷ xs) (t ∷ ts) (false ∷ os) = (1 + length (nexts t x)) + unopened xs ts os
unopened _ _ _ = 0
