-- Of items that come before all behind them, those that are left when some in front are dropped.
use Rattle.std.proofs.Common.{List, [], ◌∷◌, ℕ, zero, suc, drop}
use Rattle.schema_tree.specs.Rising.{Rises, RisesFrom}

pub later_rise : {X : Type 0} (IsBefore : X → X → Type 0) (x : X) (xs : List X) → RisesFrom IsBefore x xs → Rises IsBefore xs
later_rise IsBefore x [] h = tt
later_rise IsBefore x (y ∷ ys) (before, rest) = rest

pub behind_rise : {X : Type 0} (IsBefore : X → X → Type 0) (xs : List X) (k : ℕ) → Rises IsBefore xs → Rises IsBefore (drop k xs)
behind_rise IsBefore xs zero h = h
behind_rise IsBefore [] (suc k) h = tt
behind_rise IsBefore (x ∷ xs) (suc k) h = behind_rise IsBefore xs k (later_rise IsBefore x xs h)
