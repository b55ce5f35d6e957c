use Rattle.std.proofs.Common.{List, ℕ, ◌++◌, ◌≡◌, ◌<◌, Contains, length}
use Rattle.schema_load.proofs.groups.join.Given as goal

abbrev pub invariant-loop-start : goal.invariant-loop-start
invariant-loop-start l = (out : List ℕ) × (l.fn.starts.items ≡ l.starts.items ++ out) × ((b : ℕ) → Contains out b → l.position < b)

abbrev pub decreases-loop-start : goal.decreases-loop-start
decreases-loop-start l = length l.starts.items
