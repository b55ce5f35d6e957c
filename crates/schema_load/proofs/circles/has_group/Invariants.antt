use Rattle.std.proofs.Common.{ℕ, ◌<◌, ◌≡◌, get_or}
use Rattle.schema_load.proofs.circles.has_group.Given as goal

abbrev pub invariant-loop-place : goal.invariant-loop-place
invariant-loop-place l = (k : ℕ) → k < l.place-index → ¬ (get_or l.groups (get_or l.places k 0) 0 ≡ l.group)
