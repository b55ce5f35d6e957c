use Rattle.std.proofs.Common.{ℕ, ◌<◌}
use Rattle.schema_load.specs.Circles.{IsRound}
use Rattle.schema_load.proofs.circles.Circles.first_circle.Given as goal

abbrev pub invariant-loop-place : goal.invariant-loop-place
invariant-loop-place l = (q : ℕ) → q < l.place → ¬ IsRound l.self.parts.now l.kind q
