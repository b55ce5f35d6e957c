use Rattle.std.proofs.Common.{◌≡◌}
use Rattle.xs_pattern.specs.Unrolling.{at_most}
use Rattle.xs_pattern.specs.Way.{way_of}
use Rattle.xs_pattern.proofs.unrolled.Unrolled.at_most.Given as goal

abbrev pub invariant-loop-made : goal.invariant-loop-made
invariant-loop-made l = way_of l.all ≡ at_most l._made (way_of l.self)
