use Rattle.std.proofs.Common.{◌≡◌}
use Rattle.xs_pattern.specs.Unrolling.{copies}
use Rattle.xs_pattern.specs.Way.{way_of}
use Rattle.xs_pattern.proofs.unrolled.Unrolled.copied.Given as goal

abbrev pub invariant-loop-made : goal.invariant-loop-made
invariant-loop-made l = way_of l.all ≡ copies l._made (way_of l.self)
