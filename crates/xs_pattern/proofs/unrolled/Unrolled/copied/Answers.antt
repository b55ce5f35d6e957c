use Rattle.xs_pattern.specs.Unrolling.{copies}
use Rattle.xs_pattern.proofs.Repeated.{copied}
use Rattle.xs_pattern.proofs.Ways.{way_nothing}
use Rattle.xs_pattern.proofs.unrolled.Unrolled.copied.Goals as goal

pub loop-made-init : goal.loop-made-init
unfolding copies
loop-made-init c = way_nothing

pub loop-made-preserved : goal.loop-made-preserved
loop-made-preserved c = copied _ _ _ _ _ c.in_ok-all.ensures c.in_ok-copy.ensures c.loop-made.invariant
