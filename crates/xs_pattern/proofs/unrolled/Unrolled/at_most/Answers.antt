use Rattle.xs_pattern.specs.Unrolling.{at_most}
use Rattle.xs_pattern.proofs.Repeated.{copied_or_none}
use Rattle.xs_pattern.proofs.Ways.{way_nothing}
use Rattle.xs_pattern.proofs.unrolled.Unrolled.at_most.Goals as goal

pub loop-made-init : goal.loop-made-init
unfolding at_most
loop-made-init c = way_nothing

pub loop-made-preserved : goal.loop-made-preserved
loop-made-preserved c = copied_or_none _ _ _ _ _ _ _ c.in_ok-all.ensures way_nothing c.in_ok-longer.ensures c.in_ok-copy.ensures c.loop-made.invariant
