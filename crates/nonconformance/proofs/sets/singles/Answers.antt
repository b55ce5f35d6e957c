use Rattle.std.proofs.Common.{◌∙◌}
use Rattle.nonconformance.proofs.Setting.{single_more}
use Rattle.nonconformance.proofs.sets.singles.Goals as goal

pub loop-i-preserved : goal.loop-i-preserved
loop-i-preserved c = single_more c.loop-i.i c.loop-i.sets.items _ _ c.loop-i.invariant c.in_ok-push.ensures.items (c.of.ensures ∙ c.in_ok-vec.ensures.items)
