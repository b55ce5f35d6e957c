use Rattle.nonconformance.proofs.Setting.{singles_stay}
use Rattle.nonconformance.proofs.sets.sets.Goals as goal

pub loop-i-preserved : goal.loop-i-preserved
loop-i-preserved c = let (more, same) = c.in_ok-push_alike.ensures in singles_stay _ c.loop-i.sets.items _ more c.loop-i.invariant same
