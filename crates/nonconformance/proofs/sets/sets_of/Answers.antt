use Rattle.nonconformance.proofs.Setting.{singles_longer}
use Rattle.nonconformance.proofs.sets.sets_of.Goals as goal

pub returns : goal.returns
returns c = singles_longer _ c.in_ok-sets.sets.items _ c.in_ok-sets.ensures c.in_ok-constraints_of.ensures
