use Rattle.node_constraint.proofs.Failing.{one_is_enough}
use Rattle.node_constraint.proofs.laws.failed_part_is_enough.Goals as goal

pub returns : goal.returns
returns c = one_is_enough
