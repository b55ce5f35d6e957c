use Rattle.node_constraint.proofs.Judging.{judged}
use Rattle.node_constraint.proofs.laws.refusals_are_decided.Goals as goal

pub returns : goal.returns
returns c = judged
