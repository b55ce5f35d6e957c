use Rattle.node_constraint.proofs.Deciding.{decide_nodes}
use Rattle.node_constraint.proofs.laws.nodes_are_decided.Goals as goal

pub returns : goal.returns
returns c = decide_nodes
