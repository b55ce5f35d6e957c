use Rattle.node_constraint.proofs.Numbers.{outside}
use Rattle.node_constraint.proofs.datatypes.is_numeric.Goals as goal

pub returns-in-None : goal.returns-in-None
returns-in-None c = outside c.args.datatype.now c.in-None.ensures.cases
