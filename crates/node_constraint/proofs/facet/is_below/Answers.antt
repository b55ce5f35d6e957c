use Rattle.node_constraint.proofs.Told.{below_told}
use Rattle.node_constraint.proofs.facet.is_below.Goals as goal

pub returns : goal.returns
returns c = below_told c.compare_decimals.result c.args.a.now c.args.b.now c.is_lt.result c.is_lt.ensures c.compare_decimals.ensures.less
