use Rattle.node_constraint.proofs.Told.{at_most_told}
use Rattle.node_constraint.proofs.facet.is_at_most.Goals as goal

pub returns : goal.returns
returns c =
    at_most_told c.compare_decimals.result c.args.a.now c.args.b.now c.is_le.result c.is_le.ensures c.compare_decimals.ensures.less c.compare_decimals.ensures.equal
