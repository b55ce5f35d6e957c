use Rattle.std.proofs.Common.{arith, rules}
use Rattle.schema_load.proofs.Built.{limits_met}
use Rattle.schema_load.proofs.limits.depths_within.Goals as goal

pub returns-clause-limits : goal.returns-clause-limits
returns-clause-limits c =
    let few = c.if-count_shapes-gt4096.false in
    limits_met c.args.parts.now c.find_deep.result c.find_crowded.result c.count_shapes.result c.in_ok-counts.counts.items (search rules)
    (search rules) c.find_deep.ensures c.find_crowded.ensures c.count_shapes.ensures (omega arith) c.in_ok-counts.ensures
