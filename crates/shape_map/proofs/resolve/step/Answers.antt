use Rattle.std.proofs.Common.{arith}
use Rattle.shape_map.proofs.Chosen.{many_refuses}
use Rattle.shape_map.proofs.resolve.step.Goals as goal

pub returns-then-len : goal.returns-then-len
returns-then-len c = many_refuses c.args.schema.now c.args.graph.now.triples c.args.terms.now _ c.args.item.now _ _ c.in_ok-expr.ensures c.in_ok-nodes.ensures (omega arith)
