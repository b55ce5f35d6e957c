use Rattle.std.proofs.Common.{arith}
use Rattle.typing_session.proofs.Walking.{not_many}
use Rattle.typing_session.proofs.answering.asked.Goals as goal

pub returns-then-len-clause-few : goal.returns-then-len-clause-few
returns-then-len-clause-few c =
    not_many c.args.schema.now c.args.terms.now c.args.graph.now.triples c.args.node c.args.expr c.args.kept.now c.in_ok-found.found.items c.in_ok-found.ensures.fresh
    (let t = c.if-len.true in let k = c.len.ensures.count in let f = c.len-2.ensures in let few = c.in_ok-found.ensures.few in omega (arith, t, k, f, few))
