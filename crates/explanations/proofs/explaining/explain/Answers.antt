use Rattle.std.proofs.Common.{ap, arith, length}
use Rattle.explanations.specs.Mentions.{blocks_in}
use Rattle.explanations.proofs.Walked.{explained}
use Rattle.explanations.proofs.explaining.explain.Goals as goal

pub returns-clause-told : goal.returns-clause-told
returns-clause-told g c =
    explained c.args.schema.now c.args.terms.now (g.V.View.known c.args.view.now) c.args.graph.now.triples c.answers.new.seen c.args.associations.now
    c.in_ok-answers.answers.items c.of.result c.of.ensures c.in_ok-answers.ensures c.len-count.ensures.distinct

pub returns-clause-few : goal.returns-clause-few
returns-clause-few g c =
    let few = c.len-count.ensures.few in
    let size = c.len-count.ensures.count in
    let same = c.in_ok-answers.ensures.count in
    let given = ap (λ z. length (blocks_in z)) c.of.ensures in
    omega (arith, few, size, same, given)
