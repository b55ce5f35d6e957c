use Rattle.std.proofs.Common.{subst}
use Rattle.std.proofs.lemmas.List.{take_all}
use Rattle.lists.proofs.Members.{item_there}
use Rattle.explanations.proofs.Walked.{AreToldSoFar, told_all, told_next, told_none}
use Rattle.explanations.proofs.explaining.Source.answers.Goals as goal

pub loop-association-init : goal.loop-association-init
loop-association-init g c =
    told_none c.args.self.now.schema.now c.args.self.now.terms.now (g.V.View.known c.args.self.now.view.now) c.args.self.now.graph.now.triples c.args.seen.now
    c.new-answers.result.items c.requires.none c.new-answers.ensures.items

pub loop-association-preserved : goal.loop-association-preserved
loop-association-preserved g c =
    told_next c.args.self.now.schema.now c.args.self.now.terms.now (g.V.View.known c.args.self.now.view.now) c.args.self.now.graph.now.triples c.loop-association.seen
    c.told.new.seen c.args.associations.now c.loop-association.association-index c.association-item.result c.loop-association.answers.items _
    c.in_ok-told.field-0 c.loop-association-test.true c.association-item.is c.loop-association.invariant c.in_ok-told.ensures.numbers c.in_ok-told.ensures.count
    c.in_ok-told.ensures.is c.in_ok-told.ensures.blocks c.in_ok-push.ensures.items

pub told-requires-clause-entry : goal.told-requires-clause-entry
told-requires-clause-entry g c =
    c.requires.asked c.association-item.result
    (item_there c.args.associations.now c.loop-association.association-index c.association-item.result c.loop-association-test.true c.association-item.is)

pub returns : goal.returns
returns g c =
    let s = c.args.self.now.schema.now in
    let terms = c.args.self.now.terms.now in
    let view = g.V.View.known c.args.self.now.view.now in
    let graph = c.args.self.now.graph.now.triples in
    told_all s terms view graph c.loop-association.seen c.args.associations.now c.loop-association.answers.items
    (subst (λ z. AreToldSoFar s terms view graph c.loop-association.seen z c.loop-association.answers.items)
    (take_all c.loop-association.association-index c.args.associations.now c.loop-association-test.false) c.loop-association.invariant)
