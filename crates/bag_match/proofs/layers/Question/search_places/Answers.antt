use Rattle.std.proofs.Common.{ap, length, sym, ◌∙◌}
use Rattle.bag_match.proofs.Allowed.{as_many}
use Rattle.bag_match.proofs.Looked.{lists_some}
use Rattle.bag_match.proofs.Ticked.{looked_most}
use Rattle.bag_match.proofs.layers.Question.search_places.Goals as goal

pub tick_looked-requires-clause-beside : goal.tick_looked-requires-clause-beside
tick_looked-requires-clause-beside g c =
    let least = c.in_ok-search.ensures.found c.if-branch.true in
    c.requires.offered.count_is ∙ as_many (g.J.Judge.hold c.args.self.now.judge.now)
    (g.J.Judge.fail c.args.self.now.judge.now) c.args.self.now.shape.now c.args.self.now.node c.args.self.now.triples.now c.search.new.way.places.items least.allowed ∙ ap (λ z. length z)
    (sym c.as_slice-then-branch.ensures.value)

pub tick_looked-requires-clause-some : goal.tick_looked-requires-clause-some
tick_looked-requires-clause-some g c =
    let least = c.in_ok-search.ensures.found c.if-branch.true in
    lists_some (g.J.Judge.hold c.args.self.now.judge.now)
    (g.J.Judge.fail c.args.self.now.judge.now) c.args.self.now.shape.now c.args.self.now.node c.args.self.now.triples.now c.args.offered.now c.requires.offered c.search.new.way.places.items least.allowed

pub returns-then-branch-clause-most : goal.returns-then-branch-clause-most
returns-then-branch-clause-most g c =
    looked_most (g.J.Judge.hold c.args.self.now.judge.now)
    (g.J.Judge.fail c.args.self.now.judge.now) c.args.self.now.shape.now c.args.self.now.node c.args.self.now.triples.now c.args.offered.now c.requires.offered c.search.new.way.places.items c.as_slice-then-branch.result.now c.as_slice-then-branch.ensures.value (c.in_ok-search.ensures.found c.if-branch.true)
    c.search.new.way.failed.items c.as_slice.result.now c.as_slice.ensures.value c.in_ok-search.ensures.failed c.args.steps.now c.tick_looked.new.steps c.tick_looked.ensures.most
