use Rattle.std.proofs.Common.{subst}
use Rattle.std.specs.Prelude.{IsTrue, ◌↔◌}
use Rattle.bag_match.specs.Searches.{HavePlaces}
use Rattle.bag_match.proofs.Unchosen.{least_sole, sole_have}
use Rattle.bag_match.proofs.layers.Question.sole_match.Goals as goal

pub returns-then-not-branch-clause-decided : goal.returns-then-not-branch-clause-decided
returns-then-not-branch-clause-decided g c =
    subst (λ b. IsTrue b ↔
    HavePlaces (g.J.Judge.hold c.args.self.now.judge.now) (g.J.Judge.fail c.args.self.now.judge.now) c.args.self.now.shape.now c.args.self.now.node c.args.self.now.triples.now) c.if-not-branch.true
    (sole_have (g.J.Judge.hold c.args.self.now.judge.now) (g.J.Judge.fail c.args.self.now.judge.now) c.args.self.now.shape.now c.args.self.now.node c.args.self.now.triples.now c.args.places.now c.args.offered.now c.requires.offered c.requires.sole c.in_ok-have_counts.field-0 c.in_ok-have_counts.ensures)

pub returns-clause-least : goal.returns-clause-least
returns-clause-least g c so =
    least_sole (g.J.Judge.hold c.args.self.now.judge.now)
    (g.J.Judge.fail c.args.self.now.judge.now) c.args.self.now.shape.now c.args.self.now.node c.args.self.now.triples.now c.args.places.now c.args.offered.now
    c.requires.offered c.requires.sole (c.in_ok-have_counts.ensures.0 c.if-not-branch.false)

pub returns-clause-decided : goal.returns-clause-decided
returns-clause-decided g c =
    subst (λ b. IsTrue b ↔
    HavePlaces (g.J.Judge.hold c.args.self.now.judge.now) (g.J.Judge.fail c.args.self.now.judge.now) c.args.self.now.shape.now c.args.self.now.node c.args.self.now.triples.now) c.if-not-branch.false
    (sole_have (g.J.Judge.hold c.args.self.now.judge.now) (g.J.Judge.fail c.args.self.now.judge.now) c.args.self.now.shape.now c.args.self.now.node c.args.self.now.triples.now c.args.places.now c.args.offered.now c.requires.offered c.requires.sole c.in_ok-have_counts.field-0 c.in_ok-have_counts.ensures)
