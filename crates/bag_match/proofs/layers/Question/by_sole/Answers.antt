use Rattle.std.proofs.Common.{length, sym, true≢false, ◌∙◌}
use Rattle.bag_match.proofs.Came.{bound_some}
use Rattle.bag_match.proofs.Unchosen.{most_sole}
use Rattle.bag_match.proofs.layers.Question.by_sole.Goals as goal

pub returns-in_err-sole_match-clause-most : goal.returns-in_err-sole_match-clause-most
returns-in_err-sole_match-clause-most g c bound is =
    most_sole c.args.steps.now c.sole_match.new.steps (length c.args.self.now.triples.now) bound c.sole_match.ensures.few (bound_some (g.J.Judge.hold c.args.self.now.judge.now) (g.J.Judge.fail c.args.self.now.judge.now) c.args.self.now.shape.now c.args.self.now.node c.args.self.now.triples.now bound is)

pub returns-then-branch-clause-most : goal.returns-then-branch-clause-most
returns-then-branch-clause-most g c bound is =
    most_sole c.args.steps.now c.sole_match.new.steps (length c.args.self.now.triples.now) bound c.sole_match.ensures.few (bound_some (g.J.Judge.hold c.args.self.now.judge.now) (g.J.Judge.fail c.args.self.now.judge.now) c.args.self.now.shape.now c.args.self.now.node c.args.self.now.triples.now bound is)

pub by_layers-requires-clause-none : goal.by_layers-requires-clause-none
by_layers-requires-clause-none g c have = true≢false (sym (c.in_ok-sole_match.ensures.decided.1 have) ∙ c.if-branch.false)
