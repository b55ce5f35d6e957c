use Rattle.std.proofs.Common.{◌∙◌}
use Rattle.bag_match.proofs.Finishing.{reached_have}
use Rattle.bag_match.proofs.Found.{joined_reached}
use Rattle.bag_match.proofs.layers.Question.by_layers.Goals as goal

pub returns-clause-found : goal.returns-clause-found
returns-clause-found g c = (
  joined_reached (g.J.Judge.hold c.args.self.now.judge.now) (g.J.Judge.fail c.args.self.now.judge.now) c.args.self.now.shape.now c.args.self.now.node c.args.self.now.triples.now
      c.in_ok-layers.layers.items c.in_ok-layers.ensures.layers c.of.result (c.of.ensures ∙ c.in_ok-joined.ensures),
  λ x reached. c.requires.none (reached_have (g.J.Judge.hold c.args.self.now.judge.now) (g.J.Judge.fail c.args.self.now.judge.now) c.args.self.now.shape.now c.args.self.now.node c.args.self.now.triples.now
      c.interval_has_copies.ensures c.requires.body x reached),
)
