use Rattle.std.proofs.Common.{refl, subst, sym}
use Rattle.std.specs.Prelude.{IsNone}
use Rattle.bag_match.proofs.Unchosen.{never_none}
use Rattle.bag_match.proofs.layers.Question.by_choice.Goals as goal

pub by_layers-requires-clause-none : goal.by_layers-requires-clause-none
by_layers-requires-clause-none g c =
    never_none (g.J.Judge.hold c.args.self.now.judge.now) (g.J.Judge.fail c.args.self.now.judge.now) c.args.self.now.shape.now c.args.self.now.node c.args.self.now.triples.now
    (c.in_ok-places.ensures.none (subst (λ o. IsNone o) (sym c.in-None.is) refl))
