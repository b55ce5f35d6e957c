use Rattle.explanations.proofs.Blocked.{pair_block}
use Rattle.explanations.proofs.explaining.Source.block_of_pair.Goals as goal

pub returns-clause-is : goal.returns-clause-is
returns-clause-is g c = λ all on.
    pair_block c.args.self.now.schema.now c.args.self.now.terms.now (g.V.View.known c.args.self.now.view.now) all c.args.self.now.graph.now.triples c.args.pair
    c.in_ok-reasons.reasons.items c.in_ok-told.told.items c.of.result c.of.ensures
    (record {
      sound = c.in_ok-reasons.ensures.sound;
      some = c.in_ok-reasons.ensures.some;
      whole = c.in_ok-reasons.ensures.whole;
      counted = c.in_ok-reasons.ensures.counted;
      alone = c.in_ok-reasons.ensures.alone;
    })
    (c.in_ok-told.ensures.are all on)
