use Rattle.explanations.specs.Numbers.{Fails}
use Rattle.lists.proofs.Members.{got_in}
use Rattle.lists.proofs.Quantifiers.{all_at}
use Rattle.explanations.proofs.Walked.{walk_next, walk_none}
use Rattle.explanations.proofs.explaining.Source.blocks.Goals as goal

pub loop-at-init : goal.loop-at-init
loop-at-init g c =
    walk_none c.args.self.now.schema.now c.args.self.now.terms.now (g.V.View.known c.args.self.now.view.now) c.args.self.now.graph.now.triples c.args.seen.now
    c.args.from c.new-blocks.result.items c.new-blocks.ensures.items c.requires.from

pub block-requires-clause-fails : goal.block-requires-clause-fails
block-requires-clause-fails g c =
    all_at (Fails c.args.self.now.schema.now c.args.self.now.terms.now (g.V.View.known c.args.self.now.view.now)) c.loop-at.seen c.at.result
    (c.loop-at.invariant.numbers.fail c.requires.fail) (got_in c.loop-at.seen c.loop-at.at c.at.result c.at.ensures)

pub loop-at-preserved : goal.loop-at-preserved
loop-at-preserved g c =
    walk_next c.args.self.now.schema.now c.args.self.now.terms.now (g.V.View.known c.args.self.now.view.now) c.args.self.now.graph.now.triples c.args.seen.now
    c.args.from c.loop-at.seen c.block.new.seen c.loop-at.at c.loop-at.blocks.items _ c.at.result c.in_ok-block.field-0 c.loop-at.invariant c.at.ensures
    c.in_ok-block.ensures.numbers c.in_ok-block.ensures.is c.in_ok-push.ensures.items
