use Rattle.idle_selectors.proofs.Noted.{all_noted, none_noted, noted_on}
use Rattle.idle_selectors.proofs.listing.idle_lines.Goals as goal

pub loop-item-init : goal.loop-item-init
loop-item-init c = none_noted c.args.terms.now c.args.graph.now.triples c.args.items.now c.new-lines.result c.new-lines.ensures

pub loop-item-preserved : goal.loop-item-preserved
loop-item-preserved c =
    noted_on c.args.terms.now c.args.graph.now.triples c.args.items.now c.loop-item.item-index c.item-item.result _ _ c.loop-item-test.true c.item-item.is c.loop-item.invariant c.in_ok-note.ensures

pub returns : goal.returns
returns c = all_noted c.args.terms.now c.args.graph.now.triples c.args.items.now c.loop-item.item-index _ c.loop-item-test.false c.loop-item.invariant
