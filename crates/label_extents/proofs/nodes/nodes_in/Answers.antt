use Rattle.std.proofs.Common.{rules}
use Rattle.label_extents.proofs.Gathered.{all_met, more_met, none_met}
use Rattle.label_extents.proofs.nodes.nodes_in.Goals as goal

pub loop-triple-init : goal.loop-triple-init
loop-triple-init c = none_met c.args.triples.now c.new-nodes.result.keys (search rules)

pub loop-triple-preserved : goal.loop-triple-preserved
loop-triple-preserved c =
    more_met c.args.triples.now c.loop-triple.triple-index (record { s = record { 0 = 0 }; p = record { 0 = 0 }; o = record { 0 = 0 } }) c.loop-triple.nodes.keys _ c.loop-triple-test.true c.loop-triple.invariant c.in_ok-note_ends.ensures

pub returns : goal.returns
returns c = all_met c.args.triples.now c.loop-triple.triple-index _ c.loop-triple-test.false c.loop-triple.invariant
