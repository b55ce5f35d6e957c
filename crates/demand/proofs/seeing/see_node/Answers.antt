use Rattle.std.proofs.lemmas.Result.{err_from_is_err_and}
use Rattle.demand.proofs.Growing.{node_done, node_more, node_stops}
use Rattle.demand.proofs.seeing.see_node.Goals as goal

pub returns-in_err-see-clause-stops : goal.returns-in_err-see-clause-stops
returns-in_err-see-clause-stops c =
    let p = err_from_is_err_and c.from_residual.result c.from_residual.ensures.1 in
    rw (p.1, p.2)
    (node_stops c.args.node c.args.shapes.now c.loop-shape.shape-index (record { 0 = 0 }) c.loop-shape-test.true c.args.seen.now c.loop-shape.seen c.loop-shape.invariant c.in_err-see.field-0.0
    c.in_err-see.ensures.stops)

pub loop-shape-preserved : goal.loop-shape-preserved
loop-shape-preserved c =
    node_more c.args.node c.args.shapes.now c.loop-shape.shape-index (record { 0 = 0 }) c.loop-shape-test.true c.args.seen.now c.loop-shape.seen c.loop-shape.invariant c.see.new.seen c.in_ok-see.ensures.adds

pub returns-clause-grows : goal.returns-clause-grows
returns-clause-grows c = node_done c.args.node c.args.shapes.now c.loop-shape.shape-index c.args.seen.now c.loop-shape.seen c.loop-shape-test.false c.loop-shape.invariant
