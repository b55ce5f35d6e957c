use Rattle.std.proofs.Common.{get_or, map, subst}
use Rattle.std.proofs.lemmas.Result.{err_from_is_err_and}
use Rattle.demand.proofs.Roots.{nodes_done, nodes_more, nodes_stops, start_none}
use Rattle.demand.specs.Closing.{Grows, StopsOver}
use Rattle.schema_tree.specs.Entries.{pair_of}
use Rattle.demand.proofs.starting.see_nodes.Goals as goal

pub loop-node-init : goal.loop-node-init
loop-node-init c = start_none c.args.schema.now c.args.seen.now

pub returns-in_err-see_node-clause-stops : goal.returns-in_err-see_node-clause-stops
returns-in_err-see_node-clause-stops c =
    let p = err_from_is_err_and c.from_residual-in_err-see_node.result c.from_residual-in_err-see_node.ensures.1 in
    rw (p.1, p.2)
    (nodes_stops c.args.schema.now c.args.expr c.args.nodes.now c.loop-node.node-index (record { 0 = 0 }) c.loop-node-test.true c.in_ok-shapes.shapes c.in_ok-shapes.ensures c.args.seen.now c.loop-node.seen
    c.loop-node.invariant c.in_err-see_node.field-0.0
    (subst (λ xs. StopsOver c.loop-node.seen (map (pair_of (get_or c.args.nodes.now c.loop-node.node-index (record { 0 = 0 }))) xs) c.in_err-see_node.field-0.0) c.as_slice.ensures c.in_err-see_node.ensures.stops))

pub loop-node-preserved : goal.loop-node-preserved
loop-node-preserved c =
    nodes_more c.args.schema.now c.args.expr c.args.nodes.now c.loop-node.node-index (record { 0 = 0 }) c.loop-node-test.true c.in_ok-shapes.shapes c.in_ok-shapes.ensures c.args.seen.now c.loop-node.seen
    c.loop-node.invariant c.see_node.new.seen
    (subst (λ xs. Grows c.loop-node.seen (map (pair_of (get_or c.args.nodes.now c.loop-node.node-index (record { 0 = 0 }))) xs) c.see_node.new.seen) c.as_slice.ensures c.in_ok-see_node.ensures.grows)

pub returns-clause-seen : goal.returns-clause-seen
returns-clause-seen c = nodes_done c.args.schema.now c.args.expr c.args.nodes.now c.loop-node.node-index c.args.seen.now c.loop-node.seen c.loop-node-test.false c.loop-node.invariant
