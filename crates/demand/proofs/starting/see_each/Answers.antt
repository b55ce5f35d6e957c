use Rattle.std.proofs.lemmas.Result.{err_from_is_err_and}
use Rattle.demand.proofs.Roots.{each_done, each_more, each_stops}
use Rattle.demand.proofs.starting.see_each.Goals as goal

pub returns-in_err-see_nodes-clause-stops : goal.returns-in_err-see_nodes-clause-stops
returns-in_err-see_nodes-clause-stops c =
    let p = err_from_is_err_and c.from_residual.result c.from_residual.ensures.1 in
    rw (p.1, p.2)
    (each_stops c.args.schema.now c.args.nodes.now c.args.exprs.now c.loop-expr.expr-index (record { 0 = 0 }) c.loop-expr-test.true c.args.seen.now c.loop-expr.seen c.loop-expr.invariant
    c.in_err-see_nodes.field-0.0 c.in_err-see_nodes.ensures.stops)

pub loop-expr-preserved : goal.loop-expr-preserved
loop-expr-preserved c =
    each_more c.args.schema.now c.args.nodes.now c.args.exprs.now c.loop-expr.expr-index (record { 0 = 0 }) c.loop-expr-test.true c.args.seen.now c.loop-expr.seen c.loop-expr.invariant c.see_nodes.new.seen
    c.in_ok-see_nodes.ensures.seen

pub returns-clause-seen : goal.returns-clause-seen
returns-clause-seen c = each_done c.args.schema.now c.args.nodes.now c.args.exprs.now c.loop-expr.expr-index c.args.seen.now c.loop-expr.seen c.loop-expr-test.false c.loop-expr.invariant
