use Rattle.std.proofs.lemmas.Result.{err_from_is_err_and}
use Rattle.demand.proofs.Reached.{asked, is_start, not_many, passed_on, too_many_pairs, too_many_roots, IsStart}
use Rattle.demand.specs.Demand.{roots_of}
use Rattle.demand.proofs.reach.close_each.Goals as goal

pub returns-in_err-see_each-clause-many : goal.returns-in_err-see_each-clause-many
returns-in_err-see_each-clause-many c = λ e.
    let p = err_from_is_err_and c.from_residual.result c.from_residual.ensures.1 in
    too_many_roots c.args.schema.now c.args.graph.now.triples (roots_of c.args.nodes.now c.args.exprs.now) _ c.new-seen.ensures c.in_err-see_each.field-0.0 c.in_err-see_each.ensures.stops (passed_on _ _ _ _ p.1 p.2 e)

start : (c : goal.After-drop-seen-inside-5) → IsStart c.args.schema.now (roots_of c.args.nodes.now c.args.exprs.now) c.see_each.new.seen
start c = is_start c.args.schema.now (roots_of c.args.nodes.now c.args.exprs.now) _ c.see_each.new.seen c.new-seen.ensures c.in_ok-see_each.ensures.seen

pub returns-clause-asked : goal.returns-clause-asked
returns-clause-asked c =
    asked c.args.schema.now c.args.terms.now c.args.graph.now.triples (roots_of c.args.nodes.now c.args.exprs.now) c.see_each.new.seen (start c) c.closed.result c.closed.ensures.sorted c.closed.ensures.whole c.closed.ensures.grown

pub returns-clause-many : goal.returns-clause-many
returns-clause-many c =
    too_many_pairs c.args.schema.now c.args.terms.now c.args.graph.now.triples (roots_of c.args.nodes.now c.args.exprs.now) c.see_each.new.seen (start c) c.closed.result c.closed.ensures.stops

pub returns-clause-few : goal.returns-clause-few
returns-clause-few c = not_many c.args.schema.now c.args.terms.now c.args.graph.now.triples (roots_of c.args.nodes.now c.args.exprs.now) c.closed.result (returns-clause-asked c) c.closed.ensures.few
