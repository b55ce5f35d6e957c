use Rattle.std.proofs.Common.{◌≤◌, ◌^◌, ◌++◌, drop, filter, not, ap, arith, length, slice_index, subst, sym, ◌∙◌}
use Rattle.std.specs.Prelude.{IsTrue, ◌↔◌}
use Rattle.rdf_terms.specs.Graphs.{is_loop}
use Rattle.schema_tree.specs.Entries.{shape_at}
use Rattle.schema_tree.specs.States.{IsDeadBody}
use Rattle.bag_match.proofs.Matched.{shape_read}
use Rattle.bag_match.proofs.Neighbours.{ins_few, outs_few}
use Rattle.bag_match.proofs.Stepping.{drop_few}
use Rattle.bag_match.specs.Later.{IsStateOf}
use Rattle.bag_match.proofs.Skipping.{dead_found}
use Rattle.rdf_terms.specs.Order.{by_object, by_subject}
use Rattle.bag_match.proofs.passing.dead.Goals as goal

pub is_dead_by_arcs-requires-clause-few_triples : goal.is_dead_by_arcs-requires-clause-few_triples
is_dead_by_arcs-requires-clause-few_triples c =
    let (terms, sealed) = c.requires.sealed in
    let a = ap length (c.outs-outs.ensures terms sealed) in
    let b = ap length (c.ins-ins.ensures terms sealed) in
    let d = outs_few (by_object terms) c.args.graph.now.triples c.args.pair.node in
    let e = ins_few (by_subject terms) c.args.graph.now.triples c.args.pair.node in
    let f = ap length c.later.ensures in
    let h = ap length c.later-2.ensures in
    let k = drop_few c.place_behind-out.result.at c.outs-outs.result.now in
    let l = drop_few c.place_behind-inward.result.at c.ins-ins.result.now in
    omega (arith, a, b, d, e, f, h, k, l, c.len-held.ensures.count, c.len-held.ensures.few)

pub is_dead_by_arcs-requires-clause-one_each : goal.is_dead_by_arcs-requires-clause-one_each
is_dead_by_arcs-requires-clause-one_each c =
    ap length c.as_slice-2.ensures
    ∙ (subst (λ o. IsStateOf o c.args.state.now) (shape_read c.args.schema.now c.args.pair.shape c.as_slice.result.now c.in-Some.shape.now c.as_slice.ensures c.in-Some.ensures.lookup.0 c.in-Some.ensures.lookup.1) c.requires.state).0

pub is_dead_by_arcs-requires-clause-small : goal.is_dead_by_arcs-requires-clause-small
is_dead_by_arcs-requires-clause-small c = λ i.
    subst (λ cs. slice_index cs i ≤ 2 ^ 31) (sym c.as_slice-2.ensures)
    ((subst (λ o. IsStateOf o c.args.state.now) (shape_read c.args.schema.now c.args.pair.shape c.as_slice.result.now c.in-Some.shape.now c.as_slice.ensures c.in-Some.ensures.lookup.0 c.in-Some.ensures.lookup.1) c.requires.state).1 i)

pub returns : goal.returns
returns c = λ terms sealed.
    dead_found terms c.args.graph.now.triples c.args.pair.node (shape_at c.args.schema.now c.args.pair.shape) c.in-Some.shape.now
    (shape_read c.args.schema.now c.args.pair.shape c.as_slice.result.now c.in-Some.shape.now c.as_slice.ensures c.in-Some.ensures.lookup.0 c.in-Some.ensures.lookup.1)
    c.as_slice-occs.result.now c.as_slice-occs.ensures c.outs-outs.result.now c.ins-ins.result.now (c.outs-outs.ensures terms sealed) (c.ins-ins.ensures terms sealed)
    c.args.state.now c.place_behind-out.result.left c.place_behind-out.result.at c.place_behind-inward.result.at c.place_behind-out.ensures.later c.place_behind-out.ensures.left c.place_behind-inward.ensures.later
    c.as_slice-2.result.now c.as_slice-2.ensures c.is_dead_by_arcs.result
    (subst (λ us. IsTrue c.is_dead_by_arcs.result ↔
    IsDeadBody c.in-Some.shape.now c.args.pair.node (us ++ filter (λ t. not (is_loop t)) (drop c.place_behind-inward.result.at c.ins-ins.result.now))
    (slice_index c.as_slice-2.result.now) c.in-Some.shape.now.body) c.later.ensures
    (subst (λ vs. IsTrue c.is_dead_by_arcs.result ↔
    IsDeadBody c.in-Some.shape.now c.args.pair.node (c.later.result.now ++ filter (λ t. not (is_loop t)) vs)
    (slice_index c.as_slice-2.result.now) c.in-Some.shape.now.body) c.later-2.ensures c.is_dead_by_arcs.ensures))
