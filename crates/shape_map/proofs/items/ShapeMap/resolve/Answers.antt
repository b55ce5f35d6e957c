use Rattle.std.proofs.lemmas.Result.{err_from_is_err_and}
use Rattle.shape_map.specs.Selection.{refused, selected}
use Rattle.shape_map.proofs.Chosen.{unless}
use Rattle.shape_map.proofs.Resolved.{nodes_held, refused_as, resolves_as, resolves_one}
use Rattle.shape_map.proofs.items.ShapeMap.resolve.Goals as goal

pub steps-requires-clause-held : goal.steps-requires-clause-held
steps-requires-clause-held c = nodes_held c.args.terms.now c.items-items.result.now c.take_nodes.new.terms c.in_ok-take_nodes.ensures.taken

pub returns-in_err-steps-clause-only_refused : goal.returns-in_err-steps-clause-only_refused
returns-in_err-steps-clause-only_refused c = λ o h.
    let p = err_from_is_err_and c.from_residual-in_err-steps.result c.from_residual-in_err-steps.ensures.1 in
    rw (p.1, p.2)
    (unless c.in_err-steps.field-0.0 (λ q. resolves_one c.args.schema.now c.args.graph.now.triples c.distinct_labels.ensures c.args.terms.now c.distinct_terms.ensures.distinct c.args.self.now o (refused c.in_err-steps.field-0.0) h q)
    (refused_as c.args.schema.now c.args.graph.now.triples _ c.seal.ensures.same c.args.terms.now c.items-items.result.now c.args.self.now c.items-items.ensures.items c.take_nodes.new.terms c.in_ok-take_nodes.ensures.taken c.distinct_terms-2.ensures.few c.in_err-steps.field-0.0 c.in_err-steps.ensures.refused))

pub returns-clause-only_found : goal.returns-clause-only_found
returns-clause-only_found c = λ o h.
    resolves_one c.args.schema.now c.args.graph.now.triples c.distinct_labels.ensures c.args.terms.now c.distinct_terms.ensures.distinct c.args.self.now o (selected c.steps.new.out.items c.take_nodes.new.terms) h
    (resolves_as c.args.schema.now c.args.graph.now.triples _ c.seal.ensures.same c.args.terms.now c.items-items.result.now c.args.self.now c.items-items.ensures.items c.take_nodes.new.terms c.in_ok-take_nodes.ensures.taken c.distinct_terms-2.ensures.few c.steps.new.out.items c.in_ok-steps.ensures.found)
