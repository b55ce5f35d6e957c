use Rattle.std.proofs.Common.{arith, refl, sym, ◌∙◌}
use Rattle.rdf_terms.specs.Graphs.{outs}
use Rattle.rdf_terms.specs.Order.{by_object}
use Rattle.lists.specs.Sorting.{sorted_by}
use Rattle.bag_match.proofs.Forward.{outs_enough, outs_long}
use Rattle.bag_match.proofs.Runs.{outs_within}
use Rattle.bag_match.proofs.arcs.looked_at.Goals as goal

pub returns-then-has_inverse-clause-from : goal.returns-then-has_inverse-clause-from
returns-then-has_inverse-clause-from c =
    let (terms, sealed, whole) = c.requires.neigh in
    let within = outs_within terms c.args.graph.now.triples c.args.node c.args.neigh.now (sorted_by (by_object terms) (outs c.args.graph.now.triples c.args.node)) c.args.outward whole refl
    (c.requires.outward ∙ sym (outs_long terms c.args.graph.now.triples c.args.node (sorted_by (by_object terms) (outs c.args.graph.now.triples c.args.node)) refl)) in
    omega (arith, within, c.len.ensures)

pub returns-else-has_inverse-clause-within : goal.returns-else-has_inverse-clause-within
returns-else-has_inverse-clause-within c =
    let (terms, sealed, whole) = c.requires.neigh in
    outs_within terms c.args.graph.now.triples c.args.node c.args.neigh.now (sorted_by (by_object terms) (outs c.args.graph.now.triples c.args.node)) c.args.outward whole refl
    (c.requires.outward ∙ sym (outs_long terms c.args.graph.now.triples c.args.node (sorted_by (by_object terms) (outs c.args.graph.now.triples c.args.node)) refl))

pub returns-else-has_inverse-clause-none : goal.returns-else-has_inverse-clause-none
returns-else-has_inverse-clause-none c =
    let (terms, sealed, whole) = c.requires.neigh in
    outs_enough terms c.args.graph.now.triples c.args.node c.args.occs.now c.args.neigh.now (sorted_by (by_object terms) (outs c.args.graph.now.triples c.args.node)) _ whole refl
    (c.requires.outward ∙ sym (outs_long terms c.args.graph.now.triples c.args.node (sorted_by (by_object terms) (outs c.args.graph.now.triples c.args.node)) refl))
    (sym c.has_inverse.ensures ∙ c.if-has_inverse.false)
