use Rattle.std.proofs.Common.{ap, ◌∙◌, filter}
use Rattle.rdf_terms.specs.Graphs.{outs, same_id}
use Rattle.rdf_terms.specs.Order.{by_object}
use Rattle.graph_index.proofs.Lent.{sealed_rows}
use Rattle.rdf_terms.proofs.Orders.{object_total}
use Rattle.lists.proofs.Sorting.{filter_sorted_by}
use Rattle.graph_index.proofs.graph.Graph.outs_by.Goals as goal

pub returns : goal.returns
returns c = λ terms sealed.
    c.outs_by.ensures
    ∙ ap (filter (λ t. same_id t.p c.args.p)) ((sealed_rows terms c.args.self.now c.lent_rows.result.now c.lent_rows.ensures sealed).outward c.args.n)
    ∙ filter_sorted_by (by_object terms) (object_total terms) (λ t. same_id t.p c.args.p) (outs c.args.self.now.triples c.args.n)
