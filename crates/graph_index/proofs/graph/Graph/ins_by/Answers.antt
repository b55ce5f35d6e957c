use Rattle.std.proofs.Common.{ap, ◌∙◌, filter}
use Rattle.rdf_terms.specs.Graphs.{ins, same_id}
use Rattle.rdf_terms.specs.Order.{by_subject}
use Rattle.graph_index.proofs.Lent.{sealed_rows}
use Rattle.rdf_terms.proofs.Orders.{subject_total}
use Rattle.lists.proofs.Sorting.{filter_sorted_by}
use Rattle.graph_index.proofs.graph.Graph.ins_by.Goals as goal

pub returns : goal.returns
returns c = λ terms sealed.
    c.ins_by.ensures
    ∙ ap (filter (λ t. same_id t.p c.args.p)) ((sealed_rows terms c.args.self.now c.lent_rows.result.now c.lent_rows.ensures sealed).inward c.args.n)
    ∙ filter_sorted_by (by_subject terms) (subject_total terms) (λ t. same_id t.p c.args.p) (ins c.args.self.now.triples c.args.n)
