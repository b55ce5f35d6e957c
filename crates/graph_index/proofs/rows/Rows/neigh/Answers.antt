use Rattle.std.proofs.Common.{◌++◌, ◌∙◌, ap, filter, not}
use Rattle.rdf_terms.specs.Graphs.{ins, is_loop, outs}
use Rattle.graph_index.specs.Contents.{Arrangement}
use Rattle.graph_index.proofs.Lent.{two_lists}
use Rattle.graph_index.proofs.rows.Rows.neigh.Goals as goal

pub returns : goal.returns
returns c =
    c.of.ensures
    ∙ two_lists c.self.inside.outward.end c.self.inside.into_others.end c.self.inside.outward.rows c.self.inside.inward.rows c.self.inside.into_others.rows
    c.of_node.result.now c.of_node-2.result.now c.args.n c.self.invariant.outward_end c.self.invariant.others_end c.of_node.ensures c.of_node-2.ensures (c.self.invariant.others c.args.n)
    ∙ ap (λ (a : Arrangement). outs a.outward c.args.n ++ filter (λ t. not (is_loop t)) (ins a.inward c.args.n)) c.self.view_is
