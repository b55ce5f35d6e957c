use Rattle.std.proofs.Common.{subst, sym}
use Rattle.std.specs.Prelude.{IfOk}
use Rattle.shape_map.specs.Selection.{AreNodes}
use Rattle.shape_map.proofs.Chosen.{triples_found}
use Rattle.shape_map.proofs.resolve.nodes_of.Goals as goal

pub returns-in-Node : goal.returns-in-Node
returns-in-Node c = subst (λ z. IfOk c.written_node.result (λ v. AreNodes c.args.terms.now c.args.graph.now.triples z v.items)) (sym c.in-Node.is) (c.written_node.ensures c.args.graph.now.triples)

pub returns-in-Triples : goal.returns-in-Triples
returns-in-Triples c =
    triples_found (λ v. v.items) c.args.graph.now.triples c.args.terms.now c.args.selector.now _ c.focus_nodes.result c.in-Triples.is c.focus_nodes.ensures.sorted c.focus_nodes.ensures.exactly
