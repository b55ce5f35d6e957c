use Rattle.std.proofs.Common.{subst, ap, IsTrue, ◌↔◌, Contains}
use Rattle.graph_index.proofs.Held.{held_exactly}
use Rattle.graph_index.proofs.graph.Graph.holds.Goals as goal

pub returns : goal.returns
returns c = subst (λ ts. IsTrue c.contains.result ↔ Contains ts c.args.t) (ap (λ g. g.triples) c.self.view_is) (held_exactly _ c.args.t c.contains.result c.contains.ensures)
