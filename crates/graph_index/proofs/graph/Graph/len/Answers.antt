use Rattle.std.proofs.Common.{subst, ap}
use Rattle.lists.specs.Distinct.{AreDistinct}
use Rattle.lists.proofs.Distinct.{distinct_items}
use Rattle.graph_index.proofs.Held.{same_triple, triple_decides}
use Rattle.graph_index.proofs.graph.Graph.len.Goals as goal

pub returns-clause-distinct : goal.returns-clause-distinct
returns-clause-distinct c = subst AreDistinct (ap (λ g. g.triples) c.self.view_is) (distinct_items same_triple triple_decides _ c.len.ensures.unique)
