use Rattle.std.proofs.Common.{subst}
use Rattle.lists.specs.Distinct.{AreDistinct}
use Rattle.lists.proofs.Distinct.{distinct_items}
use Rattle.graph_index.proofs.Held.{same_triple, triple_decides}
use Rattle.typing_refiner.proofs.Tallies.{found_place}
use Rattle.typing_refiner.proofs.triple_table.TripleTable.find.Goals as goal

pub returns-clause-found : goal.returns-clause-found
returns-clause-found c = found_place c.args.self.now c.self.inside.triples.keys c.args.triple c.get_index_of.result c.self.view_is c.get_index_of.ensures.index

pub returns-clause-distinct : goal.returns-clause-distinct
returns-clause-distinct c = subst AreDistinct c.self.view_is (distinct_items same_triple triple_decides _ c.len-count.ensures.unique)
