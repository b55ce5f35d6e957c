use Rattle.std.proofs.Common.{◌≡◌, ◌++◌}
use Rattle.graph_index.specs.Loading.{Loads}
use Rattle.turtle_reader.specs.Objects.{all_triples_of}
use Rattle.turtle_reader.proofs.loading.load_lists.Given as goal

abbrev pub invariant-loop-list : goal.invariant-loop-list
invariant-loop-list l = (l.fn.lists.items ≡ l.yielded ++ l.list-iterator.rest.items) × Loads l.fn.terms l.fn.graph.triples (all_triples_of l.yielded) l.terms l.graph.triples
