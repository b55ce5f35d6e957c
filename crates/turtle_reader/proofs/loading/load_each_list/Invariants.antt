use Rattle.std.proofs.Common.{◌≡◌, ◌++◌}
use Rattle.turtle_reader.proofs.ListLoading.{Follows}
use Rattle.turtle_reader.proofs.loading.load_each_list.Given as goal

abbrev pub invariant-loop-list : goal.invariant-loop-list
invariant-loop-list l = record {
  parts : l.fn.before.items ≡ l.yielded ++ l.list-iterator.rest.items;
  last : l.last ≡ l.fn.last;
  follows : Follows l.subject.0 l.fn.terms l.fn.graph.triples l.yielded l.terms l.graph.triples;
}
