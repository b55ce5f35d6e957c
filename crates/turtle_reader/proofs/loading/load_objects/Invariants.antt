use Rattle.std.proofs.Common.{◌≡◌, ◌++◌}
use Rattle.turtle_reader.proofs.ListLoading.{Goes}
use Rattle.turtle_reader.proofs.loading.load_objects.Given as goal

abbrev pub invariant-loop-object : goal.invariant-loop-object
invariant-loop-object l = record {
  parts : l.fn.before.items ≡ l.yielded ++ l.object-iterator.rest.items;
  last : l.last ≡ l.fn.last;
  goes : Goes l.numbers.s.0 l.numbers.p.0 l.fn.terms l.fn.graph.triples l.yielded l.terms l.graph.triples;
}
