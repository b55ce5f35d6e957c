use Rattle.std.proofs.Common.{◌≡◌, ◌++◌}
use Rattle.value_sets.proofs.Apart.{AreKept}
use Rattle.value_sets.proofs.stem_index.kept.Given as goal

abbrev pub invariant-loop-stem : goal.invariant-loop-stem
invariant-loop-stem l = (l.fn.sorted.items ≡ l.yielded ++ l.stem-iterator.rest.items) × AreKept l.yielded l.kept.items
