use Rattle.std.proofs.Common.{◌≡◌, ◌++◌, replicate}
use Rattle.xs_pattern.proofs.words.add_times.Given as goal

abbrev pub invariant-loop : goal.invariant-loop
invariant-loop l = l.sets.items ≡ l.initial.sets.items ++ replicate l.counter l.set
