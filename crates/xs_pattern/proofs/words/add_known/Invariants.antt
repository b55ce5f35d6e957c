use Rattle.std.proofs.Common.{◌≡◌, ◌++◌, replicate, true}
use Rattle.xs_pattern.proofs.words.add_known.Given as goal

abbrev pub invariant-loop : goal.invariant-loop
invariant-loop l = l.marks.items ≡ l.initial.marks.items ++ replicate l.counter true
