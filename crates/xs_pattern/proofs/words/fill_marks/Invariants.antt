use Rattle.std.proofs.Common.{◌≡◌}
use Rattle.xs_pattern.specs.Marked.{marks_of}
use Rattle.xs_pattern.proofs.words.fill_marks.Given as goal

abbrev pub invariant-loop-i : goal.invariant-loop-i
invariant-loop-i l = l.marks.items ≡ marks_of l.i l.word
