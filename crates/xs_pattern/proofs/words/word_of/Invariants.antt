use Rattle.std.proofs.Common.{◌≡◌, ◌<◌, ◌^◌, ◌++◌, drop}
use Rattle.xs_pattern.specs.Marked.{marks_of}
use Rattle.xs_pattern.proofs.words.word_of.Given as goal

abbrev pub invariant-loop-position : goal.invariant-loop-position
invariant-loop-position l = (marks_of l.position l.word ++ drop l.position l.marks ≡ l.marks) × (l.word < 2 ^ l.position)
