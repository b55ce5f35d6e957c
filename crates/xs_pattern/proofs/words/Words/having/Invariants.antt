use Rattle.std.proofs.Common.{◌≡◌, length, map}
use Rattle.xs_pattern.specs.Marked.{and_marks, marks_of, or_marks, tested}
use Rattle.xs_pattern.specs.Regex.{chars_of}
use Rattle.xs_pattern.specs.Unrolling.{having}
use Rattle.xs_pattern.proofs.words.Words.having.Given as goal

abbrev pub invariant-loop-left : goal.invariant-loop-left
invariant-loop-left l =
    let has = map (tested (having l.flags (map chars_of l.self.sets.items) l.c)) l.self.numbers.items in
    let count = length l.self.numbers.items in
    or_marks (marks_of count l.having) (and_marks (marks_of count l.left) has) ≡ and_marks (marks_of count l.positions) has

abbrev pub decreases-loop-left : goal.decreases-loop-left
decreases-loop-left l = l.left
