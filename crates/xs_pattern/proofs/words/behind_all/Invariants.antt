use Rattle.std.proofs.Common.{◌≡◌, ℕ, false}
use Rattle.xs_pattern.specs.Marked.{AreBehind, all_known, inside, marks_of, or_marks}
use Rattle.xs_pattern.specs.Way.{Way, next, size}
use Rattle.xs_pattern.proofs.words.behind_all.Given as goal

abbrev pub invariant-loop-left : goal.invariant-loop-left
invariant-loop-left l =
    (l.set ≡ 0 → (l.left ≡ 0) × (l.all ≡ l.enters))
    × ((n : ℕ) (w : Way) → AreBehind n w l.behind
    → or_marks (marks_of (size w) l.all) (next inside (all_known n) w false (marks_of (size w) l.left))
    ≡ or_marks (marks_of (size w) l.enters) (next inside (all_known n) w false (marks_of (size w) l.set)))

abbrev pub decreases-loop-left : goal.decreases-loop-left
decreases-loop-left l = l.left
