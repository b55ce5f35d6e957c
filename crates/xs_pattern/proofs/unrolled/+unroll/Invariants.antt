use Rattle.std.proofs.Common.{◌≡◌, ◌+◌, length, drop}
use Rattle.xs_pattern.specs.Regex.{regexes_of}
use Rattle.xs_pattern.specs.Unrolling.{all_sets, unroll_all, unroll_some}
use Rattle.xs_pattern.specs.Way as Ways
use Rattle.xs_pattern.specs.Way.{way_of}
use Rattle.xs_pattern.proofs.unrolled.+unroll.Given as goal

abbrev pub invariant-unroll_branch-loop-piece : goal.invariant-unroll_branch-loop-piece
invariant-unroll_branch-loop-piece l =
    let rest = regexes_of (drop l.piece-index l.pieces) in
    (unroll_all l.next (way_of l.all) rest ≡ unroll_all l.fn.next Ways.nothing (regexes_of l.pieces)) ×
    (l.next + length (all_sets rest) ≡ l.fn.next + length (all_sets (regexes_of l.pieces)))

abbrev pub invariant-unroll_choice-loop-branch : goal.invariant-unroll_choice-loop-branch
invariant-unroll_choice-loop-branch l =
    let rest = regexes_of (drop l.branch-index l.branches) in
    (unroll_some l.next (way_of l.all) rest ≡ unroll_some l.fn.next Ways.never (regexes_of l.branches)) ×
    (l.next + length (all_sets rest) ≡ l.fn.next + length (all_sets (regexes_of l.branches)))
