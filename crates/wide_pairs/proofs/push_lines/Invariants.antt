use Rattle.std.proofs.Common.{◌≡◌, ◌++◌, take}
use Rattle.wide_pairs.specs.Lines.{wide_lines}
use Rattle.wide_pairs.proofs.push_lines.Given as goal

-- the lines of the pairs so far
abbrev pub invariant-loop-pair : goal.invariant-loop-pair
invariant-loop-pair l = l.out.items ≡ l.fn.out.items ++ wide_lines l.terms l.budget (take l.pair-index l.fn.wide)
