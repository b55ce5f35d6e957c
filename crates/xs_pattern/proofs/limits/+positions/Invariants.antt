use Rattle.std.proofs.Common.{◌≡◌, ◌+◌, ◌≤◌, drop}
use Rattle.xs_pattern.specs.Limits.{all_positions}
use Rattle.xs_pattern.specs.Regex.{regexes_of}
use Rattle.xs_pattern.proofs.limits.+positions.Given as goal

abbrev pub invariant-sum_of_positions-loop-part : goal.invariant-sum_of_positions-loop-part
invariant-sum_of_positions-loop-part l =
    (l.sum + all_positions (regexes_of (drop l.part-index l.parts)) ≡ all_positions (regexes_of l.parts)) × (l.sum ≤ 4096)
