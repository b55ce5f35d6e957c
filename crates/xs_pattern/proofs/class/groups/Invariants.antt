use Rattle.std.proofs.Common.{◌≡◌, length, map}
use Rattle.xs_pattern.specs.Lexing.{read_groups}
use Rattle.xs_pattern.specs.Regex.{members_of}
use Rattle.xs_pattern.proofs.Loops.{all_before, further_groups}
use Rattle.xs_pattern.proofs.class.groups.Given as goal

abbrev pub invariant-loop-alloc : goal.invariant-loop-alloc
invariant-loop-alloc l = all_before (map members_of l.groups.items) (further_groups l.rest) ≡ read_groups l.fn.text

abbrev pub decreases-loop-alloc : goal.decreases-loop-alloc
decreases-loop-alloc l = length l.rest
