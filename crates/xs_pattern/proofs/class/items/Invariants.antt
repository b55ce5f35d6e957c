use Rattle.std.proofs.Common.{◌≡◌, length}
use Rattle.xs_pattern.specs.Lexing.{read_items, read_more}
use Rattle.xs_pattern.proofs.Loops.{all_before}
use Rattle.xs_pattern.proofs.class.items.Given as goal

abbrev pub invariant-loop-rest : goal.invariant-loop-rest
invariant-loop-rest l = all_before l.items.items (read_more l.rest) ≡ read_items l.fn.text

abbrev pub decreases-loop-rest : goal.decreases-loop-rest
decreases-loop-rest l = length l.rest
