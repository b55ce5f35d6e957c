use Rattle.std.proofs.Common.{◌≡◌, ◌+◌, length}
use Rattle.bag_match.proofs.looking.tick_each.Given as goal

abbrev pub invariant-loop-counts : goal.invariant-loop-counts
invariant-loop-counts g l = l.steps + length l._counts-iterator ≡ l.fn.steps + length l.fn.found.keys
