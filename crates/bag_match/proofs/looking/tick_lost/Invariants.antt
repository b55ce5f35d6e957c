use Rattle.std.proofs.Common.{◌≤◌, ◌<◌, ◌+◌, ◌*◌, ℕ, length}
use Rattle.bag_match.specs.Bounds.{AreApart}
use Rattle.bag_match.specs.Searches.{failed_at}
use Rattle.bag_match.proofs.looking.tick_lost.Given as goal

abbrev pub invariant-loop-left : goal.invariant-loop-left
invariant-loop-left g l =
    (bound : ℕ) → 1 ≤ bound → ((left : ℕ) → left < l.triples → AreApart (failed_at l.failed left) → length (failed_at l.failed left) ≤ bound) → l.steps ≤ l.fn.steps + (l.left + 1) * bound
