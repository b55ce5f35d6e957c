use Rattle.std.proofs.Common.{ℕ, suc, ◌-◌, List, length}
use Rattle.bag_match.specs.Searches.{HasFailed}
use Rattle.bag_match.proofs.search.put_failed.Given as goal

abbrev pub invariant-loop-failed : goal.invariant-loop-failed
invariant-loop-failed l = (k : ℕ) (c : List ℕ) → HasFailed l.failed.items k c → HasFailed l.fn.failed.items k c

abbrev pub decreases-loop-failed : goal.decreases-loop-failed
decreases-loop-failed l = suc l.left - length l.failed.items
