use Rattle.std.proofs.Common.{◌≡◌, ◌+◌}
use Rattle.bag_match.proofs.sole.tick_all.Given as goal

abbrev pub invariant-loop-place : goal.invariant-loop-place
invariant-loop-place g l = l.steps ≡ l.initial.steps + l._place-index
