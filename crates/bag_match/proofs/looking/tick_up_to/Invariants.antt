use Rattle.std.proofs.Common.{◌≡◌, ◌+◌}
use Rattle.bag_match.proofs.looking.tick_up_to.Given as goal

abbrev pub invariant-loop-place : goal.invariant-loop-place
invariant-loop-place g l = l.steps ≡ l.initial.steps + l.place-index
