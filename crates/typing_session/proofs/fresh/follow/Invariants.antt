use Rattle.std.proofs.Common.{◌-◌}
use Rattle.demand.specs.Orders.{max_pairs}
use Rattle.typing_session.specs.Kept.{pairs_of}
use Rattle.typing_session.proofs.Walking.{Followed}
use Rattle.typing_session.proofs.fresh.follow.Given as goal

abbrev pub invariant-loop-at : goal.invariant-loop-at
invariant-loop-at l = Followed l.schema l.graph.triples (pairs_of l.kept) l.fn.met l.at l.met

abbrev pub decreases-loop-at : goal.decreases-loop-at
decreases-loop-at l = max_pairs - l.at
