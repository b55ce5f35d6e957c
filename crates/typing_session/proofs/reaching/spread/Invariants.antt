use Rattle.std.proofs.Common.{◌-◌, length}
use Rattle.typing_session.specs.Kept.{pairs_of}
use Rattle.typing_session.proofs.Spreading.{Spread}
use Rattle.typing_session.proofs.reaching.spread.Given as goal

abbrev pub invariant-loop-at : goal.invariant-loop-at
invariant-loop-at l = Spread l.schema l.graph.triples (pairs_of l.kept) l.fn.met l.at l.met

abbrev pub decreases-loop-at : goal.decreases-loop-at
decreases-loop-at l = length (pairs_of l.kept) - l.at
