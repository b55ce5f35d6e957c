use Rattle.std.proofs.Common.{◌-◌, length}
use Rattle.typing_session.specs.Uses.{AreUsesBelow}
use Rattle.typing_session.proofs.uses.all_uses.Given as goal

abbrev pub invariant-loop-number : goal.invariant-loop-number
invariant-loop-number l = AreUsesBelow l.schema l.number l.found.items

abbrev pub decreases-loop-number : goal.decreases-loop-number
decreases-loop-number l = length l.links - l.number
