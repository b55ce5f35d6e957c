use Rattle.std.proofs.Common.{length}
use Rattle.nonconformance.specs.Offers.{HaveSingles}
use Rattle.nonconformance.proofs.sets.sets.Given as goal

abbrev pub invariant-loop-i : goal.invariant-loop-i
invariant-loop-i l = HaveSingles (length l.occs) l.sets.items
