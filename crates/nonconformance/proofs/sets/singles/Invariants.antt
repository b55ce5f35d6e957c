use Rattle.nonconformance.specs.Offers.{HaveSingles}
use Rattle.nonconformance.proofs.sets.singles.Given as goal

abbrev pub invariant-loop-i : goal.invariant-loop-i
invariant-loop-i l = HaveSingles l.i l.sets.items
