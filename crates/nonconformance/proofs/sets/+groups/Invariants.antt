use Rattle.nonconformance.specs.Offers.{IsLonger}
use Rattle.nonconformance.proofs.sets.+groups.Given as goal

abbrev pub invariant-constraints_of_all-loop-member : goal.invariant-constraints_of_all-loop-member
invariant-constraints_of_all-loop-member l = IsLonger l.fn.sets.items l.sets.items
