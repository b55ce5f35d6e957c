use Rattle.std.proofs.Common.{◌≡◌, map, take}
use Rattle.bag_match.specs.Least.{sole}
use Rattle.bag_match.proofs.sole.sole_places.Given as goal

abbrev pub invariant-loop-i : goal.invariant-loop-i
invariant-loop-i l = map sole l.places.items ≡ take l.i l.offered
