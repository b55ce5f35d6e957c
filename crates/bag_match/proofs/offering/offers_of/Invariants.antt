use Rattle.std.proofs.Common.{take}
use Rattle.bag_match.specs.Hopes.{AreOffers}
use Rattle.bag_match.proofs.offering.offers_of.Given as goal

abbrev pub invariant-loop-i : goal.invariant-loop-i
invariant-loop-i l = AreOffers l.occurrences (take l.i l.lists) l.counts.items
