use Rattle.bag_match.proofs.Offers.{AreAdded}
use Rattle.bag_match.proofs.offering.add_all.Given as goal

abbrev pub invariant-loop-place : goal.invariant-loop-place
invariant-loop-place l = AreAdded l.fn.counts.items l.places l.place-index l.counts.items
