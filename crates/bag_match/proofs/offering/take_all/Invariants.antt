use Rattle.bag_match.proofs.Offers.{AreTaken}
use Rattle.bag_match.proofs.offering.take_all.Given as goal

abbrev pub invariant-loop-place : goal.invariant-loop-place
invariant-loop-place l = AreTaken l.fn.counts.items l.places l.place-index l.counts.items
