use Rattle.bag_match.proofs.Offers.{AreAdded}
use Rattle.typing_refiner.proofs.witness.counts_of.Given as goal

abbrev pub invariant-loop-place : goal.invariant-loop-place
invariant-loop-place l = AreAdded l.initial.counts.items l.places l.place-index l.counts.items
