use Rattle.std.proofs.Common.{◌≡◌, take}
use Rattle.bag_match.specs.Counts.{state_of}
use Rattle.proof_checker.specs.Stated.{AllLeadOn}
use Rattle.proof_checker.proofs.states.Listing.all_lead_on.Given as goal

abbrev pub invariant-loop-place : goal.invariant-loop-place
invariant-loop-place g l = record {
  same : l.held.items ≡ l.counts;
  all : AllLeadOn l.self.shape.now l.self.node l.self.triples.now l.self.states.now (state_of l.done l.counts) (take l.place-index l.places);
}
