use Rattle.std.proofs.Common.{ap, length, sym, subst, ◌<◌, ◌^◌, ◌∙◌, slice_index}
use Rattle.lists.proofs.Tests.{holds_so, neither}
use Rattle.bag_match.specs.Counts.{state_of}
use Rattle.proof_checker.specs.Stated.{AllLeadOn}
use Rattle.lists.proofs.Fronts.{all_taken}
use Rattle.proof_checker.proofs.Stating.{held_there, next_leads, next_leads_not}
use Rattle.proof_checker.proofs.states.Listing.all_lead_on.Goals as goal

pub leads_on-requires-clause-one_each : goal.leads_on-requires-clause-one_each
leads_on-requires-clause-one_each g c = ap (λ z. length z) c.loop-place.invariant.same ∙ c.requires.one_each

pub leads_on-requires-clause-small : goal.leads_on-requires-clause-small
leads_on-requires-clause-small g c = λ i. subst (λ z. slice_index z i < 2 ^ 31) (sym c.loop-place.invariant.same) (c.requires.small i)

pub leads_on-requires-clause-there : goal.leads_on-requires-clause-there
leads_on-requires-clause-there g c =
    held_there c.args.counts.now c.loop-place.held.items c.args.places.now c.loop-place.place-index _ c.loop-place.invariant.same c.requires.there c.loop-place-test.true

pub returns-then-not-leads_on : goal.returns-then-not-leads_on
returns-then-not-leads_on g c =
    neither (AllLeadOn c.args.self.now.shape.now c.args.self.now.node c.args.self.now.triples.now c.args.self.now.states.now (state_of c.args.done c.args.counts.now) c.args.places.now)
    (next_leads_not c.args.self.now.shape.now c.args.self.now.node c.args.self.now.triples.now c.args.self.now.states.now c.args.done c.args.counts.now c.loop-place.held.items c.loop-place.invariant.same c.args.places.now c.loop-place.place-index _ c.loop-place-test.true c.if-not-leads_on.ensures.covered)

pub loop-place-preserved : goal.loop-place-preserved
loop-place-preserved g c = record {
  same = c.if-not-leads_on.ensures.same ∙ c.loop-place.invariant.same;
  all = next_leads c.args.self.now.shape.now c.args.self.now.node c.args.self.now.triples.now c.args.self.now.states.now c.args.done c.args.counts.now c.loop-place.held.items c.loop-place.invariant.same c.args.places.now c.loop-place.place-index _ c.loop-place-test.true c.if-not-leads_on.ensures.covered c.loop-place.invariant.all;
}

pub returns : goal.returns
returns g c =
    holds_so (AllLeadOn c.args.self.now.shape.now c.args.self.now.node c.args.self.now.triples.now c.args.self.now.states.now (state_of c.args.done c.args.counts.now) c.args.places.now)
    (λ p h. c.loop-place.invariant.all p (all_taken c.args.places.now c.loop-place.place-index p c.loop-place-test.false h))
