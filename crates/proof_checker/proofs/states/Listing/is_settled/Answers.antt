use Rattle.std.proofs.Common.{arith, get_or, subst, sym, true≢false, ◌∙◌}
use Rattle.lists.proofs.Tests.{holds_so}
use Rattle.bag_match.specs.Counts.{ArePlacesOf, state_of}
use Rattle.bag_match.proofs.Stepping.{places_now, places_there}
use Rattle.proof_checker.specs.Stated.{IsSettled}
use Rattle.proof_checker.proofs.Stating.{settled_dead, settled_on, sums_fit}
use Rattle.proof_checker.proofs.states.Listing.is_settled.Goals as goal

pub is_dead-requires-clause-small : goal.is_dead-requires-clause-small
is_dead-requires-clause-small g c =
    sums_fit c.args.self.now.shape.now.occs c.args.self.now.node c.args.self.now.triples.now c.args.done c.args.counts.now c.args.left.now c.requires.left c.requires.listed.few
    (λ i. let lt = c.requires.small i in omega (arith, lt))

pub all_lead_on-requires-clause-there : goal.all_lead_on-requires-clause-there
all_lead_on-requires-clause-there g c =
    let (d, offered) = places_now (g.J.Judge.hold c.args.self.now.judge.now)
    (g.J.Judge.fail c.args.self.now.judge.now) c.args.self.now.shape.now c.args.self.now.node c.args.self.now.triples.now c.args.done c.args.places.now c.requires.within c.requires.places in
    subst (λ k. ArePlacesOf k c.args.places.now) (sym c.requires.one_each)
    (places_there (g.J.Judge.hold c.args.self.now.judge.now) (g.J.Judge.fail c.args.self.now.judge.now) c.args.self.now.shape.now c.args.self.now.node c.args.self.now.triples.now (get_or c.args.self.now.triples.now c.args.done d) c.args.places.now offered)

pub returns-then-branch : goal.returns-then-branch
returns-then-branch g c =
    holds_so (IsSettled (g.J.Judge.hold c.args.self.now.judge.now) (g.J.Judge.fail c.args.self.now.judge.now) c.args.self.now.shape.now c.args.self.now.node c.args.self.now.triples.now c.args.self.now.states.now (state_of c.args.done c.args.counts.now))
    (settled_on (g.J.Judge.hold c.args.self.now.judge.now) (g.J.Judge.fail c.args.self.now.judge.now) c.args.self.now.shape.now c.args.self.now.node c.args.self.now.triples.now c.args.self.now.states.now c.args.done c.args.counts.now c.args.places.now c.requires.within c.requires.places (c.in_ok-all_lead_on.ensures.0 c.if-branch.true))

pub returns : goal.returns
returns g c =
    settled_dead (g.J.Judge.hold c.args.self.now.judge.now)
    (g.J.Judge.fail c.args.self.now.judge.now) c.args.self.now.shape.now c.args.self.now.node c.args.self.now.triples.now c.args.self.now.states.now c.args.done c.args.counts.now c.args.places.now c.requires.within c.requires.places c.is_dead.result
    (λ all. true≢false (sym (c.in_ok-all_lead_on.ensures.1 all) ∙ c.if-branch.false))
    (c.is_dead.ensures c.args.self.now.node c.args.self.now.triples.now c.args.done c.requires.left)
