use Rattle.std.proofs.Common.{inl, refl, sym, true≢false}
use Rattle.lists.proofs.Tests.{holds_so}
use Rattle.bag_match.specs.Counts.{state_of}
use Rattle.schema_tree.specs.States.{IsCovered}
use Rattle.proof_checker.proofs.Stating.{second_way, sums_fit}
use Rattle.proof_checker.proofs.states.Listing.is_covered.Goals as goal

pub is_dead-requires-clause-small : goal.is_dead-requires-clause-small
is_dead-requires-clause-small g c =
    sums_fit c.args.self.now.shape.now.occs c.args.self.now.node c.args.self.now.triples.now c.args.done c.args.counts.now c.args.layer.now.left.now c.requires.layer.left c.requires.listed.few c.requires.small

pub returns-then-is_listed : goal.returns-then-is_listed
returns-then-is_listed g c =
    holds_so (IsCovered c.args.self.now.shape.now c.args.self.now.node c.args.self.now.triples.now c.args.self.now.states.now (state_of c.args.done c.args.counts.now))
    (inl ((c.requires.layer.same (state_of c.args.done c.args.counts.now) refl).0 (c.if-is_listed.ensures.0 refl)))

pub returns : goal.returns
returns g c =
    second_way c.is_dead.result (λ held. true≢false (sym (c.if-is_listed.ensures.1 ((c.requires.layer.same (state_of c.args.done c.args.counts.now) refl).1 held))))
    (c.is_dead.ensures c.args.self.now.node c.args.self.now.triples.now c.args.done c.requires.layer.left)
