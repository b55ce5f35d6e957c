use Rattle.std.proofs.Common.{inl, inr, refl, subst, ◌∙◌}
use Rattle.proof_checker.specs.Stated.{AreShapedBy, IsShapedBy}
use Rattle.lists.proofs.Tests.{holds_so}
use Rattle.lists.proofs.Fronts.{all_taken, take_cases}
use Rattle.proof_checker.proofs.states.are_shaped.Goals as goal

pub loop-state-preserved : goal.loop-state-preserved
loop-state-preserved c =
    λ x h. elim (take_cases c.args.states.now c.loop-state.state-index c.state-item.result x c.loop-state-test.true h) [
      | inl before ↦ c.loop-state.invariant x before
      | inr same ↦ subst (λ z. IsShapedBy c.args.occurrences c.args.triples z) (c.state-item.is ∙ same) (c.if-not-is_shaped.ensures.0 refl)
    ]

pub returns : goal.returns
returns c =
    holds_so (AreShapedBy c.args.occurrences c.args.triples c.args.states.now)
    (λ x h. c.loop-state.invariant x (all_taken c.args.states.now c.loop-state.state-index x c.loop-state-test.false h))
