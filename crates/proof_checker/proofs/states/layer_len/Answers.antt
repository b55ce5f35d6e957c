use Rattle.std.proofs.Common.{arith, length, inl, inr, ap, sym, subst, ◌∙◌}
use Rattle.std.proofs.lemmas.List.{take_all}
use Rattle.std.specs.Prelude.{Contains}
use Rattle.proof_checker.proofs.Layered.{past_layer}
use Rattle.lists.proofs.Fronts.{all_taken, take_cases}
use Rattle.proof_checker.proofs.states.layer_len.Goals as goal

pub returns-then-states-i-clause-later : goal.returns-then-states-i-clause-later
returns-then-states-i-clause-later c =
    past_layer c.args.states.now c.loop-i.i c.args.done c.index-states-i.result c.requires.rising c.requires.from c.loop-i-test.true c.index-states-i.is
    (λ same. c.if-states-i.true (sym (ap (λ z. z.done) c.index-states-i.is) ∙ same))

pub loop-i-preserved : goal.loop-i-preserved
loop-i-preserved c =
    λ x h. elim (take_cases c.args.states.now c.loop-i.i c.index-states-i.result x c.loop-i-test.true h) [
      | inl before ↦ c.loop-i.invariant x before
      | inr same ↦ sym (ap (λ z. z.done) same) ∙ c.if-states-i.false
    ]

pub returns-clause-layer : goal.returns-clause-layer
returns-clause-layer c =
    λ x h. c.loop-i.invariant x (all_taken c.args.states.now c.loop-i.i x c.loop-i-test.false (subst (λ zs. Contains zs x) (take_all (length c.args.states.now) c.args.states.now (omega arith)) h))
