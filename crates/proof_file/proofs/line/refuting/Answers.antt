use Rattle.std.proofs.Common.{ap, sym, ◌∙◌, ◌∷◌, subst, true≢false}
use Rattle.proof_file.specs.Reading.{fields, fields_left}
use Rattle.schema_tree.specs.Rising.{Rises}
use Rattle.schema_tree.specs.States.{IsStateBefore}
use Rattle.proof_file.proofs.Parts.{not_rising}
use Rattle.proof_file.proofs.line.refuting.Goals as goal

pub returns-then-not-are_rising : goal.returns-then-not-are_rising
returns-then-not-are_rising c =
    not_rising (fields 32 c.args.text.now) c.cut.result.0.now c.cut-2.result.0.now c.cut-3.result.0.now (fields_left 32 c.cut-3.result.1) c.in_ok-states.states
    (c.cut.ensures.fields ∙ ap (λ z. c.cut.result.0.now ∷ fields_left 32 z) c.in-Some.is
    ∙ ap (λ z. c.cut.result.0.now ∷ z) (c.cut-2.ensures.fields ∙ ap (λ z. c.cut-2.result.0.now ∷ fields_left 32 z) c.in-Some-rest.is ∙ ap (λ z. c.cut-2.result.0.now ∷ z) c.cut-3.ensures.fields))
    c.in_ok-states.ensures.0 c.in_ok-states.ensures.1
    (λ rises. true≢false (sym (c.are_rising.ensures.1 (subst (Rises IsStateBefore) (sym c.as_slice.ensures) rises)) ∙ c.if-not-are_rising.true))
