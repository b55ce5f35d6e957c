use Rattle.std.proofs.Common.{Err, ap, inl, inr, ◌∙◌}
use Rattle.std.proofs.lemmas.Result.{err_from_is_err_and}
use Rattle.node_constraint.proofs.Refusing.{cause_seen, float_cause, memory_cause, no_pattern, number_cause, pattern_cause, taken_seen}
use Rattle.node_constraint.proofs.constraint.NodeConstraint.make.Goals as goal

pub returns-in_err-patterns-clause-cause : goal.returns-in_err-patterns-clause-cause
returns-in_err-patterns-clause-cause c =
    let p = err_from_is_err_and c.from_residual.result c.from_residual.ensures.1 in
    rw (p.1, p.2) (cause_seen _ c.args.datatype _ c.args.facets.items c.in_err-patterns.field-0.0 c.as_ref.ensures.value c.as_slice.ensures.value c.in_err-patterns.ensures)

pub returns-in_err-patterns-clause-float : goal.returns-in_err-patterns-clause-float
returns-in_err-patterns-clause-float c = λ h.
    let p = err_from_is_err_and c.from_residual.result c.from_residual.ensures.1 in
    let cause = cause_seen _ c.args.datatype _ c.args.facets.items c.in_err-patterns.field-0.0 c.as_ref.ensures.value c.as_slice.ensures.value c.in_err-patterns.ensures in
    p.1 ∙ ap (λ z. Err z) (p.2 ∙ float_cause c.args.datatype c.args.facets.items c.in_err-patterns.field-0.0 cause h)

pub returns-in_err-patterns-clause-number : goal.returns-in_err-patterns-clause-number
returns-in_err-patterns-clause-number c = λ none h.
    let p = err_from_is_err_and c.from_residual.result c.from_residual.ensures.1 in
    let cause = cause_seen _ c.args.datatype _ c.args.facets.items c.in_err-patterns.field-0.0 c.as_ref.ensures.value c.as_slice.ensures.value c.in_err-patterns.ensures in
    p.1 ∙ ap (λ z. Err z) (p.2 ∙ number_cause c.args.datatype c.args.facets.items c.in_err-patterns.field-0.0 cause none h)

pub returns-in_err-patterns-clause-pattern : goal.returns-in_err-patterns-clause-pattern
returns-in_err-patterns-clause-pattern c = λ none decimal q first.
    let p = err_from_is_err_and c.from_residual.result c.from_residual.ensures.1 in
    let cause = cause_seen _ c.args.datatype _ c.args.facets.items c.in_err-patterns.field-0.0 c.as_ref.ensures.value c.as_slice.ensures.value c.in_err-patterns.ensures in
    elim (pattern_cause c.args.datatype c.args.facets.items c.in_err-patterns.field-0.0 cause none decimal q first) [
      | inl s ↦ inl (p.1 ∙ ap (λ z. Err z) (p.2 ∙ s))
      | inr s ↦ inr (p.1 ∙ ap (λ z. Err z) (p.2 ∙ s))
    ]

pub returns-in_err-patterns-clause-taken : goal.returns-in_err-patterns-clause-taken
returns-in_err-patterns-clause-taken c = λ sound.
    let p = err_from_is_err_and c.from_residual.result c.from_residual.ensures.1 in
    let cause = cause_seen _ c.args.datatype _ c.args.facets.items c.in_err-patterns.field-0.0 c.as_ref.ensures.value c.as_slice.ensures.value c.in_err-patterns.ensures in
    inr (p.1 ∙ ap (λ z. Err z) (p.2 ∙ memory_cause c.args.datatype c.args.facets.items c.in_err-patterns.field-0.0 cause sound))

pub invariant_of-result : goal.invariant_of-result
invariant_of-result c =
    let taken = taken_seen _ c.args.datatype _ c.args.facets.items c.in_ok-patterns.patterns.items c.as_ref.ensures.value c.as_slice.ensures.value c.in_ok-patterns.ensures in
    (taken.comparable, ∣ taken.read ∣₁)

pub returns-clause-sound : goal.returns-clause-sound
returns-clause-sound c =
    (taken_seen _ c.args.datatype _ c.args.facets.items c.in_ok-patterns.patterns.items c.as_ref.ensures.value c.as_slice.ensures.value c.in_ok-patterns.ensures).sound

pub returns-clause-float : goal.returns-clause-float
returns-clause-float c = λ h.
    let taken = taken_seen _ c.args.datatype _ c.args.facets.items c.in_ok-patterns.patterns.items c.as_ref.ensures.value c.as_slice.ensures.value c.in_ok-patterns.ensures in
    absurd (taken.sound.no_float h)

pub returns-clause-number : goal.returns-clause-number
returns-clause-number c = λ none h.
    let taken = taken_seen _ c.args.datatype _ c.args.facets.items c.in_ok-patterns.patterns.items c.as_ref.ensures.value c.as_slice.ensures.value c.in_ok-patterns.ensures in
    absurd (taken.sound.decimal h)

pub returns-clause-pattern : goal.returns-clause-pattern
returns-clause-pattern c = λ none decimal q first.
    let taken = taken_seen _ c.args.datatype _ c.args.facets.items c.in_ok-patterns.patterns.items c.as_ref.ensures.value c.as_slice.ensures.value c.in_ok-patterns.ensures in
    absurd (no_pattern c.args.datatype c.args.facets.items q taken.sound first)
