use Rattle.std.proofs.Common.{◌≡◌, ◌++◌, ap, sym, ◌∙◌, codes, get_or, subst, IfSome, IsNone}
use Rattle.std.proofs.lemmas.Option.{get_or_from_slice_get}
use Rattle.std.specs.List.{slice_get}
use Rattle.rdf_terms.specs.Names.{IsAnonymous}
use Rattle.rdf_terms.proofs.Anonymous.{some_digit, no_zero, low_first, found_number, missed_number}
use Rattle.rdf_terms.proofs.written.anonymous.Goals as goal

pub returns-in_err-first-clause-none : goal.returns-in_err-first-clause-none
returns-in_err-first-clause-none c = λ none n h. some_digit c.args.text.now c.in_ok-digits.digits.now n
    (c.in_ok-digits.ensures.cases.1.1 ∙ ap (λ z. codes "anon" ++ z) (sym c.in_ok-digits.ensures.cases.2))
    (c.in_err-first.ensures.value ∙ ap (λ z. slice_get z 0) c.as_bytes.ensures.value) h

pub returns-then-first-eq48-clause-none : goal.returns-then-first-eq48-clause-none
returns-then-first-eq48-clause-none c = λ none n h. no_zero c.args.text.now c.in_ok-digits.digits.now c.in_ok-first.field-0.now n
    (c.in_ok-digits.ensures.cases.1.1 ∙ ap (λ z. codes "anon" ++ z) (sym c.in_ok-digits.ensures.cases.2))
    (get_or_from_slice_get c.in_ok-digits.digits.now 0 c.in_ok-first.field-0.now 0 (ap (λ z. slice_get z 0) (sym c.as_bytes.ensures.value) ∙ sym c.in_ok-first.ensures.value))
    (low_first c.in_ok-first.field-0.now c.then-first-eq48.either) h

pub returns-clause-found : goal.returns-clause-found
returns-clause-found c =
    let is : get_or c.in_ok-digits.digits.now 0 0 ≡ c.in_ok-first.field-0.now =
    get_or_from_slice_get c.in_ok-digits.digits.now 0 c.in_ok-first.field-0.now 0 (ap (λ z. slice_get z 0) (sym c.as_bytes.ensures.value) ∙ sym c.in_ok-first.ensures.value) in
    subst (λ o. IfSome o (λ n. IsAnonymous c.args.text.now n)) (sym c.ok.ensures.value)
    (found_number c.args.text.now c.in_ok-digits.digits.now c.parse.result
    (c.in_ok-digits.ensures.cases.1.1 ∙ ap (λ z. codes "anon" ++ z) (sym c.in_ok-digits.ensures.cases.2))
    c.parse.ensures.value.0 (λ e. c.if-first-eq43.false (sym is ∙ e)) (λ e. c.if-first-eq48.false (sym is ∙ e)))

pub returns-clause-none : goal.returns-clause-none
returns-clause-none c = λ none. missed_number c.args.text.now c.in_ok-digits.digits.now c.parse.result
    (c.in_ok-digits.ensures.cases.1.1 ∙ ap (λ z. codes "anon" ++ z) (sym c.in_ok-digits.ensures.cases.2))
    c.parse.ensures.value.0 (subst IsNone c.ok.ensures.value none)
