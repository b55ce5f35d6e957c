use Rattle.std.proofs.Common.{◌++◌, ap, sym, ◌∙◌, codes}
use Rattle.std.proofs.lemmas.Result.{err_from_is_err_and}
use Rattle.proof_file.proofs.Clean.{plus_stops, plus_found, minus_stops, minus_found}
use Rattle.proof_file.proofs.line.read_line.Goals as goal

pub returns-in_err-confirming : goal.returns-in_err-confirming
returns-in_err-confirming c =
    let p = err_from_is_err_and c.from_residual-in_err-confirming.result c.from_residual-in_err-confirming.ensures.1 in
    rw (p.1, p.2) (plus_stops c.args.text.now c.in-Some-strip_prefix-2.fields.now c.in_err-confirming.field-0.0 (c.in-Some-strip_prefix-2.ensures.cases.1.1
    ∙ ap (λ z. codes "+ " ++ z) (sym c.in-Some-strip_prefix-2.ensures.cases.2)) c.in_err-confirming.ensures)

pub returns-in-Some-strip_prefix-2 : goal.returns-in-Some-strip_prefix-2
returns-in-Some-strip_prefix-2 c = (
  plus_found c.args.text.now c.in-Some-strip_prefix-2.fields.now c.in_ok-confirming.field-0 (c.in-Some-strip_prefix-2.ensures.cases.1.1
      ∙ ap (λ z. codes "+ " ++ z) (sym c.in-Some-strip_prefix-2.ensures.cases.2)) c.in_ok-confirming.ensures.0 c.in_ok-confirming.ensures.1,
  (c.in_ok-confirming.ensures.1.0, tt),
)

pub returns-in_err-refuting : goal.returns-in_err-refuting
returns-in_err-refuting c =
    let p = err_from_is_err_and c.from_residual-in_err-refuting.result c.from_residual-in_err-refuting.ensures.1 in
    rw (p.1, p.2) (minus_stops c.args.text.now c.in-Some-strip_prefix-3.fields.now c.in_err-refuting.field-0.0 (c.in-Some-strip_prefix-3.ensures.cases.1.1
    ∙ ap (λ z. codes "- " ++ z) (sym c.in-Some-strip_prefix-3.ensures.cases.2)) c.in_err-refuting.ensures)

pub returns-in-Some-strip_prefix-3 : goal.returns-in-Some-strip_prefix-3
returns-in-Some-strip_prefix-3 c = (
  minus_found c.args.text.now c.in-Some-strip_prefix-3.fields.now c.in_ok-refuting.field-0 (c.in-Some-strip_prefix-3.ensures.cases.1.1
      ∙ ap (λ z. codes "- " ++ z) (sym c.in-Some-strip_prefix-3.ensures.cases.2)) c.in_ok-refuting.ensures.0 c.in_ok-refuting.ensures.1,
  (c.in_ok-refuting.ensures.1.0, tt),
)
