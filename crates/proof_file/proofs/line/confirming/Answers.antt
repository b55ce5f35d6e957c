use Rattle.std.proofs.Common.{ap, ◌∙◌, ◌∷◌}
use Rattle.std.proofs.lemmas.Result.{err_from_is_err_and}
use Rattle.proof_file.specs.Reading.{fields, fields_left}
use Rattle.proof_file.proofs.Parts.{places_stop}
use Rattle.proof_file.proofs.line.confirming.Goals as goal

pub returns-in_err-places : goal.returns-in_err-places
returns-in_err-places c =
    let p = err_from_is_err_and c.from_residual-in_err-places.result c.from_residual-in_err-places.ensures.1 in
    rw (p.1, p.2) (places_stop (fields 32 c.args.text.now) c.cut.result.0.now c.cut-2.result.0.now (fields_left 32 c.cut-2.result.1) c.in_err-places.field-0.0
    (c.cut.ensures.fields ∙ ap (λ z. c.cut.result.0.now ∷ fields_left 32 z) c.in-Some.is ∙ ap (λ z. c.cut.result.0.now ∷ z) c.cut-2.ensures.fields) c.in_err-places.ensures)
