use Rattle.std.proofs.Common.{◌++◌, ap, sym, ◌∙◌, map}
use Rattle.std.proofs.lemmas.Result.{err_from_is_err_and}
use Rattle.proof_file.specs.Reading.{fields, fields_left}
use Rattle.proof_file.specs.Text.{place_text, IsPlace}
use Rattle.proof_file.proofs.Gathered.{gather_stops}
use Rattle.proof_file.proofs.fields.places.Goals as goal

pub returns-in_err-place : goal.returns-in_err-place
returns-in_err-place c =
    let p = err_from_is_err_and c.from_residual.result c.from_residual.ensures.1 in
    rw (p.1, p.2) (gather_stops place_text IsPlace c.loop-left.places.items c.cut.result.0.now (fields_left 32 c.cut.result.1) (fields 32 c.in-Some.rest.now) (fields_left 32 c.args.text) c.in_err-place.field-0.0
    c.cut.ensures.fields (ap (λ z. map place_text c.loop-left.places.items ++ fields_left 32 z) (sym c.in-Some.is) ∙ c.loop-left.invariant.joined) c.in_err-place.ensures)
