use Rattle.std.proofs.Common.{◌++◌, ap, sym, ◌∙◌, map}
use Rattle.std.proofs.lemmas.Result.{err_from_is_err_and}
use Rattle.std.specs.Fmt.{decimal}
use Rattle.proof_file.specs.Reading.{fields, fields_left}
use Rattle.proof_file.specs.Text.{IsNumber}
use Rattle.proof_file.proofs.Gathered.{gather_stops}
use Rattle.proof_file.proofs.fields.numbers.Goals as goal

pub returns-in_err-n : goal.returns-in_err-n
returns-in_err-n c =
    let p = err_from_is_err_and c.from_residual.result c.from_residual.ensures.1 in
    rw (p.1, p.2) (gather_stops decimal IsNumber c.loop-left.numbers.items c.cut.result.0.now (fields_left c.args.separator c.cut.result.1) (fields c.args.separator c.in-Some.rest.now) (fields_left c.args.separator c.args.text) c.in_err-n.field-0.0
    c.cut.ensures.fields (ap (λ z. map decimal c.loop-left.numbers.items ++ fields_left c.args.separator z) (sym c.in-Some.is) ∙ c.loop-left.invariant.joined) c.in_err-n.ensures)
