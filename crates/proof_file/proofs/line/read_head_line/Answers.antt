use Rattle.std.proofs.lemmas.Result.{err_from_is_err_and}
use Rattle.proof_file.proofs.Heads.{strata_found, strata_stop}
use Rattle.proof_file.proofs.line.read_head_line.Goals as goal

pub returns-in_err-read_strata : goal.returns-in_err-read_strata
returns-in_err-read_strata c =
    let p = err_from_is_err_and c.from_residual-in_err-read_strata.result c.from_residual-in_err-read_strata.ensures.1 in
    rw (p.1, p.2) (strata_stop c.args.text.now c.in_err-read_strata.field-0.0 c.in_default.ensures.cases c.in_default-strip_prefix.ensures.cases c.in_default-strip_prefix-2.ensures.cases c.in_err-read_strata.ensures)

pub returns : goal.returns
returns c = (strata_found c.args.text.now c.in_ok-read_strata.field-0 c.in_ok-read_strata.ensures.0, c.in_ok-read_strata.ensures.1)
