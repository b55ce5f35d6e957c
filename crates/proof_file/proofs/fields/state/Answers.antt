use Rattle.std.proofs.lemmas.Result.{err_from_is_err_and}
use Rattle.proof_file.proofs.Gathered.{no_state, done_stops, counts_stop, state_found}
use Rattle.proof_file.proofs.fields.state.Goals as goal

pub returns-in_default : goal.returns-in_default
returns-in_default c = no_state c.args.field.now c.split_once.result c.split_once.ensures.cases c.in_default.is

pub returns-in_err-done : goal.returns-in_err-done
returns-in_err-done c =
    let p = err_from_is_err_and c.from_residual.result c.from_residual.ensures.1 in
    rw (p.1, p.2) (done_stops c.args.field.now c.split_once.result (c.in-Some.done, c.in-Some.counts) c.in_err-done.field-0.0 c.split_once.ensures.cases c.in-Some.is c.in_err-done.ensures)

pub returns-in_err-counts : goal.returns-in_err-counts
returns-in_err-counts c =
    let p = err_from_is_err_and c.from_residual-in_err-counts.result c.from_residual-in_err-counts.ensures.1 in
    rw (p.1, p.2) (counts_stop c.args.field.now c.split_once.result (c.in-Some.done, c.in-Some.counts) c.none_if_empty.result c.in_err-counts.field-0.0 c.split_once.ensures.cases c.in-Some.is c.none_if_empty.ensures c.in_err-counts.ensures)

pub returns : goal.returns
returns c = (
  state_found c.args.field.now c.split_once.result (c.in-Some.done, c.in-Some.counts) c.none_if_empty.result c.in_ok-done.done c.in_ok-counts.counts
      c.split_once.ensures.cases c.in-Some.is c.none_if_empty.ensures c.in_ok-done.ensures.0 c.in_ok-counts.ensures.0,
  (c.in_ok-done.ensures.1, c.in_ok-counts.ensures.1),
)
