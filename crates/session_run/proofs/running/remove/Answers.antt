use Rattle.std.proofs.lemmas.Result.{err_from_is_err_and}
use Rattle.session_run.specs.Running.{state_of}
use Rattle.session_run.proofs.Edited.{graph_keeps, keeps_on, removed, terms_keep}
use Rattle.session_run.proofs.Ran.{removed_fills}
use Rattle.session_run.proofs.running.remove.Goals as goal

pub returns-in_err-numbers-clause-stops : goal.returns-in_err-numbers-clause-stops
returns-in_err-numbers-clause-stops c =
    let p = err_from_is_err_and c.from_residual.result c.from_residual.ensures.1 in
    let x = c.args.session.now in
    rw (p.1, p.2) (removed_fills x.schema x.strata x.budget (state_of x) c.args.triple c.in_err-numbers.field-0.0 c.in_err-numbers.ensures.stops)

pub returns-in_err-numbers-clause-keeps : goal.returns-in_err-numbers-clause-keeps
returns-in_err-numbers-clause-keeps c = terms_keep c.args.session.now c.number_all.new.session c.number_all.ensures.alone

pub returns-in_err-remove-clause-keeps : goal.returns-in_err-remove-clause-keeps
returns-in_err-remove-clause-keeps c =
    keeps_on c.args.session.now c.number_all.new.session c.remove.new.self (terms_keep c.args.session.now c.number_all.new.session c.number_all.ensures.alone)
    (graph_keeps c.number_all.new.session c.remove.new.self c.remove.ensures.alone)

pub returns-clause-edits : goal.returns-clause-edits
returns-clause-edits c =
    removed c.args.session.now c.number_all.new.session c.remove.new.self c.args.triple c.in_ok-numbers.numbers c.number_all.ensures.alone c.remove.ensures.alone c.in_ok-numbers.ensures.takes c.in_ok-numbers.ensures.few c.in_ok-numbers.ensures.numbered
    c.requires.distinct c.in_ok-remove.field-0 c.in_ok-remove.ensures.held c.in_ok-remove.ensures.removed c.in_ok-remove.ensures.absent

pub returns-clause-keeps : goal.returns-clause-keeps
returns-clause-keeps c =
    keeps_on c.args.session.now c.number_all.new.session c.remove.new.self (terms_keep c.args.session.now c.number_all.new.session c.number_all.ensures.alone)
    (graph_keeps c.number_all.new.session c.remove.new.self c.remove.ensures.alone)
