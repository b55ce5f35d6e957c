use Rattle.std.proofs.Common.{Err, ap, refl}
use Rattle.std.proofs.lemmas.Result.{err_from_is_err_and}
use Rattle.session_run.specs.Running.{state_of}
use Rattle.session_run.proofs.Edited.{added, full_first, graph_keeps, keeps_on, numbered_of, terms_keep}
use Rattle.session_run.proofs.Ran.{added_fills, no_room}
use Rattle.session_run.proofs.running.add.Goals as goal

pub returns-in_err-numbers-clause-stops : goal.returns-in_err-numbers-clause-stops
returns-in_err-numbers-clause-stops c =
    let p = err_from_is_err_and c.from_residual.result c.from_residual.ensures.1 in
    let x = c.args.session.now in
    rw (p.1, p.2) (added_fills x.schema x.strata x.budget (state_of x) c.args.triple c.in_err-numbers.field-0.0 c.in_err-numbers.ensures.stops)

pub returns-in_err-numbers-clause-keeps : goal.returns-in_err-numbers-clause-keeps
returns-in_err-numbers-clause-keeps c = terms_keep c.args.session.now c.number_all.new.session c.number_all.ensures.alone

pub add-requires : goal.add-requires
add-requires c = record { ids = numbered_of c.number_all.new.session.terms c.args.triple c.in_ok-numbers.numbers c.in_ok-numbers.ensures.numbered }

pub returns-in_err-add-clause-stops : goal.returns-in_err-add-clause-stops
returns-in_err-add-clause-stops c =
    let p = err_from_is_err_and c.from_residual-in_err-add.result c.from_residual-in_err-add.ensures.1 in
    let x = c.args.session.now in
    rw (p.1, p.2) (no_room x.schema x.strata x.budget (state_of x) c.args.triple c.number_all.new.session.terms c.in_ok-numbers.numbers c.in_err-add.field-0.0 _ c.in_ok-numbers.ensures.takes c.in_ok-numbers.ensures.numbered
    (λ e. full_first x c.number_all.new.session c.in_ok-numbers.numbers c.number_all.ensures.alone (c.in_err-add.ensures.full.0 (ap (λ z. Err z) e))) refl)

pub returns-in_err-add-clause-keeps : goal.returns-in_err-add-clause-keeps
returns-in_err-add-clause-keeps c =
    keeps_on c.args.session.now c.number_all.new.session c.add.new.self (terms_keep c.args.session.now c.number_all.new.session c.number_all.ensures.alone)
    (graph_keeps c.number_all.new.session c.add.new.self c.add.ensures.alone)

pub returns-clause-edits : goal.returns-clause-edits
returns-clause-edits c =
    added c.args.session.now c.number_all.new.session c.add.new.self c.args.triple c.in_ok-numbers.numbers c.number_all.ensures.alone c.add.ensures.alone c.in_ok-numbers.ensures.takes c.in_ok-numbers.ensures.few c.in_ok-numbers.ensures.numbered
    c.requires.distinct c.in_ok-add.ensures.added (λ full. (let wrong = c.in_ok-add.ensures.full.1 full in cc))

pub returns-clause-keeps : goal.returns-clause-keeps
returns-clause-keeps c =
    keeps_on c.args.session.now c.number_all.new.session c.add.new.self (terms_keep c.args.session.now c.number_all.new.session c.number_all.ensures.alone)
    (graph_keeps c.number_all.new.session c.add.new.self c.add.ensures.alone)
