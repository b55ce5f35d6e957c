use Rattle.std.proofs.lemmas.Result.{err_from_is_err_and}
use Rattle.graph_index.proofs.Loaded.{three_added, three_numbered}
use Rattle.session_run.proofs.Ran.{first_stops, second_stops, terms_alone, third_stops}
use Rattle.session_run.proofs.running.number_all.Goals as goal

pub returns-in_err-s-clause-stops : goal.returns-in_err-s-clause-stops
returns-in_err-s-clause-stops c =
    let p = err_from_is_err_and c.from_residual.result c.from_residual.ensures.1 in
    rw (p.1, p.2) (first_stops c.args.session.now.terms c.args.session.now.terms c.args.session.now.terms c.args.triple c.in_err-s.field-0.0 c.in_err-s.ensures.stops)

pub returns-in_err-p-clause-stops : goal.returns-in_err-p-clause-stops
returns-in_err-p-clause-stops c =
    let p = err_from_is_err_and c.from_residual-in_err-p.result c.from_residual-in_err-p.ensures.1 in
    rw (p.1, p.2) (second_stops c.args.session.now.terms c.number.new.session.terms c.number.new.session.terms c.args.triple c.in_err-p.field-0.0 c.in_ok-s.ensures.added c.in_err-p.ensures.stops)

pub returns-in_err-p-clause-alone : goal.returns-in_err-p-clause-alone
returns-in_err-p-clause-alone c = terms_alone c.args.session.now c.number.new.session c.number-2.new.session c.number.ensures.alone c.number-2.ensures.alone

pub returns-in_err-o-clause-stops : goal.returns-in_err-o-clause-stops
returns-in_err-o-clause-stops c =
    let p = err_from_is_err_and c.from_residual-in_err-o.result c.from_residual-in_err-o.ensures.1 in
    rw (p.1, p.2) (third_stops c.args.session.now.terms c.number.new.session.terms c.number-2.new.session.terms c.args.triple c.in_err-o.field-0.0 c.in_ok-s.ensures.added c.in_ok-p.ensures.added c.in_err-o.ensures.stops)

pub returns-in_err-o-clause-alone : goal.returns-in_err-o-clause-alone
returns-in_err-o-clause-alone c =
    terms_alone c.args.session.now c.number-2.new.session c.number-3.new.session (terms_alone c.args.session.now c.number.new.session c.number-2.new.session c.number.ensures.alone c.number-2.ensures.alone) c.number-3.ensures.alone

pub returns-clause-takes : goal.returns-clause-takes
returns-clause-takes c = three_added _ _ _ _ c.args.triple c.in_ok-s.ensures.added c.in_ok-p.ensures.added c.in_ok-o.ensures.added

pub returns-clause-numbered : goal.returns-clause-numbered
returns-clause-numbered c = three_numbered _ _ _ c.args.triple _ c.in_ok-p.ensures.added c.in_ok-o.ensures.added c.in_ok-s.ensures.number c.in_ok-p.ensures.number c.in_ok-o.ensures.number

pub returns-clause-alone : goal.returns-clause-alone
returns-clause-alone c =
    terms_alone c.args.session.now c.number-2.new.session c.number-3.new.session (terms_alone c.args.session.now c.number.new.session c.number-2.new.session c.number.ensures.alone c.number-2.ensures.alone) c.number-3.ensures.alone
