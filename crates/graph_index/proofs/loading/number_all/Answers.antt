use Rattle.std.proofs.lemmas.Result.{err_from_is_err_and}
use Rattle.rdf_terms.specs.Tables.{max_terms}
use Rattle.graph_index.proofs.Loaded.{passed, second_fills, third_fills, three_added, three_numbered, grows_three, grows_two_same}
use Rattle.lists.proofs.Additions.{first_fills}
use Rattle.graph_index.proofs.loading.number_all.Goals as goal

pub returns-in_err-s-clause-full : goal.returns-in_err-s-clause-full
returns-in_err-s-clause-full c = λ e new all.
    let p = err_from_is_err_and c.from_residual.result c.from_residual.ensures.1 in
    first_fills max_terms _ new _ _ (c.in_err-s.ensures.full (passed _ _ _ _ p.1 p.2 e)) all

pub returns-in_err-p-clause-full : goal.returns-in_err-p-clause-full
returns-in_err-p-clause-full c = λ e new all.
    let p = err_from_is_err_and c.from_residual-in_err-p.result c.from_residual-in_err-p.ensures.1 in
    second_fills max_terms _ _ new _ _ _ c.in_ok-s.ensures.added (c.in_err-p.ensures.full (passed _ _ _ _ p.1 p.2 e)) all

pub returns-in_err-o-clause-full : goal.returns-in_err-o-clause-full
returns-in_err-o-clause-full c = λ e new all.
    let p = err_from_is_err_and c.from_residual-in_err-o.result c.from_residual-in_err-o.ensures.1 in
    third_fills max_terms _ _ _ new _ _ _ c.in_ok-s.ensures.added c.in_ok-p.ensures.added (c.in_err-o.ensures.full (passed _ _ _ _ p.1 p.2 e)) all

pub returns-in_err-o-clause-grown : goal.returns-in_err-o-clause-grown
returns-in_err-o-clause-grown c = grows_two_same _ _ _ _ _ _ c.in_ok-s.ensures.added c.in_ok-p.ensures.added c.in_err-o.ensures.err

pub returns-clause-added : goal.returns-clause-added
returns-clause-added c = three_added _ _ _ _ c.args.triple c.in_ok-s.ensures.added c.in_ok-p.ensures.added c.in_ok-o.ensures.added

pub returns-clause-numbered : goal.returns-clause-numbered
returns-clause-numbered c = three_numbered _ _ _ c.args.triple _ c.in_ok-p.ensures.added c.in_ok-o.ensures.added c.in_ok-s.ensures.number c.in_ok-p.ensures.number c.in_ok-o.ensures.number

pub returns-clause-grown : goal.returns-clause-grown
returns-clause-grown c = grows_three _ _ _ _ _ _ _ c.in_ok-s.ensures.added c.in_ok-p.ensures.added c.in_ok-o.ensures.added
