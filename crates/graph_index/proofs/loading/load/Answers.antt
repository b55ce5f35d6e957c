use Rattle.std.proofs.Common.{ap, Err}
use Rattle.std.proofs.lemmas.Result.{err_from_is_err_and}
use Rattle.graph_index.proofs.Loaded.{passed, table_full, graph_full, one_loaded}
use Rattle.graph_index.proofs.loading.load.Goals as goal

pub returns-in_err-numbers-clause-full : goal.returns-in_err-numbers-clause-full
returns-in_err-numbers-clause-full c = λ e.
    let p = err_from_is_err_and c.from_residual.result c.from_residual.ensures.1 in
    table_full _ _ _ (c.in_err-numbers.ensures.full (passed _ _ _ _ p.1 p.2 e))

pub returns-in-Ok-clause-loaded : goal.returns-in-Ok-clause-loaded
returns-in-Ok-clause-loaded c = one_loaded _ _ _ _ _ _ c.in_ok-numbers.ensures.added c.in_ok-numbers.ensures.numbered c.in-Ok.ensures.added

pub returns-in-Err-Full-clause-full : goal.returns-in-Err-Full-clause-full
returns-in-Err-Full-clause-full c = λ e. graph_full _ _ _ _ _ c.in_ok-numbers.ensures.distinct c.in_ok-numbers.ensures.added c.in_ok-numbers.ensures.numbered
    (c.in-Err-Full.ensures.full.0 (ap Err c.in-Err-Full.field-0-is))
