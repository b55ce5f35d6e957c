use Rattle.std.proofs.Common.{ap, subst}
use Rattle.std.proofs.lemmas.Result.{err_from_is_err_and}
use Rattle.graph_index.specs.Loading.{Loads}
use Rattle.shex_inputs.proofs.Reading.{reading_stops}
use Rattle.shex_inputs.proofs.data.read_data.Goals as goal

pub returns-clause-read : goal.returns-clause-read
returns-clause-read c =
    let found = c.in_ok-names.ensures.found in
    (found.triples, found.spelled, subst (λ g. Loads c.args.terms.now g found.triples c.read-read.new.terms c.read-read.new.graph.triples) (ap (λ g. g.triples) c.new-graph.ensures) found.loaded)

pub returns-in_err-names-clause-unread : goal.returns-in_err-names-clause-unread
returns-in_err-names-clause-unread c =
    let p = err_from_is_err_and c.from_residual.result c.from_residual.ensures.1 in
    rw (p.1, p.2)
    (reading_stops c.args.format c.args.base.now c.args.terms.now c.new-graph.result.triples c.args.source.now (ap (λ g. g.triples) c.new-graph.ensures) c.in_err-names.field-0.0 c.in_err-names.ensures.refused c.in_err-names.ensures.complete)
