use Rattle.std.proofs.Common.{[], ap, rules, subst}
use Rattle.std.proofs.lemmas.Result.{err_from_is_err_and}
use Rattle.data_reader.specs.Documents.{context_of}
use Rattle.graph_index.specs.Loading.{Loads}
use Rattle.shex_inputs.specs.Stops.{ReadingStops}
use Rattle.shex_inputs.proofs.Reading.{reading_stops}
use Rattle.shard_answers.proofs.lines.load.Goals as goal

pub returns-clause-loaded : goal.returns-clause-loaded
returns-clause-loaded c =
    let found = c.in_ok-_names.ensures.found in
    record {
      last = context_of c.in_ok-_names._names;
      triples = found.triples;
      spelled = found.spelled;
      loaded = subst (λ t. Loads t [] found.triples c.read-read.new.terms c.read-read.new.graph.triples) c.new-terms.ensures
          (subst (λ g. Loads c.new-terms.result g found.triples c.read-read.new.terms c.read-read.new.graph.triples) (ap (λ g. g.triples) c.new-graph.ensures) found.loaded);
      within = search rules;
    }

pub returns-in_err-_names-clause-unread : goal.returns-in_err-_names-clause-unread
returns-in_err-_names-clause-unread c =
    let p = err_from_is_err_and c.from_residual.result c.from_residual.ensures.1 in
    rw (p.1, p.2)
    (subst (λ t. ReadingStops c.args.format c.args.base.now t c.args.source.now c.in_err-_names.field-0.0) c.new-terms.ensures
    (reading_stops c.args.format c.args.base.now c.new-terms.result c.new-graph.result.triples c.args.source.now (ap (λ g. g.triples) c.new-graph.ensures) c.in_err-_names.field-0.0 c.in_err-_names.ensures.refused
    c.in_err-_names.ensures.complete))
