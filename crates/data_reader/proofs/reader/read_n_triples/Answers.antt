use Rattle.std.proofs.Common.{◌∙◌, sym}
use Rattle.data_reader.proofs.Answered.{bare_context}
use Rattle.data_reader.proofs.reader.read_n_triples.Goals as goal

pub returns-in-Ok-clause-found : goal.returns-in-Ok-clause-found
returns-in-Ok-clause-found c =
    let (triples, document, loads) = c.in_ok-read.ensures.found in
    record { triples = triples; spelled = (bare_context c.args.base.now c.in-Ok.prefixes c.in-Ok.ensures.base c.in-Ok.ensures.empty, document); loaded = loads }

pub returns-in-Ok-clause-complete : goal.returns-in-Ok-clause-complete
returns-in-Ok-clause-complete c = λ last triples a b spelled loads within.
    let (terms, graph) = c.in_ok-read.ensures.complete triples a b spelled.1 loads within in
    (sym (bare_context c.args.base.now c.in-Ok.prefixes c.in-Ok.ensures.base c.in-Ok.ensures.empty) ∙ spelled.0, terms, graph)
