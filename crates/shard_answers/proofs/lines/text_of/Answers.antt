use Rattle.std.proofs.Common.{rules}
use Rattle.shard_answers.proofs.lines.text_of.Goals as goal

pub returns-clause-lines : goal.returns-clause-lines
returns-clause-lines g c =
    let loaded = c.in_ok-loaded.loaded in
    record { terms = loaded.terms; graph = loaded.graph.triples; held = c.in_ok-loaded.ensures.loaded; text_is = search (rules, c.triples-triples.ensures) }
