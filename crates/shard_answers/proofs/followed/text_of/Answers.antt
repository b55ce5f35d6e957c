use Rattle.shard_answers.proofs.followed.text_of.Goals as goal

pub returns-clause-ways : goal.returns-clause-ways
returns-clause-ways g c = record {
  first = c.in_ok-loaded.loaded.terms;
  schema = c.in_ok-loaded.loaded.schema;
  of_files = c.in_ok-loaded.ensures.schema;
  tells = c.in_ok-text.ensures;
}
