use Rattle.shard_answers.proofs.covers.covers.Goals as goal

pub returns-clause-answer : goal.returns-clause-answer
returns-clause-answer g c = (_, c.in_ok-text.ensures.found, c.found.ensures.found)
