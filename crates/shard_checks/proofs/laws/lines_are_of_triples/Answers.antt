use Rattle.shard_checks.proofs.Splitting.{lines_are_those, lines_say}
use Rattle.shard_checks.proofs.laws.lines_are_of_triples.Goals as goal

pub returns-clause-lines : goal.returns-clause-lines
returns-clause-lines c = lines_are_those

pub returns-clause-terms : goal.returns-clause-terms
returns-clause-terms c = lines_say
