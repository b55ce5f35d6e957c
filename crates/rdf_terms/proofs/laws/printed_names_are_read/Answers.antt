use Rattle.rdf_terms.proofs.PrintedNames.{printed_read, names_one, printed_distinct}
use Rattle.rdf_terms.proofs.laws.printed_names_are_read.Goals as goal

pub returns-clause-read : goal.returns-clause-read
returns-clause-read c = printed_read

pub returns-clause-one : goal.returns-clause-one
returns-clause-one c = names_one

pub returns-clause-distinct : goal.returns-clause-distinct
returns-clause-distinct c = printed_distinct
