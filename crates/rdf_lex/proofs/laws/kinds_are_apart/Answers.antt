use Rattle.rdf_lex.proofs.Single.{kinds_apart}
use Rattle.rdf_lex.proofs.laws.kinds_are_apart.Goals as goal

pub returns : goal.returns
returns c = kinds_apart
