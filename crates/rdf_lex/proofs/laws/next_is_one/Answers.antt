use Rattle.rdf_lex.proofs.Single.{lexed_one}
use Rattle.rdf_lex.proofs.laws.next_is_one.Goals as goal

pub returns : goal.returns
returns c = lexed_one
