use Rattle.rdf_lex.proofs.Single.{one_list}
use Rattle.rdf_lex.proofs.laws.tokens_are_one.Goals as goal

pub returns : goal.returns
returns c = one_list
