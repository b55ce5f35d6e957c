use Rattle.rdf_lex.proofs.Single.{on_behind}
use Rattle.rdf_lex.proofs.laws.tokens_go_on.Goals as goal

pub returns : goal.returns
returns c = on_behind
