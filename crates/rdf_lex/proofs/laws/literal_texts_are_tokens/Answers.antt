use Rattle.rdf_lex.proofs.TermTokens.{literal_tokens}
use Rattle.rdf_lex.proofs.laws.literal_texts_are_tokens.Goals as goal

pub returns : goal.returns
returns c = literal_tokens
