use Rattle.rdf_lex.proofs.TermTokens.{iri_tokens}
use Rattle.rdf_lex.proofs.laws.iri_texts_are_tokens.Goals as goal

pub returns : goal.returns
returns c = iri_tokens
