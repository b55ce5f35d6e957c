use Rattle.term_tokens.proofs.Meanings.{text_of_is, text_is}
use Rattle.term_tokens.proofs.laws.texts_are_read.Goals as goal

pub returns : goal.returns
returns c = λ t text. (text_of_is t text, text_is t text)
