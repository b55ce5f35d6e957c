use Rattle.term_tokens.proofs.Texts.{string_answers}
use Rattle.term_tokens.proofs.terms.lexical.Goals as goal

pub returns : goal.returns
returns c = string_answers c.args.bounded _ _ c.in_ok-text.text c.requires.string c.in_ok-text.ensures c.short.ensures
