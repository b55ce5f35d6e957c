use Rattle.term_tokens.proofs.Texts.{typed_is}
use Rattle.term_tokens.proofs.terms.with_datatype.Goals as goal

pub returns-in-Some : goal.returns-in-Some
returns-in-Some c = typed_is _ _ _ _ c.from_string.ensures c.in-Some.ensures.literal (λ e. c.in-Some.ensures.none.1 e)
