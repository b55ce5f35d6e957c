use Rattle.rdf_lex.proofs.Enclosing.{behind_is}
use Rattle.term_tokens.proofs.parts.local_name.Goals as goal

pub returns : goal.returns
returns c = λ body h. behind_is _ body _ c.utf8.text h c.after_colon.ensures
