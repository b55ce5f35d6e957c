use Rattle.rdf_lex.specs.declared.kinds.Mode.TheVariants.{Map}
use Rattle.text_rows.proofs.tokens.meaning.Goals as goal

pub unescape-requires-clause-spelled : goal.unescape-requires-clause-spelled
unescape-requires-clause-spelled c = (Map, c.in-Token.ensures.longest.spelled)
