use Rattle.std.proofs.Common.{sym, ◌∙◌}
use Rattle.rdf_lex.proofs.Enclosing.{in_one, in_three}
use Rattle.rdf_lex.proofs.bodies.quoted.Goals as goal

pub enclosed-requires : goal.enclosed-requires
enclosed-requires c = (c.requires.0, in_three _ _ c.utf8.text (sym c.is_long.ensures ∙ c.if-is_long.true) c.requires.1)

pub enclosed-requires-else-is_long : goal.enclosed-requires-else-is_long
enclosed-requires-else-is_long c = (c.requires.0, in_one _ _ c.utf8.text (sym c.is_long.ensures ∙ c.if-is_long.false) c.requires.1)

pub returns-then-is_long : goal.returns-then-is_long
returns-then-is_long c = λ body h. c.enclosed.ensures body (in_three _ _ c.utf8.text (sym c.is_long.ensures ∙ c.if-is_long.true) h)

pub returns-else-is_long : goal.returns-else-is_long
returns-else-is_long c = λ body h. c.enclosed-else-is_long.ensures body (in_one _ _ c.utf8.text (sym c.is_long.ensures ∙ c.if-is_long.false) h)
