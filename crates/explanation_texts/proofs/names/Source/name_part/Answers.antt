use Rattle.explanation_texts.specs.Naming.{inside}
use Rattle.explanation_texts.proofs.names.Source.name_part.Goals as goal

pub name_expr-requires-clause-is : goal.name_expr-requires-clause-is
name_expr-requires-clause-is c = inside c.args.whole.expr c.args.whole.name.now c.args.number c.requires.whole c.requires.part c.in_ok-name.ensures
