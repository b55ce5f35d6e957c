use Rattle.std.proofs.Common.{◌∙◌, ◌++◌, ap, codes}
use Rattle.explanation_texts.specs.Naming.{starting}
use Rattle.explanation_texts.proofs.names.Source.name_start.Goals as goal

pub name_expr-requires-clause-is : goal.name_expr-requires-clause-is
name_expr-requires-clause-is c =
    starting c.in-Some.is (c.in_ok-extend_from_slice.ensures.items ∙ ap (λ name. name ++ codes "START") c.new-name.ensures.items)
