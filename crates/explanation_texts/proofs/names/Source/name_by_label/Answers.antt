use Rattle.std.proofs.Common.{◌∙◌, ap}
use Rattle.std.specs.Prelude.{vec_items}
use Rattle.explanation_texts.specs.Naming.{labelled}
use Rattle.explanation_texts.proofs.names.Source.name_by_label.Goals as goal

pub name_expr-requires-clause-is : goal.name_expr-requires-clause-is
name_expr-requires-clause-is c = labelled c.args.label.now c.requires.label (ap vec_items c.into_bytes.ensures.value ∙ c.in_ok-text.ensures.written)
