use Rattle.std.proofs.Common.{◌∙◌, ap, sym}
use Rattle.std.specs.Option.{option_copied}
use Rattle.explanation_texts.specs.Naming.{valued}
use Rattle.explanation_texts.proofs.Stepped.{got}
use Rattle.explanation_texts.proofs.names.Source.name_value.Goals as goal

pub name_expr-requires-clause-is : goal.name_expr-requires-clause-is
name_expr-requires-clause-is c =
    let at = sym (got c.args.occs.now c.args.number c.get.result c.get.ensures.lookup) ∙ ap option_copied c.in-Some.is in
    valued c.args.whole.expr c.args.whole.name.now c.args.occs.now c.args.number c.in-Some.occurrence.now c.requires.whole c.requires.occs at c.in-Some-value.is
    c.in_ok-name.ensures
