use Rattle.std.proofs.Common.{◌∙◌, ap, sym, codes}
use Rattle.std.specs.Prelude.{if◌then◌else◌}
use Rattle.std.proofs.lemmas.Str.Pattern.{ends_text}
use Rattle.schema_reader.specs.declared.format.Format.TheVariants.{Compact, Json}
use Rattle.schema_reader.proofs.format.Format.of_name.Goals as goal

pub returns-else-ends_with : goal.returns-else-ends_with
returns-else-ends_with c = ap (λ b. if b then Compact else Json) (sym c.if-ends_with.false ∙ ends_text c.ends_with.result (codes ".shex") c.args.name.now c.ends_with.ensures.cases)
