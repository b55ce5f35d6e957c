use Rattle.std.proofs.Common.{◌∙◌, ap, sym}
use Rattle.std.specs.Prelude.{option_map}
use Rattle.schema_files.specs.declared.error.SchemaFile.TheVariants.{Imported}
use Rattle.schema_files.proofs.Words.{numbered}
use Rattle.schema_files.proofs.asked.Asked.file_for.Goals as goal

pub returns-in-Some : goal.returns-in-Some
returns-in-Some c =
    ap (option_map (λ n. Imported n)) (sym c.in-Some.is) ∙ numbered c.args.self.now.words.now c.as_str.result.now _ c.number_of.result c.as_str.ensures.bytes c.number_of.ensures

pub returns-in-None : goal.returns-in-None
returns-in-None c =
    ap (option_map (λ n. Imported n)) (sym c.in-None.is) ∙ numbered c.args.self.now.words.now c.as_str.result.now _ c.number_of.result c.as_str.ensures.bytes c.number_of.ensures
