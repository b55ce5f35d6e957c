use Rattle.std.proofs.Common.{◌∙◌, sym}
use Rattle.schema_files.proofs.Steps.{imports_counted}
use Rattle.schema_files.proofs.imports.import_count.Goals as goal

pub returns : goal.returns
returns c = λ a. imports_counted a c.args.held.now c.args.at c.index-held-at.result c.requires c.index-held-at.is ∙ sym c.import_count.ensures
