use Rattle.shex_drill.proofs.SchemaGrammar.{schema_document}
use Rattle.shex_drill.proofs.laws.schema_is_document.Goals as goal

pub returns : goal.returns
returns c = schema_document
