use Rattle.schema_reader.proofs.Answered.{schemas_ordered}
use Rattle.schema_reader.proofs.laws.schemas_are_ordered.Goals as goal

pub returns : goal.returns
returns c = schemas_ordered c.documents_are_ordered.ensures c.documents_are_ordered-2.ensures
