use Rattle.schema_reader.proofs.Answered.{schemas_one}
use Rattle.schema_reader.proofs.laws.schemas_are_one.Goals as goal

pub returns : goal.returns
returns c = schemas_one c.documents_are_one.ensures c.documents_are_one-2.ensures
