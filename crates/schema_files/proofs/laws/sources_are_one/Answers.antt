use Rattle.schema_files.proofs.Order.{sources_are_one}
use Rattle.schema_files.proofs.laws.sources_are_one.Goals as goal

pub returns : goal.returns
returns c = sources_are_one c.schemas_are_one.ensures
