use Rattle.schema_files.proofs.Order.{refused_is_one}
use Rattle.schema_files.proofs.laws.refused_is_one.Goals as goal

pub returns : goal.returns
returns c = refused_is_one c.schemas_are_one.ensures
