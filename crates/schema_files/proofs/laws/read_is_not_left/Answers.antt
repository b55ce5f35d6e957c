use Rattle.schema_files.proofs.Order.{read_is_not_left}
use Rattle.schema_files.proofs.laws.read_is_not_left.Goals as goal

pub returns : goal.returns
returns c = read_is_not_left c.schemas_are_one.ensures
