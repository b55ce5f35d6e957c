use Rattle.schema_load.proofs.OrderedParts.{ordered_parts}
use Rattle.schema_load.proofs.laws.parts_are_ordered.Goals as goal

pub returns : goal.returns
returns c = ordered_parts
