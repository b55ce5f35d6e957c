use Rattle.schema_tree.proofs.Groups.{loop_serves}
use Rattle.schema_tree.proofs.examples.loop_serves_inverse.Goals as goal

pub returns : goal.returns
returns c = loop_serves
