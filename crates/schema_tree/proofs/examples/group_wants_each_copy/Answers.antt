use Rattle.schema_tree.proofs.Groups.{group_wants}
use Rattle.schema_tree.proofs.examples.group_wants_each_copy.Goals as goal

pub returns : goal.returns
returns c = group_wants
