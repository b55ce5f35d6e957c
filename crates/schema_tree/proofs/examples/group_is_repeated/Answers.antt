use Rattle.schema_tree.proofs.Groups.{group_repeated}
use Rattle.schema_tree.proofs.examples.group_is_repeated.Goals as goal

pub returns : goal.returns
returns c = group_repeated
