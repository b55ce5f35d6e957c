use Rattle.schema_tree.proofs.Groups.{choice_is_one}
use Rattle.schema_tree.proofs.examples.one_of_takes_one.Goals as goal

pub returns : goal.returns
returns c = choice_is_one
