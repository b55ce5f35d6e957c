use Rattle.schema_tree.proofs.Knowing.{acquainted_hold}
use Rattle.schema_tree.proofs.examples.acquainted_both_hold.Goals as goal

pub returns : goal.returns
returns c = acquainted_hold
