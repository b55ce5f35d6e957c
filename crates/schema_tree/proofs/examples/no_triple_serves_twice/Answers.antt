use Rattle.schema_tree.proofs.Sharing.{no_triple_twice}
use Rattle.schema_tree.proofs.examples.no_triple_serves_twice.Goals as goal

pub returns : goal.returns
returns c = no_triple_twice
