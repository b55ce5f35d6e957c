use Rattle.schema_tree.proofs.Knowing.{broken_chain}
use Rattle.schema_tree.proofs.examples.broken_chain_falls.Goals as goal

pub returns : goal.returns
returns c = broken_chain
