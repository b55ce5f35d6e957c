use Rattle.schema_tree.proofs.Sharing.{constraints_share}
use Rattle.schema_tree.proofs.examples.two_constraints_share_triples.Goals as goal

pub returns : goal.returns
returns c = constraints_share
