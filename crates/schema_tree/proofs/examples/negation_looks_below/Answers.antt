use Rattle.schema_tree.proofs.Nameless.{negation_below}
use Rattle.schema_tree.proofs.examples.negation_looks_below.Goals as goal

pub returns : goal.returns
returns c = negation_below
