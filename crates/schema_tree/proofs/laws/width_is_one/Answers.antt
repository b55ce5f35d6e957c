use Rattle.schema_tree.proofs.Widths.{decided_by_form, narrower, one_width, plain_width, some_width}
use Rattle.schema_tree.proofs.laws.width_is_one.Goals as goal

pub returns-clause-one : goal.returns-clause-one
returns-clause-one c = λ s terms g p. (some_width s terms c.nodes_are_decided.ensures g p, one_width s terms g p)

pub returns-clause-narrower : goal.returns-clause-narrower
returns-clause-narrower c = narrower

pub returns-clause-decided : goal.returns-clause-decided
returns-clause-decided c = λ s terms g budget n e. decided_by_form s terms c.nodes_are_decided.ensures g budget n e

pub returns-clause-plain : goal.returns-clause-plain
returns-clause-plain c = λ s terms g p sh. plain_width s terms c.nodes_are_decided.ensures g p sh
