use Rattle.schema_tree.proofs.Decide.{decide_node, decide_shape}
use Rattle.schema_tree.proofs.Made.{well_made}
use Rattle.schema_tree.proofs.Unique.{complete_once}
use Rattle.schema_tree.proofs.Whole.{complete_exists}
use Rattle.schema_tree.specs.Typings.{top_of}
use Rattle.schema_tree.proofs.laws.typing_is_one.Goals as goal

pub returns-clause-exists : goal.returns-clause-exists
returns-clause-exists c = λ s terms g f U loaded strat.
    complete_exists s terms g f strat U
    (λ T p. decide_shape s terms (decide_node c.nodes_are_decided.ensures) g (well_made s loaded) T p.node p.shape)

pub returns-clause-one : goal.returns-clause-one
returns-clause-one c = λ s terms g f U T W. complete_once s terms g f U (top_of f) T W
