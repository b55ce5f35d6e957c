use Rattle.std.specs.Prelude.{suc}
use Rattle.schema_tree.proofs.Decide.{decide_node, decide_sat, decide_shape}
use Rattle.schema_tree.proofs.Made.{well_made}
use Rattle.schema_tree.proofs.laws.satisfaction_is_decided.Goals as goal

pub returns-clause-expressions : goal.returns-clause-expressions
returns-clause-expressions c =
    λ s terms T n e. decide_sat s terms (decide_node c.nodes_are_decided.ensures) (suc e.0) T n e

pub returns-clause-shapes : goal.returns-clause-shapes
returns-clause-shapes c =
    λ s terms g T n i loaded. decide_shape s terms (decide_node c.nodes_are_decided.ensures) g (well_made s loaded) T n i
