use Rattle.std.specs.Prelude.{suc}
use Rattle.schema_tree.specs.Typings.{top_of}
use Rattle.schema_tree.proofs.OneRefinement.{refined_same}
use Rattle.schema_tree.proofs.RefinementExists.{refinement_exists}
use Rattle.schema_tree.proofs.laws.refinement_is_one.Goals as goal

pub returns-clause-exists : goal.returns-clause-exists
returns-clause-exists c =
    λ s terms g f pairs budget loaded distinct.
    refinement_exists s terms c.nodes_are_decided.ensures g loaded f pairs budget distinct (suc (top_of f))

pub returns-clause-one : goal.returns-clause-one
returns-clause-one c =
    λ s terms g f pairs budget known known' loaded. refined_same s terms g loaded f pairs budget (suc (top_of f)) known known'
