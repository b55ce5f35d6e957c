use Rattle.schema_tree.proofs.Truth.{all_true, refined_true}
use Rattle.schema_tree.proofs.laws.refinement_is_true.Goals as goal

pub returns-clause-stratum : goal.returns-clause-stratum
returns-clause-stratum c =
    λ s terms g f U T k loaded complete lower ins outs pairs budget nodes.
    refined_true s terms g loaded f U T k complete lower ins outs pairs budget nodes

pub returns-clause-whole : goal.returns-clause-whole
returns-clause-whole c =
    λ s terms g f U T loaded complete pairs budget nodes. all_true s terms g loaded f U pairs budget nodes T complete
