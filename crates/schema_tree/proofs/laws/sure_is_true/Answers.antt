use Rattle.std.specs.Prelude.{suc}
use Rattle.schema_tree.proofs.Leans.{sure_sound}
use Rattle.schema_tree.proofs.ExactViews.{exact_match}
use Rattle.schema_tree.proofs.Truth.{match_true, mismatch_true}
use Rattle.schema_tree.proofs.laws.sure_is_true.Goals as goal

pub returns-clause-sure : goal.returns-clause-sure
returns-clause-sure c = λ s terms view T n e agrees. sure_sound s terms view T agrees n (suc e.0) e

pub returns-clause-matching : goal.returns-clause-matching
returns-clause-matching c = λ s terms g view T p loaded agrees. match_true s terms g loaded view T agrees p

pub returns-clause-not_matching : goal.returns-clause-not_matching
returns-clause-not_matching c = λ s terms g view T p loaded agrees. mismatch_true s terms g loaded view T agrees p

pub returns-clause-exact : goal.returns-clause-exact
returns-clause-exact c =
    λ s terms g view T p lean loaded needed. exact_match s terms c.nodes_are_decided.ensures g view T p lean loaded needed
