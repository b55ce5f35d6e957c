use Rattle.std.proofs.Common.{drop, refl}
use Rattle.schema_tree.specs.Places.{MayFail, MayHold}
use Rattle.schema_tree.specs.Relevant.{relevant_in_order}
use Rattle.schema_tree.proofs.Closed.{leads_nowhere, states_refute}
use Rattle.schema_tree.proofs.laws.closed_states_refute.Goals as goal

pub returns-clause-nowhere : goal.returns-clause-nowhere
returns-clause-nowhere c = λ s terms view lean sh n ts states closed x covered.
    leads_nowhere (MayHold s terms view lean) (MayFail s terms view lean) sh n ts states closed (drop x.done ts) x covered refl

pub returns-clause-refuted : goal.returns-clause-refuted
returns-clause-refuted c = λ s terms g view lean sh n states closed covered.
    states_refute (MayHold s terms view lean) (MayFail s terms view lean) sh n (relevant_in_order terms g sh n) g states closed covered
