use Rattle.schema_tree.proofs.CompleteRefinement.{decided_answer, decided_sure, narrow_known}
use Rattle.schema_tree.proofs.laws.refinement_is_complete.Goals as goal

pub returns-clause-pairs : goal.returns-clause-pairs
returns-clause-pairs c =
    λ s terms g f pairs budget known loaded strat held refined.
    narrow_known s terms c.nodes_are_decided.ensures g loaded f strat pairs budget held known refined

pub returns-clause-expressions : goal.returns-clause-expressions
returns-clause-expressions c =
    λ s terms g f pairs budget known loaded strat held refined.
    decided_sure s terms c.nodes_are_decided.ensures g loaded f strat pairs budget held known refined

pub returns-clause-answers : goal.returns-clause-answers
returns-clause-answers c =
    λ s terms g f pairs budget known loaded strat held refined.
    decided_answer s terms c.nodes_are_decided.ensures g loaded f strat pairs budget held known refined
