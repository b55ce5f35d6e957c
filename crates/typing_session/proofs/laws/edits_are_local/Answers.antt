use Rattle.typing_session.proofs.Edited.{reach_same, verdicts_stay}
use Rattle.typing_session.proofs.Everywhere.{verdict_same_by_all}
use Rattle.typing_session.proofs.laws.edits_are_local.Goals as goal

pub returns-clause-reach : goal.returns-clause-reach
returns-clause-reach c = reach_same

pub returns-clause-verdicts : goal.returns-clause-verdicts
returns-clause-verdicts c = verdicts_stay c.refinement_is_one.ensures.exists c.refinement_is_local.ensures.closed

pub returns-clause-verdict : goal.returns-clause-verdict
returns-clause-verdict c = verdict_same_by_all c.refinement_is_one.ensures.exists c.refinement_is_local.ensures.closed
