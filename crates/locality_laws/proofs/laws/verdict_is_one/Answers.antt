use Rattle.locality_laws.proofs.Holding.{unknown_wide, verdict_one, verdict_true}
use Rattle.locality_laws.proofs.laws.verdict_is_one.Goals as goal

pub returns-clause-one : goal.returns-clause-one
returns-clause-one c = verdict_one c.refinement_is_one.ensures.exists

pub returns-clause-wide : goal.returns-clause-wide
returns-clause-wide c = unknown_wide c.refinement_is_one.ensures.exists c.refinement_is_complete.ensures.pairs c.width_is_one.ensures.one

pub returns-clause-true_verdict : goal.returns-clause-true_verdict
returns-clause-true_verdict c = verdict_true c.refinement_is_one.ensures.exists c.refinement_is_true.ensures.whole
