use Rattle.locality_laws.proofs.Beside.{independent, verdict_independent}
use Rattle.locality_laws.proofs.laws.strata_are_independent.Goals as goal

pub returns-clause-refinement : goal.returns-clause-refinement
returns-clause-refinement c = independent

pub returns-clause-verdict : goal.returns-clause-verdict
returns-clause-verdict c = verdict_independent c.refinement_is_one.ensures.exists
