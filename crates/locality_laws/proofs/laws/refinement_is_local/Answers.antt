use Rattle.locality_laws.proofs.Whole.{closed_local, kept_local, others_local}
use Rattle.locality_laws.proofs.laws.refinement_is_local.Goals as goal

pub returns-clause-closed : goal.returns-clause-closed
returns-clause-closed c = closed_local

pub returns-clause-others : goal.returns-clause-others
returns-clause-others c = others_local

pub returns-clause-kept : goal.returns-clause-kept
returns-clause-kept c = kept_local
