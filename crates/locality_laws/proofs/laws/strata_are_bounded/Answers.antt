use Rattle.locality_laws.proofs.Bounding.{strata_bounded}
use Rattle.locality_laws.proofs.Counting.{needs_counted, needs_have_counts}
use Rattle.locality_laws.proofs.laws.strata_are_bounded.Goals as goal

pub returns-clause-strata : goal.returns-clause-strata
returns-clause-strata c = strata_bounded

pub returns-clause-needs : goal.returns-clause-needs
returns-clause-needs c = needs_counted

pub returns-clause-counts : goal.returns-clause-counts
returns-clause-counts c = needs_have_counts
