use Rattle.nonconformance.proofs.Totals.{keep_least, keep_most}
use Rattle.nonconformance.proofs.laws.bounds_are_kept.Goals as goal

pub returns-clause-least : goal.returns-clause-least
returns-clause-least c = keep_least

pub returns-clause-most : goal.returns-clause-most
returns-clause-most c = keep_most
