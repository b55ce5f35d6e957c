use Rattle.nonconformance.proofs.Taken.{least_taken, many_taken_of, most_taken}
use Rattle.nonconformance.proofs.laws.bounds_are_taken.Goals as goal

pub returns-clause-least : goal.returns-clause-least
returns-clause-least c = λ p constraints. least_taken constraints p

pub returns-clause-most : goal.returns-clause-most
returns-clause-most c = λ p constraints most distinct sound choices is. most_taken constraints p distinct sound choices most is

pub returns-clause-many : goal.returns-clause-many
returns-clause-many c = λ p constraints. many_taken_of constraints p
