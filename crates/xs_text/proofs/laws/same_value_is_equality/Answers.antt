use Rattle.std.proofs.Common.{refl, sym}
use Rattle.xs_text.proofs.OrderLaws.{same_value_is_transitive}
use Rattle.xs_text.proofs.laws.same_value_is_equality.Goals as goal

pub returns-clause-reflexive : goal.returns-clause-reflexive
returns-clause-reflexive c = λ a. refl

pub returns-clause-symmetric : goal.returns-clause-symmetric
returns-clause-symmetric c = λ a b e. sym e

pub returns-clause-transitive : goal.returns-clause-transitive
returns-clause-transitive c = same_value_is_transitive
