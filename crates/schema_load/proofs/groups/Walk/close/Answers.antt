use Rattle.std.proofs.Common.{subst}
use Rattle.std.specs.Prelude.{Contains}
use Rattle.schema_load.proofs.groups.Walk.close.Goals as goal

pub number_from-requires-clause-inside : goal.number_from-requires-clause-inside
number_from-requires-clause-inside c = λ p has. c.requires.inside p (subst (λ z. Contains z p) c.as_slice.ensures.value has)
