use Rattle.label_extents.specs.Extents.{IsMember}
use Rattle.label_extents.proofs.Existing.{extents_exist}
use Rattle.label_extents.proofs.Listed.{listed_one}
use Rattle.label_extents.proofs.laws.extents_are_one.Goals as goal

pub returns-clause-exist : goal.returns-clause-exist
returns-clause-exist c = extents_exist (record {
  exist = c.typing_is_one.ensures.exists;
  alike = c.strata_are_alike.ensures.answers;
  decided = c.satisfaction_is_decided.ensures.expressions;
  stratified = c.strata_are_least.ensures.stratified;
})

pub returns-clause-one : goal.returns-clause-one
returns-clause-one c = λ s terms g xs ys h k. listed_one terms (IsMember s terms g) s.labels xs ys h k
