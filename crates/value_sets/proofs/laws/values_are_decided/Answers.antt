use Rattle.value_sets.proofs.Deciding.{values_are_decided}
use Rattle.value_sets.proofs.laws.values_are_decided.Goals as goal

pub returns : goal.returns
returns c = values_are_decided
