use Rattle.conversion_laws.proofs.Conversions.{compact_held}
use Rattle.conversion_laws.proofs.laws.compact_are_held.Goals as goal

pub returns : goal.returns
returns c = compact_held
