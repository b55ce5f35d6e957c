use Rattle.conversion_laws.proofs.Conversions.{conversions_read}
use Rattle.conversion_laws.proofs.laws.conversions_are_read.Goals as goal

pub returns : goal.returns
returns c = conversions_read c.read_are_expressible.ensures c.read_are_held.ensures c.written_are_read.ensures
