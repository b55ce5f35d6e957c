use Rattle.conversion_laws.proofs.Documents.{compact_expressible}
use Rattle.conversion_laws.proofs.laws.compact_are_expressible.Goals as goal

pub returns : goal.returns
returns c = compact_expressible
