use Rattle.conversion_laws.proofs.Documents.{schemas_expressible}
use Rattle.conversion_laws.proofs.laws.schemas_are_expressible.Goals as goal

pub returns : goal.returns
returns c = schemas_expressible c.read_are_expressible.ensures
