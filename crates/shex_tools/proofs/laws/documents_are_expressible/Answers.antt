use Rattle.shex_tools.proofs.Spelled.{documents_expressible}
use Rattle.shex_tools.proofs.laws.documents_are_expressible.Goals as goal

pub returns : goal.returns
returns c = documents_expressible c.compact_are_expressible.ensures c.read_are_expressible.ensures
