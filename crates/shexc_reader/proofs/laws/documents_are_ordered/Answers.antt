use Rattle.shexc_reader.proofs.Ordered.{documents_ordered}
use Rattle.shexc_reader.proofs.laws.documents_are_ordered.Goals as goal

pub returns : goal.returns
returns c = documents_ordered
