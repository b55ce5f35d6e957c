use Rattle.shexj_reader.proofs.Orders.{document_ordered}
use Rattle.shexj_reader.proofs.laws.documents_are_ordered.Goals as goal

pub returns : goal.returns
returns c = document_ordered
