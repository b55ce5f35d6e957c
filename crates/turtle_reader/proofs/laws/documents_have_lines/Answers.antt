use Rattle.turtle_reader.proofs.DocumentLines.{documents_plain}
use Rattle.turtle_reader.proofs.laws.documents_have_lines.Goals as goal

pub returns : goal.returns
returns c = documents_plain
