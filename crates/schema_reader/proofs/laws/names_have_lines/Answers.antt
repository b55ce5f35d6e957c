use Rattle.schema_reader.proofs.Lines.{names_lined}
use Rattle.schema_reader.proofs.laws.names_have_lines.Goals as goal

pub returns : goal.returns
returns c = names_lined c.names_have_lines.ensures
