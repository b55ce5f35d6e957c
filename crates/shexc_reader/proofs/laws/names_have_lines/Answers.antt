use Rattle.shexc_reader.proofs.Lines.{names_lined}
use Rattle.shexc_reader.proofs.laws.names_have_lines.Goals as goal

pub returns : goal.returns
returns c = names_lined
