use Rattle.input_names.proofs.BaseLines.{base_plain}
use Rattle.input_names.proofs.laws.bases_are_lines.Goals as goal

pub returns : goal.returns
returns c = base_plain
