use Rattle.proof_file.proofs.Faults.{few_lines}
use Rattle.proof_file.proofs.laws.lines_are_few.Goals as goal

pub returns : goal.returns
returns c = few_lines
