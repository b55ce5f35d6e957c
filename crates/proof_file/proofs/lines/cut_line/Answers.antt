use Rattle.proof_file.proofs.Steps.{line_cut, no_line_cut}
use Rattle.proof_file.proofs.lines.cut_line.Goals as goal

pub returns-in-Some : goal.returns-in-Some
returns-in-Some c = line_cut c.args.bytes.now c.in-Some.end c.in-Some.ensures

pub returns-in-None : goal.returns-in-None
returns-in-None c = no_line_cut c.args.bytes.now c.in-None.ensures
