use Rattle.shexj_writer.proofs.Parts.{read_parts}
use Rattle.shexj_writer.proofs.laws.read_are_held.Goals as goal

pub returns : goal.returns
returns c = read_parts
