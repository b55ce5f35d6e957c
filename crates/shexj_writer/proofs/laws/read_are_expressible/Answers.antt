use Rattle.shexj_writer.proofs.JsonValues.{read_form}
use Rattle.shexj_writer.proofs.laws.read_are_expressible.Goals as goal

pub returns : goal.returns
returns c = read_form
