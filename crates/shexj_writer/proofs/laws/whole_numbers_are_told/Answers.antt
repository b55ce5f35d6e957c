use Rattle.shexj_writer.proofs.Told.{told}
use Rattle.shexj_writer.proofs.laws.whole_numbers_are_told.Goals as goal

pub returns : goal.returns
returns c = told
