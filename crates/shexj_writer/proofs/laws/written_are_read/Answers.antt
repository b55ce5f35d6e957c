use Rattle.shexj_writer.proofs.Writable.{written_read}
use Rattle.shexj_writer.proofs.laws.written_are_read.Goals as goal

pub returns : goal.returns
returns c = written_read
