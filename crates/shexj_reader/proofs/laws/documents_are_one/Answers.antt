use Rattle.shexj_reader.proofs.Readings.{one_reading}
use Rattle.shexj_reader.proofs.laws.documents_are_one.Goals as goal

pub returns : goal.returns
returns c = one_reading
