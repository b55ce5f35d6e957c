use Rattle.shexj_reader.proofs.Readings.{none_refused}
use Rattle.shexj_reader.proofs.laws.refused_are_none.Goals as goal

pub returns : goal.returns
returns c = none_refused
