use Rattle.data_reader.proofs.Once.{data_once}
use Rattle.data_reader.proofs.reader.data_are_one.Goals as goal

pub returns : goal.returns
returns c = data_once c.documents_are_one.ensures.short c.documents_are_one-2.ensures.limited
