use Rattle.data_reader.proofs.DataLines.{data_plain}
use Rattle.data_reader.proofs.laws.data_have_lines.Goals as goal

pub returns : goal.returns
returns c = data_plain c.documents_have_lines.ensures.short c.documents_have_lines-2.ensures
