use Rattle.shex_tools.proofs.Spelled.{documents_one}
use Rattle.shex_tools.proofs.laws.documents_are_one.Goals as goal

pub returns : goal.returns
returns c = documents_one c.documents_are_one.ensures c.documents_are_one-2.ensures
