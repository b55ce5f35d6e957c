use Rattle.rdf_cursor.proofs.Loops.{as_either}
use Rattle.rdf_cursor.proofs.laws.loops_go_on.Goals as goal

pub returns : goal.returns
returns c = as_either
