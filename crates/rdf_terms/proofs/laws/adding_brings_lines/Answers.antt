use Rattle.rdf_terms.proofs.AddedLines.{adding_keeps}
use Rattle.rdf_terms.proofs.laws.adding_brings_lines.Goals as goal

pub returns : goal.returns
returns c = adding_keeps
