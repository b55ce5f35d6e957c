use Rattle.shex_drill.proofs.GraphGrammar.{graph_document}
use Rattle.shex_drill.proofs.laws.graph_is_document.Goals as goal

pub returns : goal.returns
returns c = graph_document
