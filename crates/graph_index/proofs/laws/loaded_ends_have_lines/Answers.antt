use Rattle.graph_index.proofs.LoadedLines.{loaded_ends}
use Rattle.graph_index.proofs.laws.loaded_ends_have_lines.Goals as goal

pub returns : goal.returns
returns c = loaded_ends
