use Rattle.graph_index.proofs.LoadedLines.{loading_keeps}
use Rattle.graph_index.proofs.laws.loading_brings_lines.Goals as goal

pub returns : goal.returns
returns c = loading_keeps
