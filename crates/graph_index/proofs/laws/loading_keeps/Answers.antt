use Rattle.graph_index.proofs.Loaded.{loads_grow}
use Rattle.graph_index.proofs.laws.loading_keeps.Goals as goal

pub returns : goal.returns
returns c = λ terms a graph b ts. loads_grow terms a graph b ts
