use Rattle.graph_index.proofs.Loaded.{loads_hold}
use Rattle.graph_index.proofs.laws.loading_holds.Goals as goal

pub returns : goal.returns
returns c = λ terms a graph b ts. loads_hold terms a graph b ts
