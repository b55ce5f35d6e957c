use Rattle.graph_index.proofs.Loaded.{loads_one}
use Rattle.graph_index.proofs.laws.loading_is_one.Goals as goal

pub returns : goal.returns
returns c = λ terms a b graph e d ts. loads_one terms a b graph e d ts
