use Rattle.graph_index.proofs.Growth.{outlives}
use Rattle.graph_index.proofs.laws.sealing_outlives_growth.Goals as goal

pub returns : goal.returns
returns c = outlives
