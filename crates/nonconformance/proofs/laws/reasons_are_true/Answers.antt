use Rattle.nonconformance.proofs.Alike.{known_true}
use Rattle.nonconformance.proofs.laws.reasons_are_true.Goals as goal

pub returns : goal.returns
returns c = λ s terms g view T p r loaded needed. known_true c.nodes_are_decided.ensures s terms g view T p needed r
