use Rattle.std.specs.Prelude.{suc}
use Rattle.schema_tree.proofs.SureOnce.{sure_once, sure_some}
use Rattle.schema_tree.proofs.laws.verdict_is_one.Goals as goal

pub returns-clause-some : goal.returns-clause-some
returns-clause-some c = λ s terms view n e. sure_some s terms c.nodes_are_decided.ensures view n (suc e.0) e

pub returns-clause-one : goal.returns-clause-one
returns-clause-one c = λ s terms view n e v w. sure_once view terms n s e v w
