use Rattle.std.proofs.Common.{◌≡◌, true}
use Rattle.rdf_cursor.proofs.Blocking.{blocked}
use Rattle.rdf_cursor.proofs.laws.faults_block.Goals as goal

pub returns : goal.returns
returns c = λ p spells. blocked p (λ x ts. spells x ts ≡ true)
