use Rattle.schema_load.proofs.Loadable.{is_loaded}
use Rattle.schema_load.proofs.laws.standing_is_loaded.Goals as goal

pub returns : goal.returns
returns c = λ docs terms s ordered x. is_loaded docs terms s ordered x
