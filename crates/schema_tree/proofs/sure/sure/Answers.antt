use Rattle.schema_tree.proofs.Joining.{no_other}
use Rattle.schema_tree.proofs.sure.sure.Goals as goal

pub returns-clause-no_other : goal.returns-clause-no_other
returns-clause-no_other g c = no_other _ _ _ _ _ _ c.verdict.ensures.sure
