use Rattle.shexc_constraints.proofs.Texts.{no_text}
use Rattle.shexc_constraints.proofs.values.empty.Goals as goal

pub returns : goal.returns
returns c = no_text _ c.from_str.ensures
