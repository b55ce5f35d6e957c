use Rattle.session_script.proofs.Texts.{not_refused}
use Rattle.session_script.proofs.laws.scripts_are_not_refused.Goals as goal

pub returns : goal.returns
returns c = not_refused
