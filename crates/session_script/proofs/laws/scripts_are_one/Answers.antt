use Rattle.session_script.proofs.Texts.{one_any_script, one_script}
use Rattle.session_script.proofs.laws.scripts_are_one.Goals as goal

pub returns-clause-any : goal.returns-clause-any
returns-clause-any c = one_any_script

pub returns-clause-short : goal.returns-clause-short
returns-clause-short c = one_script
