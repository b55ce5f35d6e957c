use Rattle.session_script.proofs.CommandLines.{any_scripts_have, scripts_have}
use Rattle.session_script.proofs.laws.scripts_have_lines.Goals as goal

pub returns-clause-any : goal.returns-clause-any
returns-clause-any c = any_scripts_have

pub returns-clause-short : goal.returns-clause-short
returns-clause-short c = scripts_have
