use Rattle.std.proofs.Common.{sym, rules}
use Rattle.serde_json.specs.View.{view}
use Rattle.key_paths.proofs.Trials.{told}
use Rattle.key_paths.proofs.trial.is_refused.Goals as goal

pub returns-in-Some : goal.returns-in-Some
returns-in-Some c = told c.eq.result c.in-Some.found c.args.error.now (view c.args.value.now) (sym c.eq.ensures) (search rules)
