use Rattle.std.proofs.Common.{sym, ◌∙◌}
use Rattle.schema_load.proofs.Placed.{named_nowhere}
use Rattle.schema_load.proofs.targets.find_named.Goals as goal

pub returns-clause-none : goal.returns-clause-none
returns-clause-none c = λ e. named_nowhere c.args.parts.now c.args.names.now c.requires c.args.label.now (sym c.find_place.ensures ∙ e)
