use Rattle.std.proofs.Common.{sym, ◌∙◌}
use Rattle.schema_load.proofs.Placed.{declared_nowhere}
use Rattle.schema_load.proofs.targets.find_declared.Goals as goal

pub returns-in-None-clause-none : goal.returns-in-None-clause-none
returns-in-None-clause-none c = λ e. declared_nowhere c.args.parts.now c.args.names.now c.requires c.args.label.now (sym c.find_place.ensures ∙ c.in-None.is)
