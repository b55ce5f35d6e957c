use Rattle.std.proofs.Common.{ap, ◌∙◌}
use Rattle.node_constraint.specs.Held.{is_decimal_if_any}
use Rattle.node_constraint.proofs.facet.Facet.is_comparable.Goals as goal

pub returns-in-Some : goal.returns-in-Some
returns-in-Some c = c.is_decimal.ensures ∙ ap is_decimal_if_any c.in-Some.ensures

pub returns-in-None : goal.returns-in-None
returns-in-None c = ap is_decimal_if_any c.in-None.ensures
