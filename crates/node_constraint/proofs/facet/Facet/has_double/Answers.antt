use Rattle.node_constraint.proofs.Told.{double_told, no_double}
use Rattle.node_constraint.proofs.facet.Facet.has_double.Goals as goal

pub returns-in-Some : goal.returns-in-Some
returns-in-Some c = double_told _ c.in-Some.value.now c.is_double.result c.in-Some.ensures c.is_double.ensures

pub returns-in-None : goal.returns-in-None
returns-in-None c = no_double _ c.in-None.ensures
