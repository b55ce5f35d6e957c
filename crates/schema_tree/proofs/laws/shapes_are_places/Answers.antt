use Rattle.schema_tree.proofs.Ordered.{ordered_same}
use Rattle.schema_tree.proofs.ShapePlaces.{shape_places}
use Rattle.schema_tree.proofs.laws.shapes_are_places.Goals as goal

pub returns-clause-places : goal.returns-clause-places
returns-clause-places c = shape_places

pub returns-clause-order : goal.returns-clause-order
returns-clause-order c = ordered_same
