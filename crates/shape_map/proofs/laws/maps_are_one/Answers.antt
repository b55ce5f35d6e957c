use Rattle.shape_map.proofs.Endings.{maps_one}
use Rattle.shape_map.proofs.laws.maps_are_one.Goals as goal

pub returns : goal.returns
returns c = maps_one
