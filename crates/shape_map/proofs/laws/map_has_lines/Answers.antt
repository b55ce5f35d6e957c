use Rattle.shape_map.proofs.ItemLines.{map_plain}
use Rattle.shape_map.proofs.laws.map_has_lines.Goals as goal

pub returns : goal.returns
returns c = map_plain
