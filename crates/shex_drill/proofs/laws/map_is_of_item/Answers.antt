use Rattle.shex_drill.proofs.MapGrammar.{map_of_item}
use Rattle.shex_drill.proofs.laws.map_is_of_item.Goals as goal

pub returns : goal.returns
returns c = map_of_item
