use Rattle.std.proofs.Common.{take}
use Rattle.serde_json.specs.View.{items_view}
use Rattle.shexj_reader.specs.Values.{SpellsValues}
use Rattle.shexj_reader.proofs.values.read_value_set.Given as goal

abbrev pub invariant-loop-item : goal.invariant-loop-item
invariant-loop-item l = SpellsValues l.all.items (items_view (take l.item-index l.item-items))
