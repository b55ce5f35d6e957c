use Rattle.std.proofs.Common.{take}
use Rattle.serde_json.specs.View.{items_view}
use Rattle.shexj_reader.specs.Values.{AreExclusions}
use Rattle.shexj_reader.proofs.values.read_exclusions.Given as goal

abbrev pub invariant-loop-item : goal.invariant-loop-item
invariant-loop-item l = AreExclusions l.kind l.all.items (items_view (take l.item-index l.item-items))
