use Rattle.std.proofs.Common.{◌≡◌, map, take}
use Rattle.std.specs.List.{AllByRecursion}
use Rattle.serde_json.specs.View.{view}
use Rattle.shexj_writer.specs.Held.{IsHeldValue}
use Rattle.shexj_writer.specs.Values.{value_data}
use Rattle.shexj_writer.proofs.values.value_set_value.Given as goal

abbrev pub invariant-loop-item : goal.invariant-loop-item
invariant-loop-item l =
    (map view l.all.items ≡ map value_data (take l.item-index l.values)) × AllByRecursion IsHeldValue (take l.item-index l.values)
