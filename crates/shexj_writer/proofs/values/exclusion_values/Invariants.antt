use Rattle.std.proofs.Common.{◌≡◌, map, take}
use Rattle.std.specs.List.{AllByRecursion}
use Rattle.serde_json.specs.View.{view}
use Rattle.shexj_writer.specs.Held.{IsHeldExcept}
use Rattle.shexj_writer.specs.Values.{exclusion_data}
use Rattle.shexj_writer.proofs.values.exclusion_values.Given as goal

abbrev pub invariant-loop-exclusion : goal.invariant-loop-exclusion
invariant-loop-exclusion l =
    (map view l.all.items ≡ map (exclusion_data l.kind) (take l.exclusion-index l.exclusions)) × AllByRecursion IsHeldExcept (take l.exclusion-index l.exclusions)
