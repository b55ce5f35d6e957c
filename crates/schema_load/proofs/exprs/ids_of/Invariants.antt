use Rattle.std.proofs.Common.{◌≡◌, map, take}
use Rattle.schema_load.specs.Building.{number_in}
use Rattle.schema_load.proofs.exprs.ids_of.Given as goal

abbrev pub invariant-loop-place : goal.invariant-loop-place
invariant-loop-place l = l.ids.items ≡ map (number_in l.numbers) (take l.place-index l.places)
