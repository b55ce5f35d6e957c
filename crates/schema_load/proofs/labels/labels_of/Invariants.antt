use Rattle.std.proofs.Common.{◌≡◌, take}
use Rattle.schema_load.specs.Building.{labels_in, number_in}
use Rattle.schema_load.proofs.labels.labels_of.Given as goal

abbrev pub invariant-loop-place : goal.invariant-loop-place
invariant-loop-place l = l.labels ≡ labels_in (take l.place l.parts) (number_in l.numbers)
