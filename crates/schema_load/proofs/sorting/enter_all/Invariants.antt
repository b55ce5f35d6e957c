use Rattle.std.proofs.Common.{◌≡◌, ◌++◌, map, take}
use Rattle.schema_load.specs.declared.sorting.Visit.TheVariants.{Enter}
use Rattle.schema_load.proofs.sorting.enter_all.Given as goal

abbrev pub invariant-loop-place : goal.invariant-loop-place
invariant-loop-place l = l.visits.items ≡ l.fn.visits.items ++ map Enter (take l.place-index l.places)
