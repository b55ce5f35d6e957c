use Rattle.schema_load.specs.Sorting.{AreEntered}
use Rattle.schema_load.proofs.sorting.all_visits.Given as goal

abbrev pub invariant-loop-place : goal.invariant-loop-place
invariant-loop-place l = AreEntered l.place l.visits.items
