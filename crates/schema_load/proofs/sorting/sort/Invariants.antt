use Rattle.std.proofs.Common.{◌+◌, length}
use Rattle.schema_load.specs.Sorting.{IsVisiting, unopened}
use Rattle.schema_load.specs.Steps.{Keeps}
use Rattle.schema_load.proofs.sorting.sort.Given as goal

abbrev pub invariant-loop-visit : goal.invariant-loop-visit
invariant-loop-visit l = record {
  kept : Keeps l.parts l.targets l.done.items l.order.items;
  visiting : IsVisiting l.parts l.targets l.opened.items l.done.items l.visits.items;
}

abbrev pub decreases-loop-visit : goal.decreases-loop-visit
decreases-loop-visit l = length l.visits.items + unopened l.parts l.targets l.opened.items
