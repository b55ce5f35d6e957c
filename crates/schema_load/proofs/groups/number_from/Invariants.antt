use Rattle.std.proofs.Common.{List, ℕ, ◌≤◌, length}
use Rattle.schema_load.specs.declared.part.Part.{Part}
use Rattle.schema_load.specs.Groups.{AreNumbered, unseen}
use Rattle.schema_load.proofs.groups.number_from.Given as goal

abbrev pub invariant-loop-position : goal.invariant-loop-position
invariant-loop-position l = record {
  low : l.start ≤ l.position;
  high : l.position ≤ length l.trail;
  numbered : AreNumbered l.fn.standings.items l.trail l.start l.position l.group l.standings.items;
  less : (parts : List Part) (targets : List ℕ) → unseen parts targets l.standings.items ≤ unseen parts targets l.fn.standings.items;
}
