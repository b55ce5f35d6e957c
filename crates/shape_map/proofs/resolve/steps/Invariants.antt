use Rattle.std.proofs.Common.{◌≤◌, length, drop}
use Rattle.shape_map.specs.Selection.{max_associations}
use Rattle.shape_map.proofs.Chosen.{GoesOn}
use Rattle.shape_map.proofs.resolve.steps.Given as goal

abbrev pub invariant-loop-item : goal.invariant-loop-item
invariant-loop-item l = record {
  goes : GoesOn l.schema l.graph.triples l.terms l.items l.out.items (drop l.item-index l.items);
  few : length l.out.items ≤ max_associations;
}
