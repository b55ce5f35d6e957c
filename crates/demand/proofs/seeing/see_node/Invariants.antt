use Rattle.std.proofs.Common.{map, take}
use Rattle.demand.specs.Closing.{Grows}
use Rattle.schema_tree.specs.Entries.{pair_of}
use Rattle.demand.proofs.seeing.see_node.Given as goal

abbrev pub invariant-loop-shape : goal.invariant-loop-shape
invariant-loop-shape l = Grows l.initial.seen (take l.shape-index (map (pair_of l.node) l.shapes)) l.seen
