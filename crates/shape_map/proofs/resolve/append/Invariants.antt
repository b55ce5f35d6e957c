use Rattle.std.proofs.Common.{◌≡◌, ◌++◌, map, take}
use Rattle.shape_map.specs.Selection.{association}
use Rattle.shape_map.proofs.resolve.append.Given as goal

abbrev pub invariant-loop-node : goal.invariant-loop-node
invariant-loop-node l = l.out.items ≡ l.fn.out.items ++ map (association l.item l.expr) (take l.node-index l.nodes)
