use Rattle.std.proofs.Common.{◌≡◌, take}
use Rattle.std.specs.List.{flat_map}
use Rattle.shard_checks.specs.Reached.{node_line}
use Rattle.shard_checks.proofs.reached.lines_of_nodes.Given as goal

abbrev pub invariant-loop-node : goal.invariant-loop-node
invariant-loop-node l = l.out.items ≡ flat_map (node_line l.fn.terms) (take l.node-index l.fn.nodes)
