use Rattle.std.proofs.Common.{◌≡◌, ◌++◌}
use Rattle.lists.specs.Additions.{AddsAll}
use Rattle.shape_map.proofs.nodes.put_all.Given as goal

abbrev pub invariant-loop-node : goal.invariant-loop-node
invariant-loop-node l = (l.fn.nodes.items ≡ l.yielded ++ l.node-iterator.rest.items) × AddsAll l.fn.terms l.yielded l.terms
