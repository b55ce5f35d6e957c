use Rattle.std.proofs.Common.{map, take}
use Rattle.demand.specs.Closing.{AddsStarts}
use Rattle.demand.specs.Demand.{root}
use Rattle.demand.proofs.starting.see_nodes.Given as goal

abbrev pub invariant-loop-node : goal.invariant-loop-node
invariant-loop-node l = AddsStarts l.schema (take l.node-index (map (root l.fn.expr) l.nodes)) l.initial.seen l.seen
