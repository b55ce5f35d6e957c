use Rattle.std.proofs.Common.{take}
use Rattle.demand.specs.Closing.{AddsStarts}
use Rattle.demand.specs.Demand.{roots_of}
use Rattle.demand.proofs.starting.see_each.Given as goal

abbrev pub invariant-loop-expr : goal.invariant-loop-expr
invariant-loop-expr l = AddsStarts l.schema (roots_of l.nodes (take l.expr-index l.exprs)) l.initial.seen l.seen
