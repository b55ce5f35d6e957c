use Rattle.std.proofs.Common.{take}
use Rattle.demand.specs.Closing.{AddsStarts}
use Rattle.demand.specs.Links.{AreShapesIn}
use Rattle.demand.proofs.starting.see_rows.Given as goal

abbrev pub invariant-loop-root : goal.invariant-loop-root
invariant-loop-root l = record {
  starts : AddsStarts l.schema (take l.root-index l.roots) l.initial.seen l.seen;
  shapes : AreShapesIn l.schema l.expr l.shapes;
}
