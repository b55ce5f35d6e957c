use Rattle.std.proofs.Common.{take}
use Rattle.idle_selectors.specs.Idle.{AreIdleLines}
use Rattle.idle_selectors.proofs.listing.idle_lines.Given as goal

abbrev pub invariant-loop-item : goal.invariant-loop-item
invariant-loop-item l = AreIdleLines l.terms l.graph.triples (take l.item-index l.items) l.lines
