use Rattle.std.proofs.Common.{◌-◌}
use Rattle.demand.specs.Orders.{max_pairs}
use Rattle.demand.specs.Closing.{GrowsByNeeds}
use Rattle.demand.proofs.Following.{HoldUpTo}
use Rattle.demand.proofs.reach.see_needs.Given as goal

abbrev pub invariant-loop-at : goal.invariant-loop-at
invariant-loop-at l = record {
  led : GrowsByNeeds l.schema l.graph.triples l.fn.seen l.seen;
  held : HoldUpTo l.schema l.graph.triples l.at l.seen;
}

abbrev pub decreases-loop-at : goal.decreases-loop-at
decreases-loop-at l = max_pairs - l.at
