use Rattle.std.proofs.Common.{◌≡◌, ◌<◌, ◌≤◌, ◌-◌}
use Rattle.bag_match.specs.Lent.{predicate_at}
use Rattle.bag_match.proofs.arcs.last_alike.Given as goal

abbrev pub invariant-loop-step : goal.invariant-loop-step
invariant-loop-step l =
    record {
      some : 0 < l.step;
      from : l.first ≤ l.last;
      within : l.last < l.end;
      alike : predicate_at l.triples l.last ≡ predicate_at l.triples l.first;
    }

-- the last place comes nearer to the end
abbrev pub decreases-loop-step : goal.decreases-loop-step
decreases-loop-step l = l.end - l.last
