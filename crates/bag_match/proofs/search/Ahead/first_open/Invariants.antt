use Rattle.std.proofs.Common.{◌≡◌, ◌≤◌}
use Rattle.bag_match.proofs.Failing.{LostTo}
use Rattle.bag_match.proofs.search.Ahead.first_open.Given as goal

abbrev pub invariant-loop-at : goal.invariant-loop-at
invariant-loop-at l =
    record {
      same : l.counts.items ≡ l.fn.counts.items;
      from : l.from ≤ l.at;
      lost : LostTo l.self.shape.now.body l.self.more.now l.self.failed.now l.self.left l.fn.counts.items l.places l.from l.at;
    }
