use Rattle.std.proofs.Common.{◌≡◌, ◌-◌, drop, filter, length}
use Rattle.bag_match.specs.Later.{is_kept}
use Rattle.bag_match.proofs.passing.place_behind.Given as goal

abbrev pub invariant-loop-at : goal.invariant-loop-at
invariant-loop-at l =
    record {
      later : drop l.done (filter (is_kept l.occs l.node l.inward) l.triples) ≡ drop l.left (filter (is_kept l.occs l.node l.inward) (drop l.at l.triples));
      left : l.left - length (filter (is_kept l.occs l.node l.inward) (drop l.at l.triples)) ≡ l.done - length (filter (is_kept l.occs l.node l.inward) l.triples);
    }
