use Rattle.std.proofs.Common.{◌≡◌, length, map, take}
use Rattle.strata.specs.Arcs.{AreByEnd}
use Rattle.strata.proofs.ends.by_end.Given as goal

abbrev pub invariant-loop-arc : goal.invariant-loop-arc
invariant-loop-arc l = record {
  count : length l.lists.items ≡ length l.s.shapes;
  each : AreByEnd (take l.arc-index l.arcs) (map (λ v. v.items) l.lists.items);
}
