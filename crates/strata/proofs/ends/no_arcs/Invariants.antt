use Rattle.std.proofs.Common.{◌≡◌, [], length, map}
use Rattle.strata.specs.Arcs.{AreByEnd}
use Rattle.strata.proofs.ends.no_arcs.Given as goal

abbrev pub invariant-loop : goal.invariant-loop
invariant-loop l = record {
  count : length l.lists.items ≡ l.counter;
  none : AreByEnd [] (map (λ v. v.items) l.lists.items);
}
