use Rattle.std.proofs.Common.{◌≡◌, ◌≤◌, ◌++◌, length, map}
use Rattle.typing_refiner.specs.Filing.{IsFiled}
use Rattle.typing_refiner.proofs.ground.Ground.file_all.Given as goal

abbrev pub invariant-loop-kind : goal.invariant-loop-kind
invariant-loop-kind l = record {
  split : l.fn.kinds.items ≡ l.yielded ++ l.kind-iterator.rest.items;
  count : l.at ≡ length l.yielded;
  filed : IsFiled l.self.terms.now l.self.strata.now l.self.table.now l.fn.kinds.items l.at l.nodes.items (map (λ v. v.items) l.lists.items);
  few : length l.nodes.items ≤ l.at;
  same : length l.lists.items ≡ length l.fn.lists.items;
}
