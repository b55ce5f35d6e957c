use Rattle.std.proofs.Common.{◌≡◌, ◌<◌, length}
use Rattle.std.specs.List.{AllByRecursion}
use Rattle.typing_refiner.specs.Filing.{put_gone}
use Rattle.typing_refiner.proofs.records.put_removed.Given as goal

abbrev pub invariant-loop-removed : goal.invariant-loop-removed
invariant-loop-removed l = record {
  put : put_gone l.removed-iterator.rest.items l.kinds.items ≡ put_gone l.fn.gone.items l.fn.kinds.items;
  there : AllByRecursion (λ x. x.at < length l.fn.kinds.items) l.removed-iterator.rest.items;
  same : length l.kinds.items ≡ length l.fn.kinds.items;
}
