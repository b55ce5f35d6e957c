use Rattle.std.proofs.Common.{◌≡◌, ◌<◌, length}
use Rattle.std.specs.List.{AllByRecursion}
use Rattle.typing_refiner.specs.Filing.{put_confirmed}
use Rattle.typing_refiner.proofs.records.put_all_confirmed.Given as goal

abbrev pub invariant-loop-confirmed : goal.invariant-loop-confirmed
invariant-loop-confirmed l = record {
  put : put_confirmed l.confirmed-iterator.rest.items l.kinds.items ≡ put_confirmed l.fn.all.items l.fn.kinds.items;
  there : AllByRecursion (λ x. x.at < length l.fn.kinds.items) l.confirmed-iterator.rest.items;
  same : length l.kinds.items ≡ length l.fn.kinds.items;
}
