use Rattle.std.proofs.Common.{◌≡◌, ◌<◌, length, map}
use Rattle.std.specs.List.{AllByRecursion}
use Rattle.typing_refiner.specs.Filing.{put_strata}
use Rattle.typing_refiner.proofs.records.put_all_removed.Given as goal

abbrev pub invariant-loop-gone : goal.invariant-loop-gone
invariant-loop-gone l = record {
  put : put_strata (map (λ v. v.items) l.gone-iterator.rest.items) l.kinds.items ≡ put_strata (map (λ v. v.items) l.fn.all.items) l.fn.kinds.items;
  there : AllByRecursion (λ v. AllByRecursion (λ x. x.at < length l.fn.kinds.items) v.items) l.gone-iterator.rest.items;
  same : length l.kinds.items ≡ length l.fn.kinds.items;
}
