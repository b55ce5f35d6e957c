use Rattle.std.proofs.Common.{◌≡◌, ◌++◌, length, map}
use Rattle.typing_refiner.specs.Filing.{sections_from}
use Rattle.typing_refiner.proofs.records.sections_of.Given as goal

abbrev pub invariant-loop-records : goal.invariant-loop-records
invariant-loop-records l = record {
  split : l.fn.lists.items ≡ l.yielded ++ l.records-iterator.rest.items;
  count : l.stratum ≡ length l.yielded;
  made : sections_from 0 (map (λ v. v.items) l.fn.lists.items) ≡ l.sections.items ++ sections_from l.stratum (map (λ v. v.items) l.records-iterator.rest.items);
}
