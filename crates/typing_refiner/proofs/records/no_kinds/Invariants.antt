use Rattle.std.proofs.Common.{ℕ, ◌≡◌, ◌≢◌, length, slice_get, Some}
use Rattle.proof_file.specs.declared.RecordKind.{RecordKind}
use Rattle.typing_refiner.proofs.records.no_kinds.Given as goal

abbrev pub invariant-loop : goal.invariant-loop
invariant-loop l = record {
  count : length l.kinds.items ≡ l.counter;
  empty : (i : ℕ) (k : RecordKind) → slice_get l.kinds.items i ≢ Some (Some k);
}
