use Rattle.std.proofs.Common.{ℕ, [], ◌≡◌, List, length, map, slice_get, Some}
use Rattle.proof_file.specs.declared.Record.{Record}
use Rattle.typing_refiner.proofs.records.no_lists.Given as goal

abbrev pub invariant-loop : goal.invariant-loop
invariant-loop l = record {
  count : length l.lists.items ≡ l.counter;
  empty : (i : ℕ) (rs : List Record) → slice_get (map (λ v. v.items) l.lists.items) i ≡ Some rs → rs ≡ [];
}
