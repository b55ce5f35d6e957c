use Rattle.std.proofs.Common.{◌≡◌, length, map}
use Rattle.typing_session.specs.Uses.{AreEmptyLists}
use Rattle.typing_session.proofs.uses.empty_lists.Given as goal

abbrev pub invariant-loop : goal.invariant-loop
invariant-loop l = record {
  count : length l.lists.items ≡ l.counter;
  empty : AreEmptyLists (map (λ v. v.items) l.lists.items);
}
