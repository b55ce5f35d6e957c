use Rattle.std.proofs.Common.{◌≡◌, length, map, take}
use Rattle.typing_session.specs.Uses.{AreFiled}
use Rattle.typing_session.proofs.uses.filed.Given as goal

abbrev pub invariant-loop-one : goal.invariant-loop-one
invariant-loop-one l = record {
  filed : AreFiled (take l.one-index l.found) (map (λ v. v.items) l.lists.items);
  count : length l.lists.items ≡ l.count;
}
