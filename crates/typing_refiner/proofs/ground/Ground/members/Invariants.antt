use Rattle.std.proofs.Common.{◌≡◌, length, map}
use Rattle.typing_refiner.proofs.Membered.{AreMembersBelow}
use Rattle.typing_refiner.proofs.ground.Ground.members.Given as goal

abbrev pub invariant-loop-at : goal.invariant-loop-at
invariant-loop-at l = record {
  members : AreMembersBelow l.self l.at (map (λ v. v.items) l.lists.items);
  count : length l.lists.items ≡ l.count;
}
