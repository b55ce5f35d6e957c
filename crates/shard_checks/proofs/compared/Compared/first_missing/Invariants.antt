use Rattle.std.proofs.Common.{◌≡◌, ℕ, List, [], map, take}
use Rattle.shard_checks.specs.Cover.{missing}
use Rattle.shard_checks.specs.Sets.{AreCompared, IsLooked}
use Rattle.shard_checks.proofs.compared.Compared.first_missing.Given as goal

abbrev pub invariant-loop-line : goal.invariant-loop-line
invariant-loop-line l = record {
  none : (all at back : List (List ℕ)) → AreCompared l.fn.self all at back → missing (map (λ x. x.now) (take l.line-index l.fn.lines)) all at back ≡ [];
  last : (all at back : List (List ℕ)) → AreCompared l.fn.self all at back → IsLooked l.looked at;
}
