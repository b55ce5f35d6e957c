use Rattle.std.proofs.Common.{◌≡◌, ℕ, List, map, take}
use Rattle.shard_checks.specs.Cover.{outside}
use Rattle.shard_checks.specs.Sets.{Knows}
use Rattle.shard_checks.proofs.left.left_of.Given as goal

abbrev pub invariant-loop-line : goal.invariant-loop-line
invariant-loop-line l = (texts : List (List ℕ)) → Knows l.fn.set.lines.items texts → map (λ x. x.now) l.left.items ≡ outside texts (map (λ x. x.now) (take l.line-index l.fn.lines))
