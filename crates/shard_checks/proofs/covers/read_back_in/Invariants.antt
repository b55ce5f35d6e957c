use Rattle.std.proofs.Common.{◌≡◌, map, take}
use Rattle.shard_checks.specs.Cover.{read_back_in}
use Rattle.shard_checks.proofs.covers.read_back_in.Given as goal

abbrev pub invariant-loop-line : goal.invariant-loop-line
invariant-loop-line l = map (λ x. x.now) l.back.items ≡ read_back_in (map (λ x. x.now) (take l.line-index l.fn.lines))
