use Rattle.std.proofs.Common.{◌≡◌, take}
use Rattle.std.specs.List.{flat_map}
use Rattle.std.specs.Option.{option_map}
use Rattle.shard_checks.specs.Written.{triple_line}
use Rattle.shard_checks.proofs.written.triple_lines.Given as goal

abbrev pub invariant-loop-triple : goal.invariant-loop-triple
invariant-loop-triple l = l.out.items ≡ flat_map (triple_line (option_map (λ p. p.now) l.fn.prefix) l.fn.terms) (take l.triple-index l.fn.triples)
