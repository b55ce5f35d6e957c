use Rattle.std.proofs.Common.{◌≡◌, ◌++◌, take}
use Rattle.std.specs.List.{flat_map}
use Rattle.shard_checks.specs.WayLines.{way_line}
use Rattle.shard_checks.proofs.way_lines.push_lines.Given as goal

abbrev pub invariant-loop-predicate : goal.invariant-loop-predicate
invariant-loop-predicate l = l.out.items ≡ l.initial.out.items ++ flat_map (way_line l.fn.terms l.reading) (take l.predicate-index l.fn.predicates)
