use Rattle.std.proofs.Common.{◌≡◌, take}
use Rattle.shard_checks.specs.WayLines.{predicates_in}
use Rattle.shard_checks.proofs.way_lines.predicates_in.Given as goal

abbrev pub invariant-loop-way : goal.invariant-loop-way
invariant-loop-way l = l.predicates.items ≡ predicates_in l.reading (take l.way-index l.fn.ways)
