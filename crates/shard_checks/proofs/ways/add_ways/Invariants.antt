use Rattle.std.proofs.Common.{◌≡◌, ◌++◌, take}
use Rattle.shard_checks.specs.Ways.{ways_of}
use Rattle.shard_checks.proofs.ways.add_ways.Given as goal

abbrev pub invariant-loop-link : goal.invariant-loop-link
invariant-loop-link l = l.ways.items ≡ l.initial.ways.items ++ ways_of (take l.link-index l.fn.links)
