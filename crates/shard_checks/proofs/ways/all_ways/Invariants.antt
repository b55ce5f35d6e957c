use Rattle.std.proofs.Common.{◌≡◌, take}
use Rattle.std.specs.List.{flat_map}
use Rattle.shard_checks.specs.Ways.{ways_of}
use Rattle.shard_checks.proofs.ways.all_ways.Given as goal

abbrev pub invariant-loop-links : goal.invariant-loop-links
invariant-loop-links l = l.ways.items ≡ flat_map ways_of (take l.links-index l.fn.shapes)
