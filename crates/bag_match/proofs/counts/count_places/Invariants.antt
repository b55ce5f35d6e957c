use Rattle.std.proofs.Common.{length, take}
use Rattle.bag_match.specs.Counted.{Counts}
use Rattle.bag_match.proofs.counts.count_places.Given as goal

abbrev pub invariant-loop-place : goal.invariant-loop-place
invariant-loop-place l = Counts (length l.fn.counts) (take l.place-index l.places) l.counts
