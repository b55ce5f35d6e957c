use Rattle.std.proofs.Common.{◌≡◌, ℕ, take}
use Rattle.schema_tree.specs.Places.{times}
use Rattle.bag_match.proofs.counts.are_rest.Given as goal

abbrev pub invariant-loop-place : goal.invariant-loop-place
invariant-loop-place l = (i : ℕ) → times (take l.place-index l.places) i ≡ 0
