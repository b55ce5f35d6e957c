use Rattle.std.proofs.Common.{◌≡◌, ℕ}
use Rattle.schema_tree.specs.Places.{times}
use Rattle.lists.proofs.Tests.{neither}
use Rattle.bag_match.proofs.Counting.{is_rest, not_all_rest, rest_next}
use Rattle.bag_match.proofs.counts.are_rest.Goals as goal

pub returns-in-At : goal.returns-in-At
returns-in-At c =
    neither ((i : ℕ) → times c.args.places.now i ≡ 0) (not_all_rest c.args.places.now c.loop-place.place-index c.in-At.field-0 _ c.loop-place-test.true c.in-At.is)

pub loop-place-preserved : goal.loop-place-preserved
loop-place-preserved c = rest_next c.args.places.now c.loop-place.place-index _ c.loop-place-test.true (is_rest _ c.in_default.not-At) c.loop-place.invariant
