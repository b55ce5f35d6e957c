use Rattle.std.proofs.Common.{refl, length}
use Rattle.bag_match.proofs.Counting.{all_counted, counts_small, none_counted, one_counted}
use Rattle.bag_match.proofs.counts.count_places.Goals as goal

pub loop-place-init : goal.loop-place-init
loop-place-init c = none_counted (length c.args.counts.now) c.args.places.now c.args.counts.now refl c.requires.none

pub count_place-requires : goal.count_place-requires
count_place-requires c = counts_small (length c.args.counts.now) c.args.places.now c.loop-place.place-index c.loop-place.counts c.loop-place-test.true c.requires.few c.loop-place.invariant

pub loop-place-preserved : goal.loop-place-preserved
loop-place-preserved c =
    one_counted (length c.args.counts.now) c.args.places.now c.loop-place.place-index _ c.loop-place.counts c.count_place.new.counts c.loop-place-test.true c.loop-place.invariant
    c.count_place.ensures.len c.count_place.ensures.added

pub returns : goal.returns
returns c = all_counted (length c.args.counts.now) c.args.places.now c.loop-place.place-index c.loop-place.counts c.loop-place-test.false c.loop-place.invariant
