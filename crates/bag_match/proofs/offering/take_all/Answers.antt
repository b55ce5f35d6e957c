use Rattle.schema_tree.specs.declared.verdicts.Place.TheVariants.{At}
use Rattle.std.proofs.Common.{sym, subst}
use Rattle.bag_match.specs.Counts.{ArePlacesOf}
use Rattle.bag_match.proofs.Offers.{read_there, taken_came, taken_next}
use Rattle.bag_match.proofs.offering.take_all.Goals as goal

pub lower-requires : goal.lower-requires
lower-requires c =
    taken_came c.args.counts.now.items c.args.places.now c.loop-place.place-index (At 0) c.loop-place.counts.items c.loop-place-test.true
    (read_there _ c.args.places.now c.loop-place.place-index (At 0) c.loop-place-test.true (subst (λ k. ArePlacesOf k c.args.places.now) (sym c.loop-place.invariant.len) c.requires.there))
    c.loop-place.invariant c.requires.some

pub loop-place-preserved : goal.loop-place-preserved
loop-place-preserved c =
    let there = read_there _ c.args.places.now c.loop-place.place-index (At 0) c.loop-place-test.true (subst (λ k. ArePlacesOf k c.args.places.now) (sym c.loop-place.invariant.len) c.requires.there) in
    let (before, held, came) =
    taken_came c.args.counts.now.items c.args.places.now c.loop-place.place-index (At 0) c.loop-place.counts.items c.loop-place-test.true there c.loop-place.invariant c.requires.some in
    taken_next c.args.counts.now.items c.args.places.now c.loop-place.place-index (At 0) c.loop-place.counts.items c.loop-place-test.true there
    c.loop-place.invariant before c.lower.new.counts.items held came (c.lower.ensures before came)
