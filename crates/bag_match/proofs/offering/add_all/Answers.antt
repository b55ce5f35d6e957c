use Rattle.schema_tree.specs.declared.verdicts.Place.TheVariants.{At}
use Rattle.std.proofs.Common.{sym, subst}
use Rattle.bag_match.specs.Counts.{ArePlacesOf}
use Rattle.bag_match.proofs.Offers.{added_next, added_small, read_there}
use Rattle.bag_match.proofs.offering.add_all.Goals as goal

pub raise-requires-clause-small : goal.raise-requires-clause-small
raise-requires-clause-small c = added_small c.args.counts.now.items c.args.places.now c.loop-place.place-index c.loop-place.counts.items c.loop-place.invariant c.requires.small

pub loop-place-preserved : goal.loop-place-preserved
loop-place-preserved c =
    added_next c.args.counts.now.items c.args.places.now c.loop-place.place-index (At 0) c.loop-place.counts.items c.raise.new.counts.items c.loop-place-test.true
    (read_there _ c.args.places.now c.loop-place.place-index (At 0) c.loop-place-test.true (subst (λ k. ArePlacesOf k c.args.places.now) (sym c.loop-place.invariant.len) c.requires.there))
    c.loop-place.invariant c.raise.ensures
