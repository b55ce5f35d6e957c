use Rattle.std.proofs.Common.{sym, subst, ◌∙◌}
use Rattle.schema_tree.specs.declared.verdicts.Place.TheVariants.{At}
use Rattle.bag_match.specs.Counts.{ArePlacesOf}
use Rattle.bag_match.proofs.Offers.{added_next, added_none, added_small, read_there}
use Rattle.typing_refiner.proofs.Tallies.{zeros_long, zeros_small}
use Rattle.typing_refiner.proofs.witness.counts_of.Goals as goal

pub loop-place-init : goal.loop-place-init
loop-place-init c = added_none _ c.args.places.now

pub raise-requires-clause-small : goal.raise-requires-clause-small
raise-requires-clause-small c =
    added_small _ c.args.places.now c.loop-place.place-index c.loop-place.counts.items c.loop-place.invariant (zeros_small c.args.occurrences c.args.places.now _ c.in_ok-counts.ensures c.requires.few)

pub loop-place-preserved : goal.loop-place-preserved
loop-place-preserved c =
    added_next _ c.args.places.now c.loop-place.place-index (At 0) c.loop-place.counts.items c.raise.new.counts.items c.loop-place-test.true
    (read_there _ c.args.places.now c.loop-place.place-index (At 0) c.loop-place-test.true
    (subst (λ k. ArePlacesOf k c.args.places.now) (sym (c.loop-place.invariant.len ∙ zeros_long c.args.occurrences _ c.in_ok-counts.ensures)) c.requires.inside))
    c.loop-place.invariant c.raise.ensures
