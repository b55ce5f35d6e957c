use Rattle.std.proofs.Common.{◌+◌, refl, false, sym, subst, take}
use Rattle.std.specs.Prelude.{None}
use Rattle.std.specs.List.{AllZip}
use Rattle.demand.specs.Links.{IsLink}
use Rattle.demand.proofs.Listed.{zip_next}
use Rattle.demand.proofs.links.links_of.Goals as goal

pub loop-occ-preserved : goal.loop-occ-preserved
loop-occ-preserved c =
    subst (AllZip (IsLink c.args.schema.now) (take (c.loop-occ.occ-index + 1) c.args.occs.now)) (sym c.in_ok-push.ensures.items)
    (zip_next (IsLink c.args.schema.now) c.args.occs.now c.loop-occ.links.items c.loop-occ.occ-index (record { inverse = false; predicate = record { 0 = 0 }; value = None }) _ c.loop-occ-test.true c.loop-occ.invariant
    (record { occ = refl; shapes = c.in_ok-shapes.ensures }))
