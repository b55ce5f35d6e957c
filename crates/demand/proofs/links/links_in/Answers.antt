use Rattle.std.proofs.Common.{◌+◌, sym, subst, take}
use Rattle.std.specs.List.{AllZip}
use Rattle.demand.specs.Links.{AreLinksOf, IsLink}
use Rattle.lists.proofs.Beside.{zip_more}
use Rattle.demand.proofs.links.links_in.Goals as goal

pub loop-shape-preserved : goal.loop-shape-preserved
loop-shape-preserved c =
    subst (AllZip (AreLinksOf c.args.schema.now) (take (c.loop-shape.shape-index + 1) c.args.shapes.now)) (sym c.in_ok-push.ensures.items)
    (zip_more (AreLinksOf c.args.schema.now) c.args.shapes.now c.loop-shape.all.items c.loop-shape.shape-index c.shape-item.result _ c.loop-shape-test.true c.shape-item.is c.loop-shape.invariant
    (subst (λ xs. AllZip (IsLink c.args.schema.now) xs c.in_ok-links_of.field-0) c.as_slice.ensures c.in_ok-links_of.ensures))
