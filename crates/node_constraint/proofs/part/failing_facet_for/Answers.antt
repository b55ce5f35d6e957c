use Rattle.std.proofs.Common.{◌+◌, drop}
use Rattle.std.specs.Option.{option_copied}
use Rattle.std.specs.Str.{chars}
use Rattle.node_constraint.specs.Facets.{SatFacet}
use Rattle.node_constraint.specs.declared.facet.Facet.{Facet}
use Rattle.node_constraint.proofs.Failing.{ends_tried, unread_here}
use Rattle.node_constraint.proofs.part.failing_facet_for.Goals as goal

pub returns-in-None : goal.returns-in-None
returns-in-None c =
    let P : Facet → Type 0 = λ f. SatFacet f (chars c.args.text.now) (option_copied c.args.decimal) in
    ends_tried P c.args.facets.now c.loop-place.place c.index-facets-place.result c.loop-place-test.true c.index-facets-place.is _ c.loop-place.unread.now c.in_ok-rest.field-0 c.loop-place.invariant c.in-None.is
    (c.in_ok-rest.ensures (drop (c.loop-place.place + 1) c.args.facets.now)
    (unread_here P c.args.facets.now c.loop-place.place c.index-facets-place.result c.loop-place-test.true c.index-facets-place.is c.loop-place.unread.now c.loop-place.invariant))
