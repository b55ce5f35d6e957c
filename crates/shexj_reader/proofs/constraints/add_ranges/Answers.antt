use Rattle.std.proofs.Common.{rules, ◌≡◌, Some}
use Rattle.std.specs.Prelude.{codes}
use Rattle.serde_json.specs.View.{view}
use Rattle.node_constraint.specs.declared.facet.Facet.TheVariants as Facets
use Rattle.shexj_reader.specs.Constraints.{bounded}
use Rattle.shexj_reader.proofs.FacetLists.{ranges_behind}
use Rattle.shexj_reader.proofs.constraints.add_ranges.Goals as goal

pub returns-clause-ok : goal.returns-clause-ok
returns-clause-ok c =
    let least : bounded Facets.MinInclusive (codes "mininclusive") (view c.args.value.now) ≡ Some c.map.result = search rules in
    let above : bounded Facets.MinExclusive (codes "minexclusive") (view c.args.value.now) ≡ Some c.map-2.result = search rules in
    let most : bounded Facets.MaxInclusive (codes "maxinclusive") (view c.args.value.now) ≡ Some c.map-3.result = search rules in
    let below : bounded Facets.MaxExclusive (codes "maxexclusive") (view c.args.value.now) ≡ Some c.map-4.result = search rules in
    ranges_behind _ _ _ _ _ _ c.map.result c.map-2.result c.map-3.result c.map-4.result least above most below c.in_ok-add.ensures.ok c.in_ok-add-2.ensures.ok c.in_ok-add-3.ensures.ok c.in_ok-add-4.ensures.ok
