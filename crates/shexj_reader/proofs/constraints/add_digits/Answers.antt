use Rattle.std.proofs.Common.{rules, ◌≡◌, Some}
use Rattle.std.specs.Prelude.{codes}
use Rattle.serde_json.specs.View.{view}
use Rattle.node_constraint.specs.declared.facet.Facet.TheVariants as Facets
use Rattle.shexj_reader.specs.Constraints.{counted}
use Rattle.shexj_reader.proofs.FacetLists.{digits_behind}
use Rattle.shexj_reader.proofs.constraints.add_digits.Goals as goal

pub returns-clause-ok : goal.returns-clause-ok
returns-clause-ok c =
    let digits : counted Facets.TotalDigits (codes "totaldigits") (view c.args.value.now) ≡ Some c.map.result = search rules in
    let fraction : counted Facets.FractionDigits (codes "fractiondigits") (view c.args.value.now) ≡ Some c.map-2.result = search rules in
    digits_behind _ _ _ _ c.map.result c.map-2.result digits fraction c.in_ok-add.ensures.ok c.in_ok-add-2.ensures.ok
