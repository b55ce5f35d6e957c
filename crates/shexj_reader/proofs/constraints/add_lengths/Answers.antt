use Rattle.std.proofs.Common.{rules, ◌≡◌, Some}
use Rattle.std.specs.Prelude.{codes}
use Rattle.serde_json.specs.View.{view}
use Rattle.node_constraint.specs.declared.facet.Facet.TheVariants as Facets
use Rattle.shexj_reader.specs.Constraints.{counted}
use Rattle.shexj_reader.proofs.FacetLists.{lengths_behind}
use Rattle.shexj_reader.proofs.constraints.add_lengths.Goals as goal

pub returns-clause-ok : goal.returns-clause-ok
returns-clause-ok c =
    let length : counted Facets.Length (codes "length") (view c.args.value.now) ≡ Some c.map.result = search rules in
    let least : counted Facets.MinLength (codes "minlength") (view c.args.value.now) ≡ Some c.map-2.result = search rules in
    let most : counted Facets.MaxLength (codes "maxlength") (view c.args.value.now) ≡ Some c.map-3.result = search rules in
    lengths_behind _ _ _ _ _ c.map.result c.map-2.result c.map-3.result length least most c.in_ok-add.ensures.ok c.in_ok-add-2.ensures.ok c.in_ok-add-3.ensures.ok
