-- Which facets may stand in a place: those on texts, those on numbers, or all (ShEx 2.1, section 6).
use Rattle.std.specs.Prelude.{ℕ, Bool, List, Option}
use Rattle.node_constraint.specs.declared.facet.Facet.{Facet}
use Rattle.rdf_cursor.specs.declared.symbols.Symbol.{Symbol}
use Rattle.shexc_constraints.specs.declared.facets.FacetKind.{FacetKind}
use Rattle.shexc_constraints.specs.declared.facets.FacetKind.TheVariants as kind
use Rattle.shexc_constraints.specs.Reading.{text_facet, number_facet, facet}
use Rattle.shexc_constraints.specs.Stops.{R}
use Rattle.shexc_constraints.specs.Symbols.{text_facets, number_facets, all_facets}

-- what they begin with
abbrev pub firsts : FacetKind → List Symbol
firsts kind.Text = text_facets
firsts kind.Number = number_facets
firsts kind.Any = all_facets

-- the reader of one that goes behind others
abbrev pub facet_of : Bool → Option (List ℕ) → FacetKind → List Facet → R (List Facet)
facet_of bounded datatype kind.Text = text_facet bounded datatype
facet_of bounded datatype kind.Number = number_facet bounded datatype
facet_of bounded datatype kind.Any = facet bounded datatype
