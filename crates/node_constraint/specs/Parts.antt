-- The parts of a node constraint, and which of them a term fails (ShEx 2.1, section 5.4).
use Rattle.std.specs.Prelude.{◌≡◌, take, slice_get, Some, None}
use Rattle.rdf_terms.specs.declared.terms.Term.{Term}
use Rattle.node_constraint.specs.declared.facet.Facet.{Facet}
use Rattle.node_constraint.specs.declared.part.ConstraintPart.{ConstraintPart}
use Rattle.node_constraint.specs.declared.part.ConstraintPart.TheVariants as Parts
use Rattle.node_constraint.specs.Constraint.{Constraint, of_kind}
use Rattle.node_constraint.specs.Datatypes.{IsOfDatatypeIfAny, decimal_of}
use Rattle.node_constraint.specs.Facets.{SatFacet, text_of}
use Rattle.node_constraint.specs.Kinds.{IsOfKindIfAny}
use Rattle.node_constraint.specs.SatNode.{HasValueIfAny, SatNode}

-- the facet holds for the term
abbrev pub HasFacet : Term → Facet → Type 0
HasFacet term facet = SatFacet facet (text_of term) (decimal_of term)

-- the part does not hold for the term
abbrev pub FailsPart : Constraint → Term → ConstraintPart → Type 0
FailsPart c term Parts.Kind = ¬ IsOfKindIfAny c.kind term
FailsPart c term Parts.Datatype = ¬ IsOfDatatypeIfAny c.datatype term
FailsPart c term (Parts.Facet place) = (facet : Facet) × (slice_get c.facets place ≡ Some facet) × (¬ HasFacet term facet)
FailsPart c term Parts.Values = ¬ HasValueIfAny c.values term

-- the constraint that asks for what stands before the part, in the order kind, datatype, facets, value set
abbrev pub parts_before : ConstraintPart → Constraint → Constraint
parts_before Parts.Kind c = of_kind None
parts_before Parts.Datatype c = of_kind c.kind
parts_before (Parts.Facet place) c = record { kind = c.kind; datatype = c.datatype; facets = take place c.facets; values = None }
parts_before Parts.Values c = record { kind = c.kind; datatype = c.datatype; facets = c.facets; values = None }

-- it is the first part that does not hold for the term
abbrev pub IsFirstFailedPart : Constraint → Term → ConstraintPart → Type 0
IsFirstFailedPart c term part = SatNode (parts_before part c) term × FailsPart c term part
