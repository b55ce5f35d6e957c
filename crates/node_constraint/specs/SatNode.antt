-- When a term satisfies a node constraint (ShEx 2.1, section 5.4).
use Rattle.std.specs.Prelude.{Option, Some, None, ⊤}
use Rattle.std.specs.List.{AllByRecursion}
use Rattle.rdf_terms.specs.declared.terms.Term.{Term}
use Rattle.value_sets.specs.Values.{HasValue, ValueList}
use Rattle.node_constraint.specs.Constraint.{Constraint}
use Rattle.node_constraint.specs.Datatypes.{IsOfDatatypeIfAny, decimal_of}
use Rattle.node_constraint.specs.Facets.{SatFacet, text_of}
use Rattle.node_constraint.specs.Kinds.{IsOfKindIfAny}

-- the value set holds for the term, if there is one
abbrev pub HasValueIfAny : Option ValueList → Term → Type 0
HasValueIfAny None term = ⊤
HasValueIfAny (Some values) term = HasValue values term

-- the term satisfies the constraint: kind, datatype, each facet and the value set hold for it
pub record SatNode (c : Constraint) (term : Term) : Type 0 where
  pub kind : IsOfKindIfAny c.kind term
  pub datatype : IsOfDatatypeIfAny c.datatype term
  pub facets : AllByRecursion (λ facet. SatFacet facet (text_of term) (decimal_of term)) c.facets
  pub values : HasValueIfAny c.values term
