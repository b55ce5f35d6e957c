-- A node constraint and what its parts ask for.
use Rattle.std.proofs.Common.{◌≡◌, List, ℕ, Option, Some, codes, subst, sym, true}
use Rattle.std.specs.Prelude.{Err, IfOk, Ok, OnOk, None, Result}
use Rattle.serde_json.specs.Data.{Data}
use Rattle.serde_json.specs.Find.{get}
use Rattle.node_constraint.specs.Constraint.{Constraint}
use Rattle.node_constraint.specs.Making.{IsSound}
use Rattle.node_constraint.specs.declared.Kind4.{Kind4}
use Rattle.node_constraint.specs.declared.facet.Facet.{Facet}
use Rattle.schema_documents.specs.declared.error.SchemaError.{SchemaError}
use Rattle.shexj_reader.specs.Constraints.{HasRestrictions, IsKindWord, facets_of}
use Rattle.shexj_reader.specs.Keys.{has_only, text_if_any, type_of}

-- the constraint that is made of what the object asks for has what it asks for
pub restrictions_made : (keys : List (List ℕ)) (d : Data) (r : Result Constraint SchemaError) (kind : Option Kind4) (datatype : Option (List ℕ)) (facets : List Facet) → type_of d ≡
    Some (codes "NodeConstraint") → has_only keys d ≡ true → IsKindWord kind (get (codes "nodeKind") d) →
    text_if_any (get (codes "datatype") d) ≡ Some datatype → facets_of d ≡ Some facets →
    IfOk r (λ c. c ≡ record { kind = kind; datatype = datatype; facets = facets; values = None }) → OnOk r (IsSound datatype facets) → IfOk r (λ c. HasRestrictions keys c d)
restrictions_made keys d (Ok c) kind datatype facets type only has_kind has_datatype has_facets is sound =
    subst (λ (c : Constraint). HasRestrictions keys c d) (sym is)
    (record { object = record { only = only; type = type }; kind = has_kind; datatype = has_datatype; facets = has_facets; sound = sound })
restrictions_made keys d (Err e) kind datatype facets type only has_kind has_datatype has_facets is sound = tt
