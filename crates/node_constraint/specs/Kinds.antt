-- Node kind constraints (ShEx 2.1, section 5.4, Node Kind Constraints).
use Rattle.std.specs.Prelude.{⊤, Option, Some, None}
use Rattle.rdf_terms.specs.declared.terms.Term.{Term}
use Rattle.rdf_terms.specs.declared.terms.Term.TheVariants as Terms
use Rattle.node_constraint.specs.declared.Kind4.{Kind4}
use Rattle.node_constraint.specs.declared.Kind4.TheVariants as Kinds

-- the term is of the kind
abbrev pub IsOfKind : Kind4 → Term → Type 0
IsOfKind Kinds.Iri (Terms.Iri iri) = ⊤
IsOfKind Kinds.Bnode (Terms.Blank name) = ⊤
IsOfKind Kinds.Literal (Terms.Lit literal) = ⊤
IsOfKind Kinds.NonLiteral (Terms.Iri iri) = ⊤
IsOfKind Kinds.NonLiteral (Terms.Blank name) = ⊤
IsOfKind kind term = ⊥

-- the term is of the kind, if one is asked for
abbrev pub IsOfKindIfAny : Option Kind4 → Term → Type 0
IsOfKindIfAny None term = ⊤
IsOfKindIfAny (Some kind) term = IsOfKind kind term
