-- What the rules of a value set and of a constraint make of their parts (ShEx 2.1, section 5.4).
use Rattle.std.specs.Prelude.{ℕ, List, [], ◌∷◌, Option, Some}
use Rattle.node_constraint.specs.Constraint.{Constraint}
use Rattle.node_constraint.specs.declared.Kind4.{Kind4}
use Rattle.node_constraint.specs.declared.facet.Facet.{Facet}
use Rattle.rdf_terms.specs.declared.terms.Term.{Term}
use Rattle.rdf_terms.specs.declared.terms.Term.TheVariants as terms
use Rattle.value_sets.specs.Values.{ValueList}
use Rattle.value_sets.specs.declared.value.Except.{Except}
use Rattle.value_sets.specs.declared.value.Value.{Value}

-- a constraint of a kind, of a datatype, of values or of facets alone
abbrev pub constraint : Option Kind4 → Option (List ℕ) → List Facet → Option ValueList → Constraint
constraint kind datatype facets values = record { kind = kind; datatype = datatype; facets = facets; values = values }

-- a stem without exclusions, and a range with some
abbrev pub stem_or_range : (List ℕ → Value) → (Option (List ℕ) → List Except → Value) → List ℕ → List Except → Value
stem_or_range stem range text [] = stem text
stem_or_range stem range text (x ∷ xs) = range (Some text) (x ∷ xs)

-- the lexical form of a literal; of another term none
abbrev pub form_of : Term → List ℕ
form_of (terms.Lit l) = l.lex
form_of (terms.Iri i) = []
form_of (terms.Blank n) = []
