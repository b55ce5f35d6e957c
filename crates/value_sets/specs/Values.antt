-- Which terms a value set holds for (ShEx 2.1, section 5.4, Values Constraint).
use Rattle.std.specs.Prelude.{ℕ, List, Option, Some, None, ◌≡◌, IfSome, IsSomeAnd, Any}
use Rattle.rdf_terms.specs.declared.terms.Term.{Term}
use Rattle.rdf_terms.specs.declared.terms.Term.TheVariants as Terms
use Rattle.value_sets.specs.declared.value.Except.{Except}
use Rattle.value_sets.specs.declared.value.Except.TheVariants.{Exact, Stem}
use Rattle.value_sets.specs.declared.value.Value.{Value}
use Rattle.value_sets.specs.declared.value.Value.TheVariants as Values
use Rattle.value_sets.specs.Stems.{HasPrefix, IsInLanguage}

-- the IRI, if the term is one
abbrev pub iri_of : Term → Option (List ℕ)
iri_of (Terms.Iri iri) = Some iri
iri_of (Terms.Blank name) = None
iri_of (Terms.Lit literal) = None

-- the lexical form, if the term is a literal
abbrev pub lexical_form_of : Term → Option (List ℕ)
lexical_form_of (Terms.Iri iri) = None
lexical_form_of (Terms.Blank name) = None
lexical_form_of (Terms.Lit literal) = Some literal.lex

-- the language tag, if the term is a literal with one
abbrev pub tag_of : Term → Option (List ℕ)
tag_of (Terms.Iri iri) = None
tag_of (Terms.Blank name) = None
tag_of (Terms.Lit literal) = literal.lang

-- the exclusion takes the text: it is the text, or its stem does
abbrev pub IsExcludedBy : (List ℕ → List ℕ → Type 0) → Except → List ℕ → Type 0
IsExcludedBy HasStem (Exact exact) text = text ≡ exact
IsExcludedBy HasStem (Stem stem) text = HasStem stem text

-- the text has the stem, if one is given, and no exclusion takes it
abbrev pub IsInRange : (List ℕ → List ℕ → Type 0) → Option (List ℕ) → List Except → List ℕ → Type 0
IsInRange HasStem stem exclusions text =
    IfSome stem (λ s. HasStem s text) × (¬ Any (λ e. IsExcludedBy HasStem e text) exclusions)

-- The value holds for the term: it is the term; or its IRI, lexical form or language tag has the stem, is the tag, or is in the range
abbrev pub IsValue : Value → Term → Type 0
IsValue (Values.Term value) term = term ≡ value
IsValue (Values.IriStem stem) term = IsSomeAnd (iri_of term) (HasPrefix stem)
IsValue (Values.LitStem stem) term = IsSomeAnd (lexical_form_of term) (HasPrefix stem)
IsValue (Values.Lang tag) term = tag_of term ≡ Some tag
IsValue (Values.LangStem stem) term = IsSomeAnd (tag_of term) (IsInLanguage stem)
IsValue (Values.IriRange stem exclusions) term = IsSomeAnd (iri_of term) (IsInRange HasPrefix stem exclusions)
IsValue (Values.LitRange stem exclusions) term = IsSomeAnd (lexical_form_of term) (IsInRange HasPrefix stem exclusions)
IsValue (Values.LangRange stem exclusions) term = IsSomeAnd (tag_of term) (IsInRange IsInLanguage stem exclusions)

-- what a value set is seen as
abbrev pub ValueList : Type 0
ValueList = List Value

-- some value of the set holds for the term
abbrev pub HasValue : List Value → Term → Type 0
HasValue values term = Any (λ value. IsValue value term) values
