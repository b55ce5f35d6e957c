-- What is kept beside the values of a set, so that a term is found without a look at each value (own).
use Rattle.std.specs.Prelude.{ℕ, List, [], ◌∷◌, ◌++◌, Some, ◌≡◌, ◌↔◌, Any, Contains, IsSomeAnd, length, slice_get}
use Rattle.rdf_terms.specs.declared.terms.Term.{Term}
use Rattle.rdf_terms.specs.declared.terms.Term.TheVariants as Terms
use Rattle.value_sets.specs.declared.index.ValueIndex.{ValueIndex}
use Rattle.value_sets.specs.declared.index.ValuesByKind.{ValuesByKind}
use Rattle.value_sets.specs.declared.value.Value.{Value}
use Rattle.value_sets.specs.declared.value.Value.TheVariants as Values
use Rattle.value_sets.specs.Stems.{HasPrefix}
use Rattle.value_sets.specs.Values.{IsValue}

-- the value is no term, and no stem of IRIs or of lexical forms
abbrev pub IsOther : Value → Type 0
IsOther (Values.Term term) = ⊥
IsOther (Values.IriStem stem) = ⊥
IsOther (Values.LitStem stem) = ⊥
IsOther (Values.Lang tag) = Unit {0}
IsOther (Values.LangStem stem) = Unit {0}
IsOther (Values.IriRange stem exclusions) = Unit {0}
IsOther (Values.LitRange stem exclusions) = Unit {0}
IsOther (Values.LangRange stem exclusions) = Unit {0}

-- there is a value at the place, and it holds for the term
abbrev pub HoldsAt : List Value → Term → ℕ → Type 0
HoldsAt values term place = IsSomeAnd (slice_get values place) (λ value. IsValue value term)

-- the places hold all of the values that are neither terms nor such stems
abbrev pub HoldOthers : List Value → List ℕ → Type 0
HoldOthers values places = (place : ℕ) (value : Value) → slice_get values place ≡ Some value → IsOther value → Contains places place

-- the terms and the stems are those among the values, and the places hold all others
pub record IsByKind (values : List Value) (kinds : ValuesByKind) : Type 0 where
  pub terms : (term : Term) → Contains kinds.terms.keys term ↔ Contains values (Values.Term term)
  pub iri_stems : (stem : List ℕ) → Contains kinds.iri_stems.items stem ↔ Contains values (Values.IriStem stem)
  pub lit_stems : (stem : List ℕ) → Contains kinds.lit_stems.items stem ↔ Contains values (Values.LitStem stem)
  pub others : HoldOthers values kinds.others.items

-- what holds the values before the place holds then them and the value
abbrev pub TakesUp : ValuesByKind → ℕ → Value → ValuesByKind → Type 0
TakesUp old place value new =
    (values : List Value) → length values ≡ place → IsByKind values old → IsByKind (values ++ value ∷ []) new

-- the text begins with a stem that is among the values
abbrev pub BeginsWithOne : (List ℕ → Value) → List Value → List ℕ → Type 0
BeginsWithOne stem_value values text = (stem : List ℕ) × Contains values (stem_value stem) × HasPrefix stem text

-- the terms of the index are those among the values, its stems take what those among the values take, and its places hold all others
pub record IsIndexOf (values : List Value) (index : ValueIndex) : Type 0 where
  pub terms : (term : Term) → Contains index.terms.keys term ↔ Contains values (Values.Term term)
  pub iri_stems : (iri : List ℕ) → Any (λ stem. HasPrefix stem iri) index.iri_stems.stems.items ↔ BeginsWithOne Values.IriStem values iri
  pub lit_stems : (form : List ℕ) → Any (λ stem. HasPrefix stem form) index.lit_stems.stems.items ↔ BeginsWithOne Values.LitStem values form
  pub others : HoldOthers values index.others.items

-- the IRI or the lexical form of the term begins with a stem of the index for such
abbrev pub AreStemsFor : ValueIndex → Term → Type 0
AreStemsFor index (Terms.Iri iri) = Any (λ stem. HasPrefix stem iri) index.iri_stems.stems.items
AreStemsFor index (Terms.Lit literal) = Any (λ stem. HasPrefix stem literal.lex) index.lit_stems.stems.items
AreStemsFor index (Terms.Blank name) = ⊥
