-- Which node constraints are made, and why others are refused.
use Rattle.std.specs.Prelude.{ℕ, Bool, ◌||◌, ◌≡◌, ◌⊎◌, ⊤, IsTrue, Any, List, [], ◌∷◌, Option, Some, None, IsSomeAnd, encode_utf8_all}
use Rattle.std.specs.List.{AllByRecursion, flat_map}
use Rattle.xs_pattern.specs.declared.pattern_error.PatternError.{PatternError}
use Rattle.xs_pattern.specs.declared.pattern_error.PatternError.TheVariants as Refusals
use Rattle.xs_pattern.specs.Flagged.{AreFlags, IsSpelledUnder, SpellsUnder}
use Rattle.xs_pattern.specs.Limits.{IsLarge}
use Rattle.xs_pattern.specs.Regex.{Regex}
use Rattle.xs_text.specs.Datatype.{is_scientific}
use Rattle.xs_text.specs.Decimal.{is_decimal}
use Rattle.node_constraint.specs.declared.facet.Facet.{Facet}
use Rattle.node_constraint.specs.declared.facet.Facet.TheVariants as Facets
use Rattle.node_constraint.specs.declared.make_error.MakeError.{MakeError}
use Rattle.node_constraint.specs.declared.make_error.MakeError.TheVariants as Errors
use Rattle.rdf_terms.specs.Vocabulary.{xsd_double, xsd_float}

-- the value of a range facet
abbrev pub range_value : Facet → Option (List ℕ)
range_value (Facets.MinInclusive value) = Some value
range_value (Facets.MinExclusive value) = Some value
range_value (Facets.MaxInclusive value) = Some value
range_value (Facets.MaxExclusive value) = Some value
range_value facet = None

-- a range facet, or one on digits
abbrev pub IsNumeric : Facet → Type 0
IsNumeric (Facets.Length n) = ⊥
IsNumeric (Facets.MinLength n) = ⊥
IsNumeric (Facets.MaxLength n) = ⊥
IsNumeric (Facets.Pattern pattern flags) = ⊥
IsNumeric facet = ⊤

-- a decimal, `e` or `E`, and an integer
abbrev pub has_exponent : List ℕ → Bool
has_exponent text = is_scientific 101 text || is_scientific 69 text

-- the form of a floating-point number (RDF 1.1 Turtle, section 6.5, DOUBLE)
abbrev pub is_double : List ℕ → Bool
is_double text = has_exponent (encode_utf8_all text)

-- the form of a decimal (XML Schema Part 2, version 1.1, section 3.3.3)
abbrev pub IsDecimal : List ℕ → Type 0
IsDecimal text = IsTrue (is_decimal (encode_utf8_all text))

-- the datatype is xsd:float or xsd:double
abbrev pub IsFloat : Option (List ℕ) → Type 0
IsFloat datatype = IsSomeAnd datatype (λ iri. (iri ≡ xsd_float) ⊎ (iri ≡ xsd_double))

-- a range value has the form of a floating-point number, or a facet on numbers stands beside such a datatype
abbrev pub IsFloatFacet : Option (List ℕ) → Facet → Type 0
IsFloatFacet datatype facet =
    IsSomeAnd (range_value facet) (λ value. IsTrue (is_double value)) ⊎ (IsFloat datatype × IsNumeric facet)

-- some facet is so
abbrev pub HasFloatFacet : Option (List ℕ) → List Facet → Type 0
HasFloatFacet datatype facets = Any (IsFloatFacet datatype) facets

-- some range value is no decimal
abbrev pub HasOtherNumber : List Facet → Type 0
HasOtherNumber facets = Any (λ facet. IsSomeAnd (range_value facet) (λ value. ¬ IsDecimal value)) facets

-- a pattern with its flags
pub record PatternText : Type 0 where
  pub pattern : List ℕ
  pub flags : List ℕ

-- the pattern of a facet, if it has one
abbrev pub pattern_in : Facet → List PatternText
pattern_in (Facets.Pattern pattern flags) = record { pattern = pattern; flags = flags } ∷ []
pattern_in facet = []

-- the patterns of all facets, in order
abbrev pub patterns_in : List Facet → List PatternText
patterns_in facets = flat_map pattern_in facets

-- a pattern is spelled under known flags, and is within the limits
abbrev pub IsReadable : PatternText → Type 0
IsReadable p = AreFlags p.flags × ((e : Regex) × SpellsUnder p.flags e p.pattern × (¬ IsLarge e))

-- why a pattern is not read: an unknown flag, a text that spells none, one beyond the limits
abbrev pub IsRefused : PatternError → PatternText → Type 0
IsRefused Refusals.Flag p = ¬ AreFlags p.flags
IsRefused Refusals.Syntax p = AreFlags p.flags × (¬ IsSpelledUnder p.flags p.pattern)
IsRefused Refusals.Large p = AreFlags p.flags × ((e : Regex) × SpellsUnder p.flags e p.pattern × IsLarge e)
IsRefused Refusals.Memory p = ⊥

-- the first pattern that is not read is refused so
abbrev pub IsFirstRefusal : PatternError → List PatternText → Type 0
IsFirstRefusal e [] = ⊥
IsFirstRefusal e (p ∷ ps) = IsRefused e p ⊎ (IsReadable p × IsFirstRefusal e ps)

-- nothing is refused
pub record IsSound (datatype : Option (List ℕ)) (facets : List Facet) : Type 0 where
  pub no_float : ¬ HasFloatFacet datatype facets
  pub decimal : ¬ HasOtherNumber facets
  pub readable : AllByRecursion IsReadable (patterns_in facets)

-- what stands in the arguments where the error is answered, and that no error before it would be
abbrev pub Causes : Option (List ℕ) → List Facet → MakeError → Type 0
Causes datatype facets Errors.FloatFacet = HasFloatFacet datatype facets
Causes datatype facets Errors.FacetNumber = (¬ HasFloatFacet datatype facets) × HasOtherNumber facets
Causes datatype facets (Errors.Pattern e) =
    (¬ HasFloatFacet datatype facets) × ((¬ HasOtherNumber facets) × IsFirstRefusal e (patterns_in facets))
Causes datatype facets Errors.Memory = (¬ HasFloatFacet datatype facets) × (¬ HasOtherNumber facets)
