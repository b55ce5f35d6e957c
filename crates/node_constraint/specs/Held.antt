-- What a constraint keeps of its facets, and what the functions inside promise one another.
use Rattle.std.specs.Prelude.{ℕ, nat_lt, Bool, true, IsTrue, ◌≡◌, ◌≤◌, ◌⊎◌, ⊤, IsSomeAnd, List, length, take, slice_get, [], ◌∷◌, Option, Some, None, Result, Ok, Err, encode_utf8_all}
use Rattle.std.specs.List.{AllByRecursion, list_all, list_any}
use Rattle.std.specs.Str.{bytes_eq}
use Rattle.xs_pattern.specs.declared.pattern.Pattern.{Pattern}
use Rattle.xs_pattern.specs.declared.pattern_error.PatternError.{PatternError}
use Rattle.xs_pattern.specs.declared.pattern_error.PatternError.TheVariants as Refusals
use Rattle.xs_pattern.specs.Flagged.{AreFlags, SpellsUnder, flags_named}
use Rattle.xs_pattern.specs.Language.{IsFound}
use Rattle.xs_pattern.specs.Limits.{IsLarge}
use Rattle.xs_pattern.specs.Patterns.{flags_of, regex}
use Rattle.xs_text.specs.Datatype.{numeric_names}
use Rattle.xs_text.specs.Decimal.{IsBelow, fraction_digit_count, is_decimal, total_digit_count}
use Rattle.node_constraint.specs.declared.facet.Facet.{Facet}
use Rattle.node_constraint.specs.declared.facet.Facet.TheVariants as Facets
use Rattle.node_constraint.specs.declared.make_error.MakeError.{MakeError}
use Rattle.node_constraint.specs.declared.make_error.MakeError.TheVariants as Errors
use Rattle.node_constraint.specs.Constraint.{Constraint}
use Rattle.node_constraint.specs.Datatypes.{IsOfDatatypeIfAny}
use Rattle.node_constraint.specs.Kinds.{IsOfKindIfAny}
use Rattle.node_constraint.specs.SatNode.{HasValueIfAny}
use Rattle.rdf_terms.specs.declared.terms.Term.{Term}
use Rattle.node_constraint.specs.Facets.{IsAtMost, SatFacet}
use Rattle.node_constraint.specs.Making.{HasFloatFacet, HasOtherNumber, IsFirstRefusal, IsNumeric, IsRefused, IsSound, PatternText, is_double, patterns_in, range_value}

-- the pattern is the one that the text spells
pub record IsReadFrom (t : PatternText) (p : Pattern) : Type 0 where
  pub known : AreFlags t.flags
  pub spelled : SpellsUnder t.flags (regex p) t.pattern
  pub flags : flags_of p ≡ flags_named t.flags
  pub small : ¬ IsLarge (regex p)

-- each pattern is read from its text
abbrev pub AreReadFrom : List PatternText → List Pattern → Type 0
AreReadFrom [] [] = ⊤
AreReadFrom [] (p ∷ ps) = ⊥
AreReadFrom (t ∷ ts) [] = ⊥
AreReadFrom (t ∷ ts) (p ∷ ps) = IsReadFrom t p × AreReadFrom ts ps

-- the value, if there is one, is a decimal
abbrev pub is_decimal_if_any : Option (List ℕ) → Bool
is_decimal_if_any None = true
is_decimal_if_any (Some value) = is_decimal (encode_utf8_all value)

-- a range value is a decimal, and all are
abbrev pub is_comparable : Facet → Bool
is_comparable facet = is_decimal_if_any (range_value facet)

abbrev pub are_comparable : List Facet → Bool
are_comparable facets = list_all is_comparable facets

-- a range value has the form of a floating-point number, or a facet on numbers stands beside such a datatype
unfoldable pub IsOnFloats : Bool → Facet → Type 0
IsOnFloats is_beside_float facet =
    IsSomeAnd (range_value facet) (λ value. IsTrue (is_double value)) ⊎ (IsTrue is_beside_float × IsNumeric facet)

-- the facet holds, where patterns are left aside
abbrev pub SatPlain : Facet → List ℕ → Option (List ℕ) → Type 0
SatPlain (Facets.Pattern pattern flags) text decimal = ⊤
SatPlain facet text decimal = SatFacet facet text decimal

-- what a facet on lengths asks of the text, and one on numbers of the decimal text; of others nothing
abbrev pub SatLength : Facet → List ℕ → Type 0
SatLength (Facets.Length n) text = length text ≡ n
SatLength (Facets.MinLength n) text = n ≤ length text
SatLength (Facets.MaxLength n) text = length text ≤ n
SatLength facet text = ⊤

abbrev pub SatNumber : Facet → List ℕ → Type 0
SatNumber (Facets.MinInclusive bound) d = IsAtMost (encode_utf8_all bound) d
SatNumber (Facets.MinExclusive bound) d = IsBelow (encode_utf8_all bound) d
SatNumber (Facets.MaxInclusive bound) d = IsAtMost d (encode_utf8_all bound)
SatNumber (Facets.MaxExclusive bound) d = IsBelow d (encode_utf8_all bound)
SatNumber (Facets.TotalDigits n) d = total_digit_count d ≤ n
SatNumber (Facets.FractionDigits n) d = fraction_digit_count d ≤ n
SatNumber facet d = ⊤

-- the pattern is found in the text
abbrev pub IsFoundIn : List ℕ → Pattern → Type 0
IsFoundIn text p = IsFound (flags_of p) text (regex p)

-- the error of a pattern that is not read
abbrev pub error_of : PatternError → MakeError
error_of Refusals.Flag = Errors.Pattern Refusals.Flag
error_of Refusals.Syntax = Errors.Pattern Refusals.Syntax
error_of Refusals.Large = Errors.Pattern Refusals.Large
error_of Refusals.Memory = Errors.Memory

-- what reading one pattern comes to
abbrev pub Reads : PatternText → Result Pattern MakeError → Type 0
Reads t (Ok p) = IsReadFrom t p
Reads t (Err Errors.FloatFacet) = ⊥
Reads t (Err Errors.FacetNumber) = ⊥
Reads t (Err (Errors.Pattern e)) = IsRefused e t
Reads t (Err Errors.Memory) = ⊤

-- why the patterns of facets are not read
abbrev pub StopsAt : List PatternText → MakeError → Type 0
StopsAt ts Errors.FloatFacet = ⊥
StopsAt ts Errors.FacetNumber = ⊥
StopsAt ts (Errors.Pattern e) = IsFirstRefusal e ts
StopsAt ts Errors.Memory = ⊤

-- each byte is below 128
abbrev pub is_ascii : List ℕ → Bool
is_ascii text = list_all (λ x. nat_lt x 128) text

-- the name of a datatype in the namespace
abbrev pub is_numeric_name : List ℕ → Bool
is_numeric_name name = list_any (bytes_eq name) numeric_names

-- the checks of numbers let the facets pass, or refuse them
abbrev pub ArePassed : Option (List ℕ) → List Facet → Type 0
ArePassed datatype facets = (¬ HasFloatFacet datatype facets) × IsTrue (are_comparable facets)

abbrev pub AreMisnumbered : Option (List ℕ) → List Facet → MakeError → Type 0
AreMisnumbered datatype facets Errors.FloatFacet = HasFloatFacet datatype facets
AreMisnumbered datatype facets Errors.FacetNumber = (¬ HasFloatFacet datatype facets) × HasOtherNumber facets
AreMisnumbered datatype facets (Errors.Pattern e) = ⊥
AreMisnumbered datatype facets Errors.Memory = ⊥

-- nothing is refused, and these are the patterns
pub record IsTaken (datatype : Option (List ℕ)) (facets : List Facet) (patterns : List Pattern) : Type 0 where
  pub sound : IsSound datatype facets
  pub comparable : IsTrue (are_comparable facets)
  pub read : AreReadFrom (patterns_in facets) patterns

-- kind, datatype and value set hold for the term
abbrev pub Fits : Constraint → Term → Type 0
Fits c term = IsOfKindIfAny c.kind term × (IsOfDatatypeIfAny c.datatype term × HasValueIfAny c.values term)

-- the place of the first item that does not have the property, if there is one
abbrev pub IsFirstWithout : {X : Type 0} → (X → Type 0) → List X → Option ℕ → Type 0
IsFirstWithout P xs None = AllByRecursion P xs
IsFirstWithout {X} P xs (Some place) = AllByRecursion P (take place xs) × ((x : X) × (slice_get xs place ≡ Some x) × (¬ P x))
