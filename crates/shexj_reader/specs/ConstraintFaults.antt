-- What may be wrong with a JSON value in the place of a node constraint (ShEx 2.1, appendix A, and section 5.4).
use Rattle.std.specs.Prelude.{ℕ, true, List, [], ◌∷◌, ◌≡◌, ◌≢◌, Option, Some, None, codes, option_and_then}
use Rattle.std.specs.List.{list_any}
use Rattle.std.specs.Str.{bytes_eq}
use Rattle.xs_pattern.specs.declared.pattern_error.PatternError.{PatternError}
use Rattle.serde_json.specs.Data.{Data, Num}
use Rattle.serde_json.specs.Find.{as_integer, as_number, as_u64, get}
use Rattle.node_constraint.specs.Making.{HasFloatFacet, IsFirstRefusal, IsSound, patterns_in}
use Rattle.node_constraint.specs.declared.Kind4.{Kind4}
use Rattle.node_constraint.specs.declared.facet.Facet.{Facet}
use Rattle.shexj_reader.specs.Constraints.{facets_of, kind_word, small}
use Rattle.shexj_reader.specs.Faults.{Fault, IsBad, IsUnknownKey, PlainFault, facet_number, float_facet, form, pattern}
use Rattle.shexj_reader.specs.Keys.{text_if_any, word}
use Rattle.shexj_reader.specs.ValueFaults.{ValueSetFault}

-- the keys of facets with a whole number from 0 to 4,294,967,295, and of those with one from -2^63 to 2^64 - 1
abbrev pub count_keys : List (List ℕ)
count_keys = codes "length" ∷ codes "minlength" ∷ codes "maxlength" ∷ codes "totaldigits" ∷ codes "fractiondigits" ∷ []

abbrev pub range_keys : List (List ℕ)
range_keys = codes "mininclusive" ∷ codes "minexclusive" ∷ codes "maxinclusive" ∷ codes "maxexclusive" ∷ []

-- the number that is wanted under such a key
abbrev pub small_count : Num → Option ℕ
small_count n = option_and_then small (as_u64 n)

-- the value of one of these keys is no number
pub record IsNoNumber (keys : List (List ℕ)) (f : Fault) (d : Data) : Type 0 where
  pub name : List ℕ
  pub listed : list_any (bytes_eq name) keys ≡ true
  pub is : f ≡ form name
  pub value : Data
  pub there : get name d ≡ Some value
  pub wrong : as_number value ≡ None

-- the value of one of these keys is a number, and none of those that are wanted
pub record IsOtherNumber {A : Type 0} (keys : List (List ℕ)) (wanted : Num → Option A) (f : Fault) (d : Data) : Type 0 where
  pub name : List ℕ
  pub listed : list_any (bytes_eq name) keys ≡ true
  pub is : f ≡ facet_number
  pub value : Data
  pub there : get name d ≡ Some value
  pub number : Num
  pub has : as_number value ≡ Some number
  pub wrong : wanted number ≡ None

-- the value is no number, or another than those that are wanted
pub data NumberFault {A : Type 0} (keys : List (List ℕ)) (wanted : Num → Option A) (f : Fault) (d : Data) : Type 0 where
  no_number : IsNoNumber keys f d → NumberFault keys wanted f d
  other_number : IsOtherNumber keys wanted f d → NumberFault keys wanted f d

-- the word for a kind is none of the four
pub record IsNoKind (f : Fault) (d : Data) : Type 0 where
  pub is : f ≡ form (codes "nodeKind")
  pub there : get (codes "nodeKind") d ≢ None
  pub other : (kind : Kind4) → word (get (codes "nodeKind") d) ≢ Some (kind_word kind)

-- flags stand without a pattern
pub record IsAlone (f : Fault) (d : Data) : Type 0 where
  pub is : f ≡ form (codes "flags")
  pub there : get (codes "flags") d ≢ None
  pub no_pattern : get (codes "pattern") d ≡ None

-- a pattern or its flags are no texts, or flags stand alone
pub data PatternFault (f : Fault) (d : Data) : Type 0 where
  bad_pattern : IsBad (codes "pattern") text_if_any f d → PatternFault f d
  bad_flags : IsBad (codes "flags") text_if_any f d → PatternFault f d
  alone : IsAlone f d → PatternFault f d

-- what stands under a facet's key is not of its form
pub data FacetFault (f : Fault) (d : Data) : Type 0 where
  bad_count : NumberFault count_keys small_count f d → FacetFault f d
  bad_bound : NumberFault range_keys as_integer f d → FacetFault f d
  in_pattern : PatternFault f d → FacetFault f d

-- a facet on floating-point numbers, or a pattern that is refused
pub data PartsFault (datatype : Option (List ℕ)) (facets : List Facet) (f : Fault) : Type 0 where
  on_floats : f ≡ float_facet → HasFloatFacet datatype facets → PartsFault datatype facets f
  refused : (e : PatternError) → f ≡ pattern e → IsFirstRefusal e (patterns_in facets) → ¬ IsSound datatype facets → PartsFault datatype facets f

-- the datatype and the facets that the object has are refused together
pub record HasRefusedParts (f : Fault) (d : Data) : Type 0 where
  pub datatype : Option (List ℕ)
  pub has_datatype : text_if_any (get (codes "datatype") d) ≡ Some datatype
  pub facets : List Facet
  pub has_facets : facets_of d ≡ Some facets
  pub fault : PartsFault datatype facets f

-- another key than these, a value that is not of its form, or parts that are refused together
pub data ConstraintFault (keys : List (List ℕ)) (f : Fault) (d : Data) : Type 0 where
  unknown_key : IsUnknownKey keys f d → ConstraintFault keys f d
  bad_kind : IsNoKind f d → ConstraintFault keys f d
  bad_datatype : IsBad (codes "datatype") text_if_any f d → ConstraintFault keys f d
  bad_facet : FacetFault f d → ConstraintFault keys f d
  bad_values : ValueSetFault f (get (codes "values") d) → ConstraintFault keys f d
  not_plain : PlainFault f d → ConstraintFault keys f d
  bad_parts : HasRefusedParts f d → ConstraintFault keys f d
