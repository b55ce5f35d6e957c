-- What may be wrong with a JSON value in the place of a value set (ShEx 2.1, appendix A).
use Rattle.std.specs.Prelude.{ℕ, false, true, List, [], ◌∷◌, ◌≡◌, ◌≢◌, Option, Some, None, codes}
use Rattle.rdf_terms.specs.Vocabulary.{rdf_lang_string}
use Rattle.serde_json.specs.Data.{Data, array, Items}
use Rattle.serde_json.specs.Find.{as_array, get, get_item}
use Rattle.shexj_reader.specs.Faults.{Fault, IsBad, IsUnknownKey, form}
use Rattle.shexj_reader.specs.Keys.{is_empty_list, is_object, text, text_if_any, type_of, word}
use Rattle.shexj_reader.specs.Values.{IsOfLiteral, range_type, stem_type}
use Rattle.shexj_reader.specs.declared.stems.StemKind.{StemKind}

-- a stem has another key, or its text is missing
pub data StemFault (f : Fault) (d : Data) : Type 0 where
  unknown_key : IsUnknownKey (codes "stem" ∷ codes "type" ∷ []) f d → StemFault f d
  bad_stem : IsBad (codes "stem") text f d → StemFault f d

-- a language has another key, or its tag is missing
pub data LanguageFault (f : Fault) (d : Data) : Type 0 where
  unknown_key : IsUnknownKey (codes "languageTag" ∷ codes "type" ∷ []) f d → LanguageFault f d
  bad_tag : IsBad (codes "languageTag") text f d → LanguageFault f d

-- a tag stands beside a type that is not rdf:langString, or that type stands without a tag
abbrev pub AreApart : Option (List ℕ) → Option (List ℕ) → Type 0
AreApart None tag = ⊥
AreApart (Some type) None = type ≡ rdf_lang_string
AreApart (Some type) (Some tag) = type ≢ rdf_lang_string

-- a literal has another key, its lexical form is missing, its type or tag is no text, or the two are apart
pub data LiteralFault (f : Fault) (d : Data) : Type 0 where
  bad_type : IsBad (codes "type") text_if_any f d → LiteralFault f d
  unknown_key : IsUnknownKey (codes "language" ∷ codes "type" ∷ codes "value" ∷ []) f d → LiteralFault f d
  bad_value : IsBad (codes "value") text f d → LiteralFault f d
  bad_language : IsBad (codes "language") text_if_any f d → LiteralFault f d
  mistyped : (type tag : Option (List ℕ)) → f ≡ form (codes "type") → text_if_any (get (codes "type") d) ≡ Some type →
      text_if_any (get (codes "language") d) ≡ Some tag → AreApart type tag → LiteralFault f d

-- the stem of a range is missing, is neither a text nor an object, is an object that is not the wildcard, or the wildcard has another key
pub data RangeStemFault (f : Fault) (o : Option Data) : Type 0 where
  missing : f ≡ form (codes "stem") → o ≡ None → RangeStemFault f o
  no_stem : (d : Data) → f ≡ form (codes "stem") → o ≡ Some d → word o ≡ None → is_object d ≡ false → RangeStemFault f o
  no_wildcard : (d : Data) → f ≡ form (codes "type") → o ≡ Some d → is_object d ≡ true → type_of d ≢ Some (codes "Wildcard") → RangeStemFault f o
  unknown_key : (d : Data) → o ≡ Some d → type_of d ≡ Some (codes "Wildcard") → IsUnknownKey (codes "type" ∷ []) f d → RangeStemFault f o

-- an exclusion is neither a text nor an object, is an object of another type, or is a stem at fault
pub data ExclusionFault (kind : StemKind) (f : Fault) (d : Data) : Type 0 where
  no_exclusion : f ≡ form (codes "exclusions") → word (Some d) ≡ None → is_object d ≡ false → ExclusionFault kind f d
  other_type : f ≡ form (codes "type") → is_object d ≡ true → type_of d ≢ Some (stem_type kind) → ExclusionFault kind f d
  bad_stem : type_of d ≡ Some (stem_type kind) → StemFault f d → ExclusionFault kind f d

-- a list of exclusions is no list, or an item of it is at fault
pub data ExclusionsFault (kind : StemKind) (f : Fault) (o : Option Data) : Type 0 where
  no_list : (d : Data) → f ≡ form (codes "exclusions") → o ≡ Some d → as_array d ≡ None → ExclusionsFault kind f o
  bad_item : (ds : Items) (k : ℕ) (v : Data) → o ≡ Some (array ds) → get_item k ds ≡ Some v → ExclusionFault kind f v → ExclusionsFault kind f o

-- a range has another key, its stem or its exclusions are at fault, or it is a wildcard without exclusions
pub data RangeFault (kind : StemKind) (f : Fault) (d : Data) : Type 0 where
  unknown_key : IsUnknownKey (codes "exclusions" ∷ codes "stem" ∷ codes "type" ∷ []) f d → RangeFault kind f d
  bad_stem : RangeStemFault f (get (codes "stem") d) → RangeFault kind f d
  bad_exclusions : ExclusionsFault kind f (get (codes "exclusions") d) → RangeFault kind f d
  unlimited : (w : Data) → f ≡ form (codes "exclusions") → get (codes "stem") d ≡ Some w → type_of w ≡ Some (codes "Wildcard") → is_empty_list (get (codes "exclusions") d) ≡ true → RangeFault kind f d

-- a value is neither a text nor an object, is a wildcard, or is an object that is at fault by its type
pub data ValueFault (f : Fault) (d : Data) : Type 0 where
  no_value : f ≡ form (codes "values") → word (Some d) ≡ None → is_object d ≡ false → ValueFault f d
  wildcard : f ≡ form (codes "type") → type_of d ≡ Some (codes "Wildcard") → ValueFault f d
  in_literal : is_object d ≡ true → IsOfLiteral (type_of d) → LiteralFault f d → ValueFault f d
  in_stem : (kind : StemKind) → type_of d ≡ Some (stem_type kind) → StemFault f d → ValueFault f d
  in_language : type_of d ≡ Some (codes "Language") → LanguageFault f d → ValueFault f d
  in_range : (kind : StemKind) → type_of d ≡ Some (range_type kind) → RangeFault kind f d → ValueFault f d

-- what stands under `values` is no list, or a value of it is at fault
pub data ValueSetFault (f : Fault) (o : Option Data) : Type 0 where
  no_list : (d : Data) → f ≡ form (codes "values") → o ≡ Some d → as_array d ≡ None → ValueSetFault f o
  bad_item : (ds : Items) (k : ℕ) (v : Data) → o ≡ Some (array ds) → get_item k ds ≡ Some v → ValueFault f v → ValueSetFault f o
