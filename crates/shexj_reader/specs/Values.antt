-- Which JSON values stand for the values of a value set (ShEx 2.1, appendix A, and section 5.4, Values Constraint).
use Rattle.std.specs.Prelude.{ℕ, List, [], ◌∷◌, ◌≡◌, ◌≢◌, Option, Some, None, codes, map, option_map, true, ⊤}
use Rattle.std.specs.Char.{to_ascii_lowercase}
use Rattle.rdf_terms.specs.Literals.{LiteralParts}
use Rattle.rdf_terms.specs.Vocabulary.{rdf_lang_string, xsd_string}
use Rattle.rdf_terms.specs.declared.terms.Term.TheVariants as Terms
use Rattle.serde_json.specs.Data.{Data, array, Items, no_items, item}
use Rattle.serde_json.specs.Find.{get}
use Rattle.value_sets.specs.Values.{ValueList}
use Rattle.value_sets.specs.declared.value.Except.{Except}
use Rattle.value_sets.specs.declared.value.Except.TheVariants.{Exact, Stem}
use Rattle.value_sets.specs.declared.value.Value.{Value}
use Rattle.value_sets.specs.declared.value.Value.TheVariants as Values
use Rattle.shexj_reader.specs.Keys.{IsObject, has_only, text, text_if_any, type_of}
use Rattle.shexj_reader.specs.declared.stems.StemKind.{StemKind}
use Rattle.shexj_reader.specs.declared.stems.StemKind.TheVariants as Kinds

-- how the texts of stems and exclusions are taken: IRIs and lexical forms as they are, language tags in lower case
abbrev pub taken : StemKind → List ℕ → List ℕ
taken Kinds.Iri t = t
taken Kinds.Literal t = t
taken Kinds.Language t = map to_ascii_lowercase t

-- the types of stems
abbrev pub stem_type : StemKind → List ℕ
stem_type Kinds.Iri = codes "IriStem"
stem_type Kinds.Literal = codes "LiteralStem"
stem_type Kinds.Language = codes "LanguageStem"

-- the types of ranges
abbrev pub range_type : StemKind → List ℕ
range_type Kinds.Iri = codes "IriStemRange"
range_type Kinds.Literal = codes "LiteralStemRange"
range_type Kinds.Language = codes "LanguageStemRange"

-- the type, if there is one, is none of those of stems, ranges, languages and wildcards
pub record IsOfLiteral (type : Option (List ℕ)) : Type 0 where
  pub no_stem : (kind : StemKind) → type ≢ Some (stem_type kind)
  pub no_range : (kind : StemKind) → type ≢ Some (range_type kind)
  pub no_language : type ≢ Some (codes "Language")
  pub no_wildcard : type ≢ Some (codes "Wildcard")

-- the type and the language tag that are written are those of a literal with this datatype and tag
abbrev pub IsTyped : Option (List ℕ) → Option (List ℕ) → LiteralParts → Type 0
IsTyped None None literal = (literal.datatype ≡ xsd_string) × (literal.lang ≡ None)
IsTyped (Some type) None literal = (type ≢ rdf_lang_string) × ((literal.datatype ≡ type) × (literal.lang ≡ None))
IsTyped None (Some tag) literal = (literal.datatype ≡ rdf_lang_string) × (literal.lang ≡ Some (map to_ascii_lowercase tag))
IsTyped (Some type) (Some tag) literal = (type ≡ rdf_lang_string) × ((literal.datatype ≡ rdf_lang_string) × (literal.lang ≡ Some (map to_ascii_lowercase tag)))

-- an object whose type is its datatype, if it has one
pub record IsLiteral (literal : LiteralParts) (d : Data) : Type 0 where
  pub only : has_only (codes "language" ∷ codes "type" ∷ codes "value" ∷ []) d ≡ true
  pub other : IsOfLiteral (type_of d)
  pub value : text (get (codes "value") d) ≡ Some literal.lex
  pub type : Option (List ℕ)
  pub has_type : text_if_any (get (codes "type") d) ≡ Some type
  pub language : Option (List ℕ)
  pub has_language : text_if_any (get (codes "language") d) ≡ Some language
  pub typed : IsTyped type language literal

-- a stem of this kind
pub record IsStem (kind : StemKind) (stem : List ℕ) (d : Data) : Type 0 where
  pub object : IsObject (stem_type kind) (codes "stem" ∷ codes "type" ∷ []) d
  pub has_stem : option_map (taken kind) (text (get (codes "stem") d)) ≡ Some stem

-- a language tag
pub record IsLanguage (tag : List ℕ) (d : Data) : Type 0 where
  pub object : IsObject (codes "Language") (codes "languageTag" ∷ codes "type" ∷ []) d
  pub has_tag : option_map (map to_ascii_lowercase) (text (get (codes "languageTag") d)) ≡ Some tag

-- the stem of a range: a text, or the wildcard where there is none
abbrev pub IsRangeStem : StemKind → Option (List ℕ) → Option Data → Type 0
IsRangeStem kind stem None = ⊥
IsRangeStem kind None (Some d) = IsObject (codes "Wildcard") (codes "type" ∷ []) d
IsRangeStem kind (Some stem) (Some d) = option_map (taken kind) (text (Some d)) ≡ Some stem

-- an exclusion: a text, or a stem of the same kind
abbrev pub IsExclusion : StemKind → Except → Data → Type 0
IsExclusion kind (Exact exact) d = option_map (taken kind) (text (Some d)) ≡ Some exact
IsExclusion kind (Stem stem) d = IsStem kind stem d

-- exclusions, in their order
abbrev pub AreExclusions : StemKind → List Except → Items → Type 0
AreExclusions kind [] no_items = ⊤
AreExclusions kind [] (item d ds) = ⊥
AreExclusions kind (e ∷ es) no_items = ⊥
AreExclusions kind (e ∷ es) (item d ds) = IsExclusion kind e d × AreExclusions kind es ds

-- exclusions in their order, and none where the key is absent
abbrev pub HasExclusions : StemKind → List Except → Option Data → Type 0
HasExclusions kind es None = es ≡ []
HasExclusions kind es (Some (array ds)) = AreExclusions kind es ds
HasExclusions kind es (Some _) = ⊥

-- a range of this kind; a wildcard has some exclusion
pub record IsRange (kind : StemKind) (stem : Option (List ℕ)) (es : List Except) (d : Data) : Type 0 where
  pub object : IsObject (range_type kind) (codes "exclusions" ∷ codes "stem" ∷ codes "type" ∷ []) d
  pub has_stem : IsRangeStem kind stem (get (codes "stem") d)
  pub exclusions : HasExclusions kind es (get (codes "exclusions") d)
  pub limited : stem ≡ None → es ≢ []

-- what stands for a value: a text for an IRI, and objects by their types
abbrev pub SpellsValue : Value → Data → Type 0
SpellsValue (Values.Term (Terms.Iri iri)) d = text (Some d) ≡ Some iri
SpellsValue (Values.Term (Terms.Blank name)) d = ⊥
SpellsValue (Values.Term (Terms.Lit literal)) d = IsLiteral literal d
SpellsValue (Values.IriStem stem) d = IsStem Kinds.Iri stem d
SpellsValue (Values.LitStem stem) d = IsStem Kinds.Literal stem d
SpellsValue (Values.Lang tag) d = IsLanguage tag d
SpellsValue (Values.LangStem stem) d = IsStem Kinds.Language stem d
SpellsValue (Values.IriRange stem es) d = IsRange Kinds.Iri stem es d
SpellsValue (Values.LitRange stem es) d = IsRange Kinds.Literal stem es d
SpellsValue (Values.LangRange stem es) d = IsRange Kinds.Language stem es d

-- values, in their order
abbrev pub SpellsValues : List Value → Items → Type 0
SpellsValues [] no_items = ⊤
SpellsValues [] (item d ds) = ⊥
SpellsValues (v ∷ vs) no_items = ⊥
SpellsValues (v ∷ vs) (item d ds) = SpellsValue v d × SpellsValues vs ds

-- what stands under `values`: a list, or nothing where there is no value set
abbrev pub SpellsValueSet : Option ValueList → Option Data → Type 0
SpellsValueSet None None = ⊤
SpellsValueSet (Some vs) (Some (array ds)) = SpellsValues vs ds
SpellsValueSet _ _ = ⊥
