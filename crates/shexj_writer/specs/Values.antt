-- Value sets as JSON (ShEx 2.1, appendix A, and section 5.4, Values Constraint).
use Rattle.std.specs.Prelude.{ℕ, List, [], ◌∷◌, if◌then◌else◌, Option, Some, None, codes, encode_utf8_all, option_map}
use Rattle.std.specs.Str.{bytes_eq}
use Rattle.rdf_terms.specs.Literals.{LiteralParts}
use Rattle.rdf_terms.specs.Vocabulary.{xsd_string}
use Rattle.rdf_terms.specs.declared.terms.Term.{Term}
use Rattle.rdf_terms.specs.declared.terms.Term.TheVariants as Terms
use Rattle.serde_json.specs.Data.{Data, array, null, string, Items, no_items, item}
use Rattle.value_sets.specs.declared.value.Except.{Except}
use Rattle.value_sets.specs.declared.value.Except.TheVariants.{Exact, Stem}
use Rattle.value_sets.specs.declared.value.Value.{Value}
use Rattle.value_sets.specs.declared.value.Value.TheVariants as Values
use Rattle.shexj_reader.specs.declared.stems.StemKind.{StemKind}
use Rattle.shexj_reader.specs.declared.stems.StemKind.TheVariants as Kinds
use Rattle.shexj_reader.specs.Values.{range_type, stem_type}
use Rattle.shexj_writer.specs.Objects.{Field, list_if_any, object_of}
use Rattle.shexj_writer.specs.Texts.{text_data}

-- the datatype of a literal, where it has no tag and another datatype than xsd:string
abbrev pub datatype_data : Option (List ℕ) → List ℕ → Option Data
datatype_data (Some tag) datatype = None
datatype_data None datatype = if bytes_eq (encode_utf8_all datatype) xsd_string then None else Some (text_data datatype)

-- a literal
abbrev pub literal_fields : LiteralParts → List Field
literal_fields l =
    (codes "language", option_map text_data l.lang) ∷
    (codes "type", datatype_data l.lang l.datatype) ∷
    (codes "value", Some (text_data l.lex)) ∷ []

abbrev pub literal_data : LiteralParts → Data
literal_data l = object_of (literal_fields l)

-- a term; a blank node, which stands in no value set that is read, has no form
abbrev pub term_data : Term → Data
term_data (Terms.Iri iri) = text_data iri
term_data (Terms.Blank name) = null
term_data (Terms.Lit literal) = literal_data literal

-- a stem
abbrev pub stem_fields : StemKind → List ℕ → List Field
stem_fields kind stem = (codes "stem", Some (text_data stem)) ∷ (codes "type", Some (string (stem_type kind))) ∷ []

abbrev pub stem_data : StemKind → List ℕ → Data
stem_data kind stem = object_of (stem_fields kind stem)

-- a language tag
abbrev pub language_fields : List ℕ → List Field
language_fields tag = (codes "languageTag", Some (text_data tag)) ∷ (codes "type", Some (string (codes "Language"))) ∷ []

abbrev pub language_data : List ℕ → Data
language_data tag = object_of (language_fields tag)

-- the stem of a range: a text, or the wildcard where there is none
abbrev pub wildcard_fields : List Field
wildcard_fields = (codes "type", Some (string (codes "Wildcard"))) ∷ []

abbrev pub range_stem_data : Option (List ℕ) → Data
range_stem_data None = object_of wildcard_fields
range_stem_data (Some stem) = text_data stem

-- an exclusion: a text, or a stem of the same kind
abbrev pub exclusion_data : StemKind → Except → Data
exclusion_data kind (Exact exact) = text_data exact
exclusion_data kind (Stem stem) = stem_data kind stem

-- exclusions, in their order
abbrev pub exclusions_items : StemKind → List Except → Items
exclusions_items kind [] = no_items
exclusions_items kind (e ∷ es) = item (exclusion_data kind e) (exclusions_items kind es)

-- a range
abbrev pub range_fields : StemKind → Option (List ℕ) → List Except → List Field
range_fields kind stem es =
    (codes "exclusions", list_if_any (exclusions_items kind es)) ∷
    (codes "stem", Some (range_stem_data stem)) ∷
    (codes "type", Some (string (range_type kind))) ∷ []

abbrev pub range_data : StemKind → Option (List ℕ) → List Except → Data
range_data kind stem es = object_of (range_fields kind stem es)

-- a value
abbrev pub value_data : Value → Data
value_data (Values.Term term) = term_data term
value_data (Values.IriStem stem) = stem_data Kinds.Iri stem
value_data (Values.LitStem stem) = stem_data Kinds.Literal stem
value_data (Values.Lang tag) = language_data tag
value_data (Values.LangStem stem) = stem_data Kinds.Language stem
value_data (Values.IriRange stem es) = range_data Kinds.Iri stem es
value_data (Values.LitRange stem es) = range_data Kinds.Literal stem es
value_data (Values.LangRange stem es) = range_data Kinds.Language stem es

-- values, in their order
abbrev pub values_items : List Value → Items
values_items [] = no_items
values_items (v ∷ vs) = item (value_data v) (values_items vs)

-- a value set
abbrev pub value_set_data : List Value → Data
value_set_data vs = array (values_items vs)
