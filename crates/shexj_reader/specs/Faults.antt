-- What may be wrong with a JSON value in the place of a part of a schema.
use Rattle.std.specs.Prelude.{ℕ, true, false, List, ◌≡◌, Option, None, codes, encode_utf8_all, ⊤}
use Rattle.std.specs.List.{list_any}
use Rattle.std.specs.Str.{bytes_eq}
use Rattle.xs_pattern.specs.declared.pattern_error.PatternError.{PatternError}
use Rattle.serde_json.specs.Data.{Data}
use Rattle.serde_json.specs.Find.{get}
use Rattle.schema_documents.specs.declared.error.SchemaError.{SchemaError}
use Rattle.schema_documents.specs.declared.error.SchemaError.TheVariants as Errors
use Rattle.shexj_reader.specs.Keys.{has_key, is_empty_list, is_list}

-- an unlisted key, a listed one whose value is not of its form, actions, an external shape expression, the faults of facets, and too deep an expression; names are bytes
pub data Fault : Type 0 where
  key : List ℕ → Fault
  form : List ℕ → Fault
  action : Fault
  external : Fault
  float_facet : Fault
  facet_number : Fault
  pattern : PatternError → Fault
  deep : Fault

-- memory ran out, or the fault of the refusal has the property
abbrev pub Because : (Fault → Type 0) → SchemaError → Type 0
Because P Errors.NotUtf8 = ⊥
Because P Errors.Json = ⊥
Because P (Errors.Syntax at) = ⊥
Because P (Errors.Key name) = P (key (encode_utf8_all name))
Because P (Errors.Form name) = P (form (encode_utf8_all name))
Because P Errors.Action = P action
Because P Errors.External = P external
Because P Errors.FloatFacet = P float_facet
Because P Errors.FacetNumber = P facet_number
Because P (Errors.Pattern e) = P (pattern e)
Because P (Errors.Prefix at) = ⊥
Because P Errors.Deep = P deep
Because P Errors.Memory = ⊤

-- the object has a key that is none of these
pub record IsUnknownKey (keys : List (List ℕ)) (f : Fault) (d : Data) : Type 0 where
  pub name : List ℕ
  pub is : f ≡ key name
  pub there : has_key name d ≡ true
  pub unknown : list_any (bytes_eq name) keys ≡ false

-- the value of a key is not of its form, or is missing where it has to be there
pub record IsBad {A : Type 0} (name : List ℕ) (read : Option Data → Option A) (f : Fault) (d : Data) : Type 0 where
  pub is : f ≡ form name
  pub wrong : read (get name d) ≡ None

-- a key should have a list and has none
pub record IsNoList (name : List ℕ) (f : Fault) (d : Data) : Type 0 where
  pub is : f ≡ form name
  pub wrong : is_list (get name d) ≡ false

-- a key has a list of actions
pub record HasActs (name : List ℕ) (f : Fault) (d : Data) : Type 0 where
  pub is : f ≡ action
  pub listed : is_list (get name d) ≡ true
  pub some : is_empty_list (get name d) ≡ false

-- actions, or no list where actions or annotations should be
pub data PlainFault (f : Fault) (d : Data) : Type 0 where
  has_acts : HasActs (codes "semActs") f d → PlainFault f d
  bad_acts : IsNoList (codes "semActs") f d → PlainFault f d
  bad_notes : IsNoList (codes "annotations") f d → PlainFault f d
