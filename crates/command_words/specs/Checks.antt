-- The checks of a request, and the first one that it fails (own).
use Rattle.std.specs.Prelude.{◌≡◌, ◌≢◌, ◌⊎◌, ◌++◌, true, false, List, [], ◌∷◌, Option, Some, ⊤, codes, map}
use Rattle.std.specs.Option.{option_to_list}
use Rattle.clap.specs.Words.{Text}
use Rattle.input_names.specs.Names.{Import, Inputs, is_among, is_base, is_data_name, is_schema_name}
use Rattle.iri_resolve.specs.Text.{Lacks}
use Rattle.command_words.specs.Requests.{Given, Request, Task, map_names, proof_of, to_of}

-- why words are refused, with the name, the word or the IRI that is at fault
pub data Fault : Type 0 where
  arguments : Fault
  ending : Text → Fault
  import_word : Text → Fault
  base : Text → Fault
  same : Text → Fault

-- the name, if there is one, is none of these
abbrev pub IsApart : Option Text → List Text → Type 0
IsApart given names = (name : Text) → given ≡ Some name → is_among name names ≡ false

-- the last `=` of a word divides it, and neither part is empty
pub record Divides (word : Text) (i : Import) : Type 0 where
  pub whole : word ≡ i.iri ++ (codes "=" ++ i.file)
  pub last : Lacks 61 i.file
  pub iri : i.iri ≢ []
  pub file : i.file ≢ []

-- a word gives an import, behind words that gave these IRIs
pub record IsImport (earlier : List Text) (word : Text) (i : Import) : Type 0 where
  pub divides : Divides word i
  pub first : is_among i.iri earlier ≡ false
  pub schema : is_schema_name i.file ≡ true

-- words give imports, each behind the ones before it
abbrev pub AreImports : List Text → List Text → List Import → Type 0
AreImports earlier [] [] = ⊤
AreImports earlier (w ∷ ws) (i ∷ imports) = IsImport earlier w i × AreImports (earlier ++ i.iri ∷ []) ws imports
AreImports earlier [] (i ∷ imports) = ⊥
AreImports earlier (w ∷ ws) [] = ⊥

-- a word has not the form `IRI=FILE`, or its IRI was given before, or its file has no schema ending
pub data IsWordFault (earlier : List Text) (word : Text) : Fault → Type 0 where
  form : ((i : Import) → ¬ Divides word i) → IsWordFault earlier word (import_word word)
  again : (i : Import) → Divides word i → is_among i.iri earlier ≡ true → IsWordFault earlier word (import_word word)
  file : (i : Import) → Divides word i → is_among i.iri earlier ≡ false → is_schema_name i.file ≡ false → IsWordFault earlier word (ending i.file)

-- the first of the words that gives no import is at fault
abbrev pub IsImportFault : List Text → List Text → Fault → Type 0
IsImportFault earlier [] f = ⊥
IsImportFault earlier (w ∷ ws) f = IsWordFault earlier w f ⊎ ((i : Import) × IsImport earlier w i × IsImportFault (earlier ++ i.iri ∷ []) ws f)

-- both files have an ending that says how they are read
pub record HasEndings (g : Given) : Type 0 where
  pub schema : is_schema_name g.schema ≡ true
  pub data_file : is_data_name g.data_file ≡ true

-- and the import words give these imports
pub record HasImports (g : Given) (imports : List Import) : Type 0 where
  pub endings : HasEndings g
  pub imports_given : AreImports [] g.import_words imports

-- and both bases are bases
pub record PassesBases (g : Given) (imports : List Import) : Type 0 where
  pub inputs : HasImports g imports
  pub schema : is_base g.schema_base ≡ true
  pub data_file : is_base g.data_base ≡ true

-- the first of these checks that is failed
pub data IsGivenFault (g : Given) : Fault → Type 0 where
  schema_ending : is_schema_name g.schema ≡ false → IsGivenFault g (ending g.schema)
  data_ending : is_schema_name g.schema ≡ true → is_data_name g.data_file ≡ false → IsGivenFault g (ending g.data_file)
  import_words : (f : Fault) → HasEndings g → IsImportFault [] g.import_words f → IsGivenFault g f
  schema_base : (imports : List Import) → HasImports g imports → is_base g.schema_base ≡ false → IsGivenFault g (base g.schema_base)
  data_base : (imports : List Import) → HasImports g imports → is_base g.schema_base ≡ true → is_base g.data_base ≡ false → IsGivenFault g (base g.data_base)

-- what is given, where its words give these imports
abbrev pub inputs_by : Given → List Import → Inputs
inputs_by g imports = record {
  schema = g.schema;
  data_file = g.data_file;
  schema_base = g.schema_base;
  data_base = g.data_base;
  imports = imports;
}

-- what is given passes these checks, and its words give the imports of the inputs
pub record AreInputs (g : Given) (i : Inputs) : Type 0 where
  pub passes : PassesBases g i.imports
  pub leads : i ≡ inputs_by g i.imports

-- the names of the files of the schema, the data, the map and the imports
abbrev pub other_names : Inputs → Task → List Text
other_names i t = i.schema ∷ i.data_file ∷ map_names t ++ map (λ w. w.file) i.imports

-- and that of the proof, if there is one
abbrev pub names_with_proof : Inputs → Task → List Text
names_with_proof i t = option_to_list (proof_of t) ++ other_names i t

-- the name of the proof is none of the others, and neither is that of the file in which a checked proof is to be stored: the request passes all checks
pub record Passes (r : Request) (imports : List Import) : Type 0 where
  pub bases : PassesBases r.given imports
  pub apart : IsApart (proof_of r.task) (other_names (inputs_by r.given imports) r.task)
  pub to_apart : IsApart (to_of r.task) (names_with_proof (inputs_by r.given imports) r.task)

-- the first check that a request fails
pub data IsRequestFault (r : Request) : Fault → Type 0 where
  of_given : (f : Fault) → IsGivenFault r.given f → IsRequestFault r f
  same_name : (imports : List Import) → PassesBases r.given imports → (name : Text) → proof_of r.task ≡ Some name →
      is_among name (other_names (inputs_by r.given imports) r.task) ≡ true → IsRequestFault r (same name)
  same_to : (imports : List Import) → PassesBases r.given imports → IsApart (proof_of r.task) (other_names (inputs_by r.given imports) r.task) → (name : Text) → to_of r.task ≡ Some name
      → is_among name (names_with_proof (inputs_by r.given imports) r.task) ≡ true → IsRequestFault r (same name)
