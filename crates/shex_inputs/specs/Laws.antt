-- What files that are told hold is one thing. Each law is claimed by a function of `src/laws.rt`.
use Rattle.std.specs.Prelude.{ℕ, List, ◌∷◌, ◌≡◌, ◌≢◌, Contains, Option, Some, map}
use Rattle.input_names.specs.Names.{Text}
use Rattle.rdf_lex.specs.Prefixes.{AreOneLine}
use Rattle.rdf_terms.specs.OneLine.{IsOneLine}
use Rattle.shex_io.specs.Files.{Told}
use Rattle.schema_files.specs.declared.error.SchemaFile.{SchemaFile}
use Rattle.schema_tree.specs.Loaded.{IsLoaded}
use Rattle.shex_inputs.specs.declared.error.Refusal.{Refusal}
use Rattle.shex_inputs.specs.declared.error.Source.{Source}
use Rattle.shex_inputs.specs.declared.error.Source.TheVariants.{Map, Schema}
use Rattle.shex_inputs.specs.Asked.{IsAskedOf, Question}
use Rattle.shex_inputs.specs.Held.{Held, IsTaken}
use Rattle.shex_inputs.specs.Named.{Inputs, source_of}
use Rattle.shex_inputs.specs.Outcomes.{IsAbsent}
use Rattle.shex_inputs.specs.Refusals.{IsRefused, IsSchemaTaken}

module _ (contents : List ℕ → Option (List ℕ)) (i : Inputs) where
  -- the schema and the graph are one
  abbrev pub HeldIsOne : Type 0
  HeldIsOne = (h k : Held) → IsTaken (Some contents) i h → IsTaken (Some contents) i k → h ≡ k

  -- what a map asks is one
  abbrev pub QuestionIsOne : Type 0
  QuestionIsOne = (p q : Question) → IsAskedOf (Some contents) i p → IsAskedOf (Some contents) i q → p ≡ q

  -- where the schema and the data are taken, no file but the map is refused or absent
  abbrev pub TakenIsNotLeft : Type 0
  TakenIsNotLeft =
      (h : Held) (source : Source) → IsTaken (Some contents) i h → source ≢ Map →
      ((refusal : Refusal) → source_of refusal ≡ source → ¬ IsRefused (Some contents) i refusal) × (¬ IsAbsent (Some contents) i source)

  -- where the schema is taken, no file of it is refused or absent
  abbrev pub SchemaIsNotLeft : Type 0
  SchemaIsNotLeft =
      IsSchemaTaken (Some contents) i → (file : SchemaFile) →
      ((refusal : Refusal) → source_of refusal ≡ Schema file → ¬ IsRefused (Some contents) i refusal) × (¬ IsAbsent (Some contents) i (Schema file))

  -- where a map asks something, no file is refused or absent
  abbrev pub AskedIsNotLeft : Type 0
  AskedIsNotLeft =
      (q : Question) → IsAskedOf (Some contents) i q →
      ((refusal : Refusal) → ¬ IsRefused (Some contents) i refusal) × ((source : Source) → ¬ IsAbsent (Some contents) i source)

  -- a file that is refused is the only one, and none is absent
  abbrev pub LeftIsOne : Type 0
  LeftIsOne =
      (refusal : Refusal) → IsRefused (Some contents) i refusal →
      ((other : Refusal) → IsRefused (Some contents) i other → source_of refusal ≡ source_of other) × ((source : Source) → ¬ IsAbsent (Some contents) i source)

-- the names of the files that the schema and the data may be read from: those of all import words are among them, read or not
abbrev pub file_names : Inputs → List (List ℕ)
file_names i = i.data_file ∷ i.schema ∷ map (λ w. w.file) i.imports

-- the two hold the same under each of these names
abbrev pub HoldSame : (contents other : List ℕ → Option (List ℕ)) → Inputs → Type 0
HoldSame contents other i = (name : List ℕ) → Contains (file_names i) name → contents name ≡ other name

-- the inputs, with a map of this name
abbrev pub with_map : Inputs → Text → Inputs
with_map i name = record {
  schema = i.schema;
  data_file = i.data_file;
  map_file = name;
  schema_base = i.schema_base;
  data_base = i.data_base;
  imports = i.imports;
}

-- what is taken stays so where these files hold the same bytes, whatever other files hold and whichever map is named
abbrev pub TakenByBytes : Type 0
TakenByBytes =
    (contents other : List ℕ → Option (List ℕ)) (i : Inputs) (map_name : Text) (h : Held) → HoldSame contents other i → IsTaken (Some contents) i h →
    IsTaken (Some other) (with_map i map_name) h

-- the schema that is held is loaded
abbrev pub TakenIsLoaded : Type 0
TakenIsLoaded = (told : Told) (i : Inputs) (h : Held) → IsTaken told i h → IsLoaded h.schema

-- where the base of the schema is on one line, so are the base of the labels and the IRI of each of their prefixes
abbrev pub LabelsHaveLines : Type 0
LabelsHaveLines = (told : Told) (i : Inputs) (h : Held) → IsOneLine i.schema_base → IsTaken told i h → AreOneLine h.labels.base h.labels.prefixes

-- all of these
abbrev pub InputsAreOne : Type 0
InputsAreOne =
    (contents : List ℕ → Option (List ℕ)) (i : Inputs) →
    HeldIsOne contents i × (QuestionIsOne contents i × (TakenIsNotLeft contents i × (AskedIsNotLeft contents i × LeftIsOne contents i)))

-- where the schema of inputs is taken, none of its files is refused or absent
abbrev pub SchemasAreNotLeft : Type 0
SchemasAreNotLeft = (contents : List ℕ → Option (List ℕ)) (i : Inputs) → SchemaIsNotLeft contents i
