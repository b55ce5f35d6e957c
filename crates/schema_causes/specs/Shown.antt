-- What is shown of a schema document that is refused for an error without a place.
use Rattle.std.specs.Prelude.{ℕ, false, List, [], ◌≡◌, ◌++◌, ◌⊎◌, None, Some, codes}
use Rattle.std.specs.Str.{IsUtf8, IsValidUpTo}
use Rattle.json_paths.specs.Texts.{path_text}
use Rattle.json_paths.specs.declared.steps.Step.{Step}
use Rattle.key_paths.specs.Causes.{LeadsToCause}
use Rattle.refusal_places.specs.Texts.{place_text}
use Rattle.schema_documents.specs.declared.error.SchemaError.{SchemaError}
use Rattle.schema_places.specs.Edges.{IsEdge}
use Rattle.schema_places.specs.Things.{thing_of}
use Rattle.schema_places.specs.declared.kinds.Thing.{Thing}
use Rattle.schema_reader.specs.Formats.{format_of}
use Rattle.schema_reader.specs.declared.format.Format.{Format}
use Rattle.schema_reader.specs.declared.format.Format.TheVariants.{Compact, Json}
use Rattle.serde_json.specs.Read.{read}

-- `NAME: PATH` with a line feed
abbrev pub path_line : List ℕ → List Step → List ℕ
path_line name steps = name ++ (codes ": " ++ (path_text false steps ++ codes "\n"))

-- what is shown is nothing, or has the property
abbrev pub IfAny : List ℕ → (List ℕ → Type 0) → Type 0
IfAny shown P = (shown ≡ []) ⊎ P shown

-- the place in ShExC of the thing of which the error tells
abbrev pub ShowsThing : List ℕ → List ℕ → SchemaError → List ℕ → List ℕ → Type 0
ShowsThing name base error bytes shown = (thing : Thing) × (at : ℕ) × (thing_of error ≡ Some thing) × IsEdge base thing bytes at × (shown ≡ place_text name bytes at)

-- the path of keys in ShExJ to what is responsible for the error
abbrev pub ShowsPath : List ℕ → SchemaError → List ℕ → List ℕ → Type 0
ShowsPath name error bytes shown = (steps : List Step) × LeadsToCause error bytes steps × (shown ≡ path_line name steps)

-- the first place in bytes that are no text from which on they are not UTF-8 (RFC 3629)
abbrev pub ShowsByte : List ℕ → List ℕ → List ℕ → Type 0
ShowsByte name bytes shown = (at : ℕ) × (¬ IsUtf8 bytes) × IsValidUpTo bytes at × (shown ≡ place_text name bytes at)

-- a place in a text that is no JSON (RFC 8259); which one is not said
abbrev pub ShowsStop : List ℕ → List ℕ → List ℕ → Type 0
ShowsStop name bytes shown = (at : ℕ) × IsUtf8 bytes × (read bytes ≡ None) × (shown ≡ place_text name bytes at)

-- by the format of the document
abbrev pub ShowsIn : Format → List ℕ → List ℕ → SchemaError → List ℕ → List ℕ → Type 0
ShowsIn Compact name base error bytes shown = ShowsThing name base error bytes shown
ShowsIn Json name base error bytes shown = ShowsStop name bytes shown ⊎ ShowsPath name error bytes shown

-- what is shown of a document of this name and base that is refused for the error: nothing, a byte that is no text, or what the format has
abbrev pub ShowsCause : List ℕ → List ℕ → SchemaError → List ℕ → List ℕ → Type 0
ShowsCause name base error bytes shown = IfAny shown (λ some. ShowsByte name bytes some ⊎ ShowsIn (format_of name) name base error bytes some)
