-- What stands at a path of a document is responsible for its refusal.
use Rattle.std.specs.Prelude.{ℕ, List, [], ◌∷◌, ◌++◌, ◌≡◌, Some}
use Rattle.serde_json.specs.Data.{Data}
use Rattle.serde_json.specs.Read.{read}
use Rattle.schema_documents.specs.declared.error.SchemaError.{SchemaError}
use Rattle.json_paths.specs.Paths.{inside, value_at, with_at, with_step, without}
use Rattle.json_paths.specs.declared.steps.Step.{Step}
use Rattle.key_paths.specs.Refusals.{IsOther, IsRefused}

-- what stands behind the step is gone, or something else stands there
pub data IsChanged (step : Step) (outer changed : Data) : Type 0 where
  gone : changed ≡ without step outer → IsChanged step outer changed
  replaced : (x : Data) → changed ≡ with_step step x outer → IsChanged step outer changed

-- the value at the path is another behind the step, and so the document is not refused for the error
pub record IsMendedBy (error : SchemaError) (document : Data) (path : List Step) (step : Step) (outer : Data) : Type 0 where
  pub changed : Data
  pub change : IsChanged step outer changed
  pub other : IsOther error (with_at path changed document)

-- with what stands behind the step of the value at the path, and nothing behind it in the arrays that lead there, the document is refused for the error, and with a change there it is not
pub record IsResponsible (error : SchemaError) (document : Data) (path : List Step) (step : Step) : Type 0 where
  pub outer : Data
  pub found : value_at path document ≡ Some outer
  pub inner : Data
  pub there : inside step outer ≡ Some inner
  pub refused : IsRefused error (with_at path (with_step step inner outer) document)
  pub mended : IsMendedBy error document path step outer

-- the last of the steps leads to what is responsible
pub record EndsAtCause (error : SchemaError) (document : Data) (steps : List Step) : Type 0 where
  pub path : List Step
  pub step : Step
  pub is : steps ≡ path ++ step ∷ []
  pub responsible : IsResponsible error document path step

-- the bytes are JSON (RFC 8259), their value is refused for the error, and the steps lead to what is responsible for it
pub record LeadsToCause (error : SchemaError) (bytes : List ℕ) (steps : List Step) : Type 0 where
  pub document : Data
  pub json : read bytes ≡ Some document
  pub refused : IsRefused error document
  pub ends : EndsAtCause error document steps
