-- Laws of the definitions, each claimed by a function of `src/laws.rt`.
use Rattle.std.specs.Prelude.{ℕ, List, ◌≡◌, ◌≢◌}
use Rattle.schema_documents.specs.Tree.{Document}
use Rattle.schema_documents.specs.declared.error.SchemaError.{SchemaError}
use Rattle.schema_documents.specs.declared.error.SchemaError.TheVariants as Errors
use Rattle.shexj_reader.specs.Bytes.{IsCause, IsDocumentText}
use Rattle.schema_documents.specs.Ordered.{IsOrderedDocument}

-- the same bytes spell one document at most
abbrev pub DocumentsAreOne : Type 0
DocumentsAreOne = (bytes : List ℕ) (a b : Document) → IsDocumentText a bytes → IsDocumentText b bytes → a ≡ b

-- bytes that are refused for another cause than memory spell no document
abbrev pub RefusedAreNone : Type 0
RefusedAreNone = (bytes : List ℕ) (e : SchemaError) (doc : Document) → e ≢ Errors.Memory → IsCause bytes e → ¬ IsDocumentText doc bytes

-- no minimum of a document that bytes spell is above its bound
abbrev pub DocumentsAreOrdered : Type 0
DocumentsAreOrdered = (bytes : List ℕ) (doc : Document) → IsDocumentText doc bytes → IsOrderedDocument doc
