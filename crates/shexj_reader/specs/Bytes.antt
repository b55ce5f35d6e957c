-- Which bytes spell a document, and why others are refused.
use Rattle.std.specs.Prelude.{ℕ, ◌≡◌, ◌≤◌, List, Some, None, ⊤}
use Rattle.std.specs.Str.{IsUtf8}
use Rattle.serde_json.specs.Data.{Data}
use Rattle.serde_json.specs.Read.{read}
use Rattle.schema_documents.specs.Tree.{Document}
use Rattle.schema_documents.specs.declared.error.SchemaError.{SchemaError}
use Rattle.schema_documents.specs.declared.error.SchemaError.TheVariants as Errors
use Rattle.shexj_reader.specs.DocumentFaults.{DocumentFault}
use Rattle.shexj_reader.specs.Documents.{SpellsDocument}
use Rattle.shexj_reader.specs.Nesting.{document_nesting, max_nesting}
use Rattle.shexj_reader.specs.Faults.{Because}

-- the bytes are UTF-8 (RFC 8259, section 8.1) and JSON, and their value stands for the document, which nests within the limit
pub record IsDocumentText (doc : Document) (bytes : List ℕ) : Type 0 where
  pub utf8 : IsUtf8 bytes
  pub value : Data
  pub json : read bytes ≡ Some value
  pub spelled : SpellsDocument doc value
  pub within : document_nesting doc ≤ max_nesting

-- the bytes are UTF-8 and JSON, and their value has the fault of the refusal
pub record HasFault (bytes : List ℕ) (e : SchemaError) : Type 0 where
  pub utf8 : IsUtf8 bytes
  pub value : Data
  pub json : read bytes ≡ Some value
  pub fault : Because (λ f. DocumentFault f value) e

-- what stands in the bytes where they are refused; memory may run out on any
abbrev pub IsCause : List ℕ → SchemaError → Type 0
IsCause bytes Errors.NotUtf8 = ¬ IsUtf8 bytes
IsCause bytes Errors.Json = IsUtf8 bytes × (read bytes ≡ None)
IsCause bytes Errors.Memory = ⊤
IsCause bytes (Errors.Syntax at) = ⊥
IsCause bytes Errors.External = HasFault bytes Errors.External
IsCause bytes (Errors.Prefix at) = ⊥
IsCause bytes Errors.Deep = HasFault bytes Errors.Deep
IsCause bytes (Errors.Key name) = HasFault bytes (Errors.Key name)
IsCause bytes (Errors.Form name) = HasFault bytes (Errors.Form name)
IsCause bytes Errors.Action = HasFault bytes Errors.Action
IsCause bytes Errors.FloatFacet = HasFault bytes Errors.FloatFacet
IsCause bytes Errors.FacetNumber = HasFault bytes Errors.FacetNumber
IsCause bytes (Errors.Pattern e) = HasFault bytes (Errors.Pattern e)
