-- Whether the reader of schemas in ShExJ refuses a JSON value for an error (ShEx 2.1, appendix A).
use Rattle.std.specs.Prelude.{Bool, true, false, ◌≡◌, ◌≢◌}
use Rattle.serde_json.specs.Data.{Data}
use Rattle.schema_documents.specs.Tree.{Document}
use Rattle.schema_documents.specs.contracts.error.SchemaErrorPartialEq.TheImpl.{ghosts}
use Rattle.schema_documents.specs.declared.error.SchemaError.{SchemaError}
use Rattle.schema_documents.specs.declared.error.SchemaError.TheVariants as Errors
use Rattle.shexj_reader.specs.DocumentFaults.{DocumentFault}
use Rattle.shexj_reader.specs.Documents.{IsDocument}
use Rattle.shexj_reader.specs.Faults.{Because}

-- two errors are the same
abbrev pub same_error : SchemaError → SchemaError → Bool
same_error = ghosts.eq

-- the value stands for a document
pub record IsDocumentData (d : Data) : Type 0 where
  pub document : Document
  pub is : IsDocument document d

-- the value has the fault of the error
pub record IsRefusedFor (e : SchemaError) (d : Data) : Type 0 where
  pub known : e ≢ Errors.Memory
  pub fault : Because (λ f. DocumentFault f d) e

-- the value has the fault of an error that is this one
pub record IsRefused (error : SchemaError) (d : Data) : Type 0 where
  pub found : SchemaError
  pub alike : same_error found error ≡ true
  pub refused : IsRefusedFor found d

-- the value stands for a document, or has the fault of another error
pub data IsOther (error : SchemaError) (d : Data) : Type 0 where
  accepted : IsDocumentData d → IsOther error d
  otherwise : (found : SchemaError) → same_error found error ≡ false → IsRefusedFor found d → IsOther error d
