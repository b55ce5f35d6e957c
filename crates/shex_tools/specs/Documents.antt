-- The document that `convert` writes.
use Rattle.std.specs.Prelude.{ℕ, List, ◌≡◌, true, false}
use Rattle.shex_io.specs.Files.{Told}
use Rattle.schema_documents.specs.Tree.{Document}
use Rattle.shex_io.specs.Fetching.{IsFile}
use Rattle.schema_reader.specs.Formats.{format_of}
use Rattle.schema_reader.specs.declared.format.Format.{Format}
use Rattle.schema_reader.specs.declared.format.Format.TheVariants.{Compact, Json}
use Rattle.shexc_reader.specs.Documents.{IsDocument}
use Rattle.shexc_reader.specs.States.{State, document_in}
use Rattle.shexj_reader.specs.Bytes.{IsDocumentText}
use Rattle.shexj_writer.specs.declared.error.WriteError.{WriteError}
use Rattle.shexj_writer.specs.declared.error.WriteError.TheVariants as Errors
use Rattle.shexj_writer.specs.Laws.{IsDeep}
use Rattle.shexj_writer.specs.Whole.{is_whole_document}
use Rattle.tool_words.specs.Requests.{Converting}

-- under this base the bytes spell this document (ShEx 2.1, section 6 and appendix A); the IRIs of one in ShExJ are as they are written
abbrev pub Spells : Format → List ℕ → Document → List ℕ → Type 0
Spells Compact base doc bytes = (x : State) × IsDocument base bytes x × (doc ≡ document_in x)
Spells Json base doc bytes = IsDocumentText doc bytes

-- the schema file holds this document, in the format of the file's name and under the base of the schema
pub record HoldsDocument (told : Told) (c : Converting) (doc : Document) : Type 0 where
  pub bytes : List ℕ
  pub file : IsFile told c.schema bytes
  pub spelled : Spells (format_of c.schema) c.schema_base doc bytes

-- each range facet of the document is a whole number that is written, and nothing in it nests too deep
pub record HasText (doc : Document) : Type 0 where
  pub whole : is_whole_document doc ≡ true
  pub flat : ¬ IsDeep doc

-- why a document has no text in ShExJ
abbrev pub LacksText : Document → WriteError → Type 0
LacksText doc Errors.FacetNumber = is_whole_document doc ≡ false
LacksText doc Errors.Deep = IsDeep doc
LacksText doc Errors.Memory = ⊥
