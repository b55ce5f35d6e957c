-- Laws of documents that are converted to ShExJ, each of which a function of `src/laws.rt` claims.
use Rattle.std.specs.Prelude.{◌≡◌, ℕ, true, List, IsSome}
use Rattle.std.specs.Str.{IsUtf8}
use Rattle.serde_json.specs.Written.{compact_text}
use Rattle.iri_resolve.specs.Reference.{scheme_of}
use Rattle.shexc_reader.specs.Documents.{IsDocument}
use Rattle.shexc_reader.specs.States.{State, document_in}
use Rattle.schema_reader.specs.Documents.{IsSchema, Read}
use Rattle.schema_reader.specs.declared.format.Format.{Format}
use Rattle.shexj_reader.specs.Bytes.{IsDocumentText}
use Rattle.shexj_writer.specs.Documents.{document_data}
use Rattle.shexj_writer.specs.Expressible.{IsExpressibleDocument}
use Rattle.shexj_writer.specs.Held.{IsHeldDocument}
use Rattle.shexj_writer.specs.Laws.{IsDeep}
use Rattle.shexj_writer.specs.Plain.{plain_document}
use Rattle.shexj_writer.specs.Whole.{is_whole_document}

-- each document that bytes spell in ShExC, under a base that has a scheme (RFC 3986, section 3.1), has a form in ShExJ
abbrev pub CompactAreExpressible : Type 0
CompactAreExpressible = (base source : List ℕ) (x : State) → IsSome (scheme_of base) → IsDocument base source x → IsExpressibleDocument (document_in x)

-- each document that bytes spell in either format, under a base that has a scheme, has a form in ShExJ
abbrev pub SchemasAreExpressible : Type 0
SchemasAreExpressible = (format : Format) (base bytes : List ℕ) (r : Read) → IsSome (scheme_of base) → IsSchema format base r bytes → IsExpressibleDocument r.document

-- the parts of each document that bytes spell in ShExC, under a base of UTF-8, are those that the types of a program allow
abbrev pub CompactAreHeld : Type 0
CompactAreHeld = (base source : List ℕ) (x : State) → IsUtf8 base → IsDocument base source x → IsHeldDocument (document_in x)

-- what is written of each document that bytes are, the compact text of its JSON value, is a text of the document as it is read back, where each of its
-- range facets is a whole number and it is not too deep
abbrev pub ConversionsAreRead : Type 0
ConversionsAreRead =
    (format : Format) (base bytes : List ℕ) (r : Read) → IsSome (scheme_of base) → IsUtf8 base → IsSchema format base r bytes →
    is_whole_document r.document ≡ true → ¬ IsDeep r.document → IsDocumentText (plain_document r.document) (compact_text (document_data r.document))
