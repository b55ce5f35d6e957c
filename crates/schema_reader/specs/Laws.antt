-- Laws of schema documents, each of which a function of `src/laws.rt` claims.
use Rattle.std.specs.Prelude.{ℕ, List, ◌≡◌}
use Rattle.rdf_lex.specs.Prefixes.{AreOneLine}
use Rattle.rdf_terms.specs.OneLine.{IsOneLine}
use Rattle.schema_documents.specs.Ordered.{IsOrderedDocument}
use Rattle.schema_reader.specs.Documents.{IsSchema, Read}
use Rattle.schema_reader.specs.declared.format.Format.{Format}

-- bytes are, in one format and under one base, one document at most
abbrev pub SchemasAreOne : Type 0
SchemasAreOne = (format : Format) (base bytes : List ℕ) (r other : Read) → IsSchema format base r bytes → IsSchema format base other bytes → r ≡ other

-- no minimum of a document that bytes are is above its bound
abbrev pub SchemasAreOrdered : Type 0
SchemasAreOrdered = (format : Format) (base bytes : List ℕ) (r : Read) → IsSchema format base r bytes → IsOrderedDocument r.document

-- where the base is on one line, so are the base and the IRI of each prefix at the end
abbrev pub NamesHaveLines : Type 0
NamesHaveLines = (format : Format) (base bytes : List ℕ) (r : Read) → IsOneLine base → IsSchema format base r bytes → AreOneLine r.names.base r.names.prefixes
