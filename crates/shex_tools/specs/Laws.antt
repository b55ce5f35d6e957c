-- Laws of the documents that bytes spell, each of which a function of `src/laws.rt` claims.
use Rattle.std.specs.Prelude.{ℕ, List, ◌≡◌, IsSome}
use Rattle.iri_resolve.specs.Reference.{scheme_of}
use Rattle.schema_documents.specs.Tree.{Document}
use Rattle.schema_reader.specs.declared.format.Format.{Format}
use Rattle.shexj_writer.specs.Expressible.{IsExpressibleDocument}
use Rattle.shex_tools.specs.Documents.{Spells}

-- in one format and under one base, bytes spell one document at most
abbrev pub DocumentsAreOne : Type 0
DocumentsAreOne = (format : Format) (base bytes : List ℕ) (doc other : Document) → Spells format base doc bytes → Spells format base other bytes → doc ≡ other

-- each document that bytes spell, under a base that has a scheme (RFC 3986, section 3.1), has a form in ShExJ
abbrev pub DocumentsAreExpressible : Type 0
DocumentsAreExpressible = (format : Format) (base bytes : List ℕ) (doc : Document) → IsSome (scheme_of base) → Spells format base doc bytes → IsExpressibleDocument doc
