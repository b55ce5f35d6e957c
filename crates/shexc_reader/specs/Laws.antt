-- Laws of documents in ShExC.
use Rattle.std.specs.Prelude.{ℕ, List, IsSome, encode_utf8_all}
use Rattle.std.specs.List.{All}
use Rattle.iri_resolve.specs.Reference.{scheme_of}
use Rattle.rdf_lex.specs.Prefixes.{AreOneLine}
use Rattle.rdf_terms.specs.OneLine.{IsOneLine}
use Rattle.shexc_reader.specs.Documents.{IsDocument}
use Rattle.schema_documents.specs.Ordered.{IsOrderedDocument}
use Rattle.shexc_reader.specs.States.{State, document_in}

-- no minimum of a document that bytes spell is above its bound
abbrev pub DocumentsAreOrdered : Type 0
DocumentsAreOrdered = (base source : List ℕ) (x : State) → IsDocument base source x → IsOrderedDocument (document_in x)

-- the text of an IRI has a scheme (RFC 3986, section 3.1)
abbrev pub HasScheme : List ℕ → Type 0
HasScheme iri = IsSome (scheme_of (encode_utf8_all iri))

-- each import of a document with a base that has a scheme has one too
abbrev pub ImportsHaveSchemes : Type 0
ImportsHaveSchemes = (base source : List ℕ) (x : State) → IsSome (scheme_of base) → IsDocument base source x → All HasScheme x.imports

-- where the base is on one line, so are the base and the IRI of each prefix at the end of a document
abbrev pub NamesHaveLines : Type 0
NamesHaveLines = (base source : List ℕ) (x : State) → IsOneLine base → IsDocument base source x → AreOneLine x.scope.base x.scope.prefixes
