-- What the bytes of a schema document are, by their format.
use Rattle.std.specs.Prelude.{◌≡◌, ◌≢◌, ℕ, List, None, Result, Ok, Err, encode_utf8_all, map}
use Rattle.std.specs.Str.{chars}
use Rattle.iri_resolve.specs.Resolution.{resolved_text}
use Rattle.schema_documents.specs.Tree.{Document, document_of}
use Rattle.schema_documents.specs.declared.error.SchemaError.{SchemaError}
use Rattle.schema_documents.specs.declared.error.SchemaError.TheVariants as errors
use Rattle.shexc_reader.specs.declared.state.Parsed.{Parsed}
use Rattle.shexc_reader.specs.Documents as compact
use Rattle.shexc_reader.specs.Refusals as compact_refusals
use Rattle.shexc_reader.specs.States.{State, document_in}
use Rattle.shexj_reader.specs.Bytes.{IsCause, IsDocumentText}
use Rattle.term_tokens.specs.Scopes.{Scope, scope_of}
use Rattle.schema_reader.specs.declared.format.Format.{Format}
use Rattle.schema_reader.specs.declared.format.Format.TheVariants.{Compact, Json}

-- a document, and the base and the prefixes at its end
pub record Read : Type 0 where
  pub document : Document
  pub names : Scope

-- this base, and no prefix
abbrev pub base_alone : List ℕ → Scope
base_alone base = record { base = base; prefixes = λ prefix. None }

-- the IRI for which a reference stands under a base (RFC 3986, section 5.2); the base is given as bytes, the others as characters
abbrev pub resolved_import : List ℕ → List ℕ → List ℕ
resolved_import base reference = chars (resolved_text base (encode_utf8_all reference))

-- the document whose imports are references that are resolved against a base
abbrev pub with_base : List ℕ → Document → Document
with_base base doc = record doc { imports = map (resolved_import base) doc.imports }

-- Under this base the bytes are this document (ShEx 2.1, sections 5.1 and 6 and appendix A). One in ShExJ declares no prefixes, and its
-- imports are resolved against the base.
abbrev pub IsSchema : Format → List ℕ → Read → List ℕ → Type 0
IsSchema Compact base r bytes = (x : State) × compact.IsDocument base bytes x × (r.document ≡ document_in x) × (r.names ≡ x.scope)
IsSchema Json base r bytes = (doc : Document) × IsDocumentText doc bytes × (r.document ≡ with_base base doc) × (r.names ≡ base_alone base)

-- what the code has read
abbrev pub read_of : Parsed → Read
read_of p = record { document = document_of p.doc; names = scope_of p.prefixes }

-- this is read, unless memory ran out
abbrev pub ReadsAs : Result Parsed SchemaError → Read → Type 0
ReadsAs (Ok p) r = read_of p ≡ r
ReadsAs (Err e) r = e ≡ errors.Memory

-- what has to stand in the bytes for each refusal
abbrev pub Explains : Format → List ℕ → SchemaError → List ℕ → Type 0
Explains Compact base e bytes = compact_refusals.Explains base e bytes
Explains Json base e bytes = IsCause bytes e

-- bytes that are refused for another cause than want of memory are no document
abbrev pub AreNone : Format → List ℕ → List ℕ → SchemaError → Type 0
AreNone format base bytes e = e ≢ errors.Memory → (r : Read) → ¬ IsSchema format base r bytes
