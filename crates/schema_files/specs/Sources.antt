-- The documents of a schema, in the order in which they are read.
use Rattle.std.specs.Prelude.{ℕ, Bool, false, List, [], ◌∷◌, ◌++◌, ◌≡◌, Option, Some, None, encode_utf8_all, map, not, option_map, slice_get}
use Rattle.std.specs.List.{find, flat_map}
use Rattle.input_names.specs.Names.{is_among}
use Rattle.proof_file.specs.declared.head.Digest256.{Digest256}
use Rattle.schema_documents.specs.Tree.{Document, document_of}
use Rattle.schema_reader.specs.Documents.{IsSchema, Read}
use Rattle.schema_reader.specs.Formats.{format_of}
use Rattle.sha2.specs.Sha256.{sha256}
use Rattle.shex_io.specs.Files.{Told}
use Rattle.term_tokens.specs.Scopes.{Scope, scope_of}
use Rattle.schema_files.specs.declared.error.SchemaFile.{SchemaFile}
use Rattle.schema_files.specs.declared.error.SchemaFile.TheVariants.{Root}
use Rattle.schema_files.specs.declared.reading.Documents.{Documents}
use Rattle.schema_files.specs.declared.reading.FileDigests.{FileDigests}
use Rattle.shex_io.specs.Fetching.{IsFile}
use Rattle.schema_files.specs.Named.{Asked, file_for, name_of}

-- a document that was read: its file, the base under which it was read, what it is with the base and the prefixes at its end, and the
-- digest of its bytes
pub record Source : Type 0 where
  pub file : SchemaFile
  pub base : List ℕ
  pub read : Read
  pub digest : Digest256

-- the file holds bytes, as far as is told, that spell the document in the format of the file's name, and the digest is that of these
-- very bytes (FIPS 180-4)
pub record HoldsSource (told : Told) (a : Asked) (s : Source) : Type 0 where
  pub bytes : List ℕ
  pub is_file : IsFile told (name_of a s.file) bytes
  pub spelled : IsSchema (format_of (name_of a s.file)) s.base s.read bytes
  pub is_digest : s.digest.0 ≡ sha256 bytes

-- an import: the IRI, as bytes, and the file of the document that imports by it
pub record Import : Type 0 where
  pub by : SchemaFile
  pub iri : List ℕ

-- the imports of documents, in their order
abbrev pub imports_of : List Source → List Import
imports_of ss = flat_map (λ s. map (λ iri. record { by = s.file; iri = encode_utf8_all iri }) s.read.document.imports) ss

-- a file is that of one of the documents
abbrev pub is_read : Asked → List Source → Option SchemaFile → Bool
is_read a ss None = false
is_read a ss (Some file) = is_among (name_of a file) (map (λ s. name_of a s.file) ss)

-- the first import by an IRI for which no word names a file that was read
abbrev pub next_import : Asked → List Source → Option Import
next_import a ss = find (λ i. not (is_read a ss (file_for a.words i.iri))) (imports_of ss)

-- The documents were read so: first that of the schema's file under the schema's base, then one by one that of the first import whose
-- file was not read, under the import's IRI as its base (own)
pub data AreRead (told : Told) (a : Asked) : List Source → Type 0 where
  root :
      (r : Read) (d : Digest256) → HoldsSource told a (record { file = Root; base = a.base; read = r; digest = d }) →
      AreRead told a (record { file = Root; base = a.base; read = r; digest = d } ∷ [])
  next :
      (ss : List Source) (i : Import) (file : SchemaFile) (r : Read) (d : Digest256) → AreRead told a ss → next_import a ss ≡ Some i →
      file_for a.words i.iri ≡ Some file → HoldsSource told a (record { file = file; base = i.iri; read = r; digest = d }) →
      AreRead told a (ss ++ record { file = file; base = i.iri; read = r; digest = d } ∷ [])

-- and all that they import was read
pub record AreSources (told : Told) (a : Asked) (ss : List Source) : Type 0 where
  pub are_read : AreRead told a ss
  pub all_read : next_import a ss ≡ None

-- the digests of the bytes of documents, in their order
abbrev pub source_digests : List Source → List Digest256
source_digests ss = map (λ s. s.digest) ss

-- the digests of the files of a schema in the order of reading
abbrev pub digest_list : FileDigests → List Digest256
digest_list digests = digests.root ∷ digests.imports

-- the documents, and the base and the prefixes at the end of the first
abbrev pub documents_of : List Source → List Document
documents_of ss = map (λ s. s.read.document) ss

abbrev pub root_names : List Source → Option Scope
root_names ss = option_map (λ s. s.read.names) (slice_get ss 0)

-- what the code has read
pub record AreHeld (d : Documents) (ss : List Source) : Type 0 where
  pub documents : map document_of d.docs.items ≡ documents_of ss
  pub names : Some (scope_of d.names) ≡ root_names ss
  pub digests : digest_list d.digests ≡ source_digests ss
