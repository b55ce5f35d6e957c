-- What the code holds of the documents that were read.
use Rattle.std.specs.Prelude.{ℕ, List, [], ◌∷◌, ◌++◌, ◌≡◌, All, Option, Some, None, drop, map, take, true}
use Rattle.input_names.specs.Lent.{import_of}
use Rattle.proof_file.specs.declared.head.Digest256.{Digest256}
use Rattle.schema_documents.specs.Tree.{Document, document_of}
use Rattle.schema_reader.specs.Documents.{read_of}
use Rattle.shex_io.specs.Files.{Told}
use Rattle.schema_files.specs.declared.asked.Asked.{Asked as LentAsked}
use Rattle.schema_files.specs.declared.held.Held.{Held}
use Rattle.schema_files.specs.Named.{Asked, base_for, file_for}
use Rattle.schema_files.specs.Sources.{AreRead, AreSources, Import, Source, imports_of, is_read}

-- what is asked
abbrev pub asked_of : LentAsked → Asked
asked_of a = record { root = a.root.now; base = a.base.now; words = map import_of a.words.now }

-- a document that was read under the base of its file, with the digest of its bytes
abbrev pub source_of : Asked → Held → Source
source_of a h = record { file = h.file; base = base_for a h.file; read = read_of h.parsed; digest = h.digest }

abbrev pub sources_of : Asked → List Held → List Source
sources_of a held = map (source_of a) held

abbrev pub held_document : Held → Document
held_document h = document_of h.parsed.doc

abbrev pub digests_of : List Held → List Digest256
digests_of held = map (λ h. h.digest) held

-- the documents were read so
abbrev pub WereRead : Told → LentAsked → List Held → Type 0
WereRead told asked held = AreRead told (asked_of asked) (sources_of (asked_of asked) held)

-- and all that they import was read
abbrev pub AreAll : Told → LentAsked → List Held → Type 0
AreAll told asked held = AreSources told (asked_of asked) (sources_of (asked_of asked) held)

-- the imports of the document at a place
abbrev pub imports_at : List Source → ℕ → List Import
imports_at ss at = imports_of (take 1 (drop at ss))

-- all imports of the documents before a place, and the first so many of the document there
abbrev pub imports_before : List Source → ℕ → ℕ → List Import
imports_before ss at number = imports_of (take at ss) ++ take number (imports_at ss at)

-- the file that a word names for each import was read
abbrev pub AreFollowed : Asked → List Source → List Import → Type 0
AreFollowed a ss is = All (λ i. is_read a ss (file_for a.words i.iri) ≡ true) is

-- the file that a word names for this import of the documents was read
abbrev pub IsFollowed : LentAsked → List Held → List ℕ → Type 0
IsFollowed asked held iri = is_read (asked_of asked) (sources_of (asked_of asked) held) (file_for (asked_of asked).words iri) ≡ true

-- all imports before this place are followed
abbrev pub AreFollowedTo : LentAsked → List Held → ℕ → ℕ → Type 0
AreFollowedTo asked held at number = AreFollowed (asked_of asked) (sources_of (asked_of asked) held) (imports_before (sources_of (asked_of asked) held) at number)

-- all imports before this one are followed
pub record ComesTo (a : Asked) (ss : List Source) (i : Import) : Type 0 where
  pub front : List Import
  pub back : List Import
  pub whole : imports_of ss ≡ front ++ i ∷ back
  pub followed : AreFollowed a ss front

-- the documents with one more
abbrev pub and_next : List Held → Option Held → List Held
and_next held None = held
and_next held (Some h) = held ++ h ∷ []
