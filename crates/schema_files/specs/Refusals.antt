-- Why the documents of a schema are not read.
use Rattle.std.specs.Prelude.{ℕ, List, ◌≡◌, ◌≢◌, Some, None, ⊤, encode_utf8_all}
use Rattle.schema_documents.specs.declared.error.SchemaError.{SchemaError}
use Rattle.schema_documents.specs.declared.error.SchemaError.TheVariants as SchemaErrors
use Rattle.schema_reader.specs.Documents.{Explains as ReaderExplains, IsSchema, Read}
use Rattle.schema_reader.specs.Formats.{format_of}
use Rattle.shex_io.specs.Files.{Lacks, Told}
use Rattle.shex_io.specs.declared.files.Act.{Act}
use Rattle.schema_files.specs.declared.error.FilesError.{FilesError}
use Rattle.schema_files.specs.declared.error.FilesError.TheVariants as errors
use Rattle.schema_files.specs.declared.error.FilesRefusal.{FilesRefusal}
use Rattle.schema_files.specs.declared.error.FilesRefusal.TheVariants as refusals
use Rattle.schema_files.specs.declared.error.SchemaFile.{SchemaFile}
use Rattle.schema_files.specs.declared.error.SchemaFile.TheVariants.{Root}
use Rattle.shex_io.specs.Fetching.{HasFailed, IsFile, IsTooLong}
use Rattle.schema_files.specs.Named.{Asked, file_for, name_of}
use Rattle.schema_files.specs.Sources.{AreRead, Import, Source, next_import}

-- the reading comes to a file, whose document has this base: the schema's own first, then that of the next import
pub data IsNext (told : Told) (a : Asked) : SchemaFile → List ℕ → Type 0 where
  root : IsNext told a Root a.base
  imported : (ss : List Source) (i : Import) (file : SchemaFile) → AreRead told a ss → next_import a ss ≡ Some i → file_for a.words i.iri ≡ Some file → IsNext told a file i.iri

abbrev pub Reaches : Told → Asked → SchemaFile → Type 0
Reaches told a file = (base : List ℕ) × IsNext told a file base

-- the next file is told to be absent
abbrev pub IsAbsent : Told → Asked → SchemaFile → Type 0
IsAbsent told a file = Reaches told a file × Lacks told (name_of a file)

-- the bytes of the next file, within the limit, have this cause, and they spell no document
pub record IsNoDocument (told : Told) (a : Asked) (file : SchemaFile) (e : SchemaError) : Type 0 where
  pub base : List ℕ
  pub next : IsNext told a file base
  pub bytes : List ℕ
  pub is_file : IsFile told (name_of a file) bytes
  pub apart : e ≢ SchemaErrors.Memory
  pub cause : ReaderExplains (format_of (name_of a file)) base e bytes
  pub none : (r : Read) → ¬ IsSchema (format_of (name_of a file)) base r bytes

-- no word names a file for the next import
pub record LacksWord (told : Told) (a : Asked) (i : Import) : Type 0 where
  pub sources : List Source
  pub are_read : AreRead told a sources
  pub next : next_import a sources ≡ Some i
  pub missing : file_for a.words i.iri ≡ None

-- the first thing that is not taken is refused for this
abbrev pub IsRefused : Told → Asked → FilesRefusal → Type 0
IsRefused told a (refusals.Size file) = Reaches told a file × IsTooLong told (name_of a file)
IsRefused told a (refusals.Document file e) = IsNoDocument told a file e
IsRefused told a (refusals.Import file iri) = LacksWord told a (record { by = file; iri = encode_utf8_all iri })

-- why the documents are not read: a file is refused, or the reading came to one that was not fetched, or memory ran out
abbrev pub Explains : Told → Asked → FilesError → Type 0
Explains told a (errors.Refused refusal) = IsRefused told a refusal
Explains told a (errors.Failed file) = Reaches told a file
Explains told a errors.Memory = ⊤

-- what a call that stops does to the count of faults of the files: it rises where a fetch failed, which is then named, and else stays
abbrev pub FaultsAs : Asked → ℕ → ℕ → List ℕ → Act → FilesError → Type 0
FaultsAs a before after blame act (errors.Failed file) = HasFailed (name_of a file) before after blame act
FaultsAs a before after blame act (errors.Refused refusal) = after ≡ before
FaultsAs a before after blame act errors.Memory = after ≡ before
