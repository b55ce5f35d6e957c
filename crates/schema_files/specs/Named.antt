-- The files of a schema, by their names.
use Rattle.std.specs.Prelude.{ℕ, List, [], Option, get_or, map, option_map}
use Rattle.std.specs.List.{position}
use Rattle.std.specs.Str.{bytes_eq}
use Rattle.input_names.specs.Names.{Import}
use Rattle.schema_files.specs.declared.error.SchemaFile.{SchemaFile}
use Rattle.schema_files.specs.declared.error.SchemaFile.TheVariants.{Root, Imported}
use Rattle.schema_files.specs.declared.error.FilesRefusal.{FilesRefusal}
use Rattle.schema_files.specs.declared.error.FilesRefusal.TheVariants as refusals

-- the name of the schema's file, the base of its document, and the import words
pub record Asked : Type 0 where
  pub root : List ℕ
  pub base : List ℕ
  pub words : List Import

-- the name of a file, by that of the schema's own file and the import words
abbrev pub file_named : List ℕ → List Import → SchemaFile → List ℕ
file_named root words Root = root
file_named root words (Imported n) = get_or (map (λ w. w.file) words) n []

abbrev pub name_of : Asked → SchemaFile → List ℕ
name_of a file = file_named a.root a.words file

-- the base of the document in a file: that of the schema, and the IRI of the import word
abbrev pub base_for : Asked → SchemaFile → List ℕ
base_for a Root = a.base
base_for a (Imported n) = get_or (map (λ w. w.iri) a.words) n []

-- the file of the first word with this IRI
abbrev pub file_for : List Import → List ℕ → Option SchemaFile
file_for words iri = option_map (λ n. Imported n) (position (λ w. bytes_eq w.iri iri) words)

-- the file that is refused; where no word names a file for an import, that of the document which imports
abbrev pub file_of : FilesRefusal → SchemaFile
file_of (refusals.Size file) = file
file_of (refusals.Document file e) = file
file_of (refusals.Import file iri) = file
