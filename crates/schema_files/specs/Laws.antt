-- What files that are told hold is one thing. Each law is claimed by a function of `src/laws.rt`.
use Rattle.std.specs.Prelude.{ℕ, List, ◌≡◌, Option, Some}
use Rattle.schema_files.specs.declared.error.FilesRefusal.{FilesRefusal}
use Rattle.schema_files.specs.declared.error.SchemaFile.{SchemaFile}
use Rattle.schema_files.specs.Named.{Asked, file_of}
use Rattle.schema_files.specs.Refusals.{IsAbsent, IsRefused}
use Rattle.schema_files.specs.Sources.{AreSources, Source}

-- the documents of a schema are one list
abbrev pub SourcesAreOne : Type 0
SourcesAreOne =
    (contents : List ℕ → Option (List ℕ)) (a : Asked) (ss others : List Source) → AreSources (Some contents) a ss → AreSources (Some contents) a others → ss ≡ others

-- where they are read, no file is refused or absent
abbrev pub ReadIsNotLeft : Type 0
ReadIsNotLeft =
    (contents : List ℕ → Option (List ℕ)) (a : Asked) (ss : List Source) → AreSources (Some contents) a ss →
    ((refusal : FilesRefusal) → ¬ IsRefused (Some contents) a refusal) × ((file : SchemaFile) → ¬ IsAbsent (Some contents) a file)

-- a file that is refused is the only one, and none is absent
abbrev pub RefusedIsOne : Type 0
RefusedIsOne =
    (contents : List ℕ → Option (List ℕ)) (a : Asked) (refusal : FilesRefusal) → IsRefused (Some contents) a refusal →
    ((other : FilesRefusal) → IsRefused (Some contents) a other → file_of refusal ≡ file_of other) × ((file : SchemaFile) → ¬ IsAbsent (Some contents) a file)
