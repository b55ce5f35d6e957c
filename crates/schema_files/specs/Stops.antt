-- How the reading of one file stops.
use Rattle.std.specs.Prelude.{◌≡◌, ◌≢◌, ◌⊎◌}
use Rattle.schema_documents.specs.declared.error.SchemaError.{SchemaError}
use Rattle.schema_documents.specs.declared.error.SchemaError.TheVariants as SchemaErrors
use Rattle.schema_files.specs.declared.error.FilesError.{FilesError}
use Rattle.schema_files.specs.declared.error.FilesError.TheVariants as errors
use Rattle.schema_files.specs.declared.error.FilesRefusal.TheVariants as refusals
use Rattle.schema_files.specs.declared.error.SchemaFile.{SchemaFile}

-- the document in a file is refused for an error, unless the error is want of memory
abbrev pub IsRefusalOf : SchemaFile → SchemaError → FilesError → Type 0
IsRefusalOf file e stop = ((e ≡ SchemaErrors.Memory) × (stop ≡ errors.Memory)) ⊎ ((e ≢ SchemaErrors.Memory) × (stop ≡ errors.Refused (refusals.Document file e)))
