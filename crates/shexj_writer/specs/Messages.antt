-- What is printed of a document that is not written.
use Rattle.std.specs.Prelude.{ℕ, List, codes}
use Rattle.shexj_writer.specs.declared.error.WriteError.{WriteError}
use Rattle.shexj_writer.specs.declared.error.WriteError.TheVariants as Errors

-- why a document is not written
abbrev pub write_text : WriteError → List ℕ
write_text Errors.FacetNumber = codes "FacetNumber"
write_text Errors.Deep = codes "Deep"
write_text Errors.Memory = codes "Memory"
