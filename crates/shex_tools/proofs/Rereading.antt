-- The files of a schema that are fetched once more.
use Rattle.std.proofs.Common.{◌≡◌, subst, List, ℕ}
use Rattle.schema_files.specs.Named.{Asked}
use Rattle.schema_files.specs.Refusals.{Explains as FilesExplain, FaultsAs as FilesFaultAs}
use Rattle.schema_files.specs.declared.error.FilesError.{FilesError}
use Rattle.schema_files.specs.declared.error.FilesError.TheVariants as FilesErrors
use Rattle.schema_files.specs.declared.error.FilesRefusal.{FilesRefusal}
use Rattle.schema_files.specs.declared.error.SchemaFile.{SchemaFile}
use Rattle.shex_inputs.specs.declared.error.Source.TheVariants as Sources
use Rattle.shex_inputs.specs.Named.{asked_of}
use Rattle.shex_io.specs.Files.{Told}
use Rattle.shex_io.specs.declared.files.Act.{Act}
use Rattle.tool_words.specs.Asked.{Explaining, of_reasons}
use Rattle.shex_tools.specs.declared.stop.Unshown.TheVariants as Unshowns
use Rattle.shex_tools.specs.Calls.{inputs_of}
use Rattle.shex_tools.specs.Stopping.{LeavesUnshown}

-- a file of the schema that is not fetched once more is one to which the steps came
pub file_unshown : (told : Told) (e : Explaining) (before after : ℕ) (blame : List ℕ) (act : Act) (x : FilesError) (file : SchemaFile) → x ≡ FilesErrors.Failed file →
    FilesExplain told (asked_of (inputs_of (of_reasons e))) x → FilesFaultAs (asked_of (inputs_of (of_reasons e))) before after blame act x →
    LeavesUnshown told (of_reasons e) before after blame act (Unshowns.Failed (Sources.Schema file))
file_unshown told e before after blame act x file is why faults =
    let a : Asked = asked_of (inputs_of (of_reasons e)) in
    ((tt, subst (FilesExplain told a) is why), subst (FilesFaultAs a before after blame act) is faults)

-- where a file is refused, the count of faults stays
pub refused_still : (a : Asked) (before after : ℕ) (blame : List ℕ) (act : Act) (x : FilesError) (refusal : FilesRefusal) → x ≡ FilesErrors.Refused refusal →
    FilesFaultAs a before after blame act x → after ≡ before
refused_still a before after blame act x refusal is faults = subst (FilesFaultAs a before after blame act) is faults
