use Rattle.std.proofs.Common.{◌∙◌, ap}
use Rattle.schema_reader.specs.Formats.{format_of}
use Rattle.schema_files.specs.Held.{asked_of}
use Rattle.schema_files.proofs.Steps.{document_stops}
use Rattle.schema_files.proofs.document.read_file.Goals as goal

pub returns-clause-cause : goal.returns-clause-cause
returns-clause-cause g c =
    document_stops (g.F.Files.told c.args.files.now)
    (asked_of c.args.asked.now) c.args.file c.in-Err.error c.document_error.result c.of_name-format.result c.base.result.now c.as_slice.result.now c.in_ok-bytes.bytes.items
    (c.of_name-format.ensures ∙ ap format_of c.name.ensures) c.base.ensures c.as_slice.ensures.value c.document_error.ensures c.in_ok-bytes.ensures.bytes c.in-Err.ensures.refused c.in-Err.ensures.none
