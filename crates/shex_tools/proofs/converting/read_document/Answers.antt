use Rattle.tool_words.specs.Lent.{converting_of}
use Rattle.shex_tools.proofs.Stopped.{base_scheme, document_explains}
use Rattle.shex_tools.proofs.converting.read_document.Goals as goal

pub read_bytes-requires : goal.read_bytes-requires
read_bytes-requires g c = base_scheme c.args.converting.now.schema_base.now c.requires

pub returns-clause-cause : goal.returns-clause-cause
returns-clause-cause g c =
    document_explains (g.F.Files.told c.args.files.now)
    (converting_of c.args.converting.now) c.of_name-format.result c.in_ok-bytes.bytes.items c.as_slice.result.now c.in-Err.error c.document_stop.result
    c.in_ok-bytes.ensures.bytes c.of_name-format.ensures c.as_slice.ensures.value c.in-Err.ensures.refused c.in-Err.ensures.none c.document_stop.ensures
