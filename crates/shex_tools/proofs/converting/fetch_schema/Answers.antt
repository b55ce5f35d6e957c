use Rattle.tool_words.specs.Lent.{converting_of}
use Rattle.shex_tools.proofs.Stopped.{fetch_explains}
use Rattle.shex_tools.proofs.converting.fetch_schema.Goals as goal

pub returns-in-Err-clause-cause : goal.returns-in-Err-clause-cause
returns-in-Err-clause-cause g c =
    fetch_explains (g.F.Files.told c.args.files.now) (converting_of c.args.converting.now) (g.F.Files.faults c.args.files.now)
    (g.F.Files.faults c.fetch.new.files) (g.F.Files.blame c.fetch.new.files) (g.F.Files.act c.fetch.new.files)
    c.in-Err.error c.fetch_stop.result c.in-Err.ensures.stops c.fetch_stop.ensures
