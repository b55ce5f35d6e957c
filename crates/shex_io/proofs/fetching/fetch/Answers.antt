use Rattle.shex_io.proofs.Fetched.{fetch_stops}
use Rattle.shex_io.proofs.fetching.fetch.Goals as goal

pub returns-clause-stops : goal.returns-clause-stops
returns-clause-stops g c =
    fetch_stops (g.F.Files.told c.args.files.now) c.args.name.now (g.F.Files.taken c.fetch.new.self) (g.F.Files.faults c.args.files.now)
    (g.F.Files.faults c.fetch.new.self) (g.F.Files.blame c.fetch.new.self) (g.F.Files.act c.fetch.new.self)
    c.fetch.result c.fetch.ensures.failed c.fetch.ensures.never_falls c.fetch.ensures.blamed c.fetch.ensures.acted c.fetch.ensures.taken_part c.fetch.ensures.long c.fetch.ensures.faults_stay
