use Rattle.tool_words.specs.Asked.{of_reasons}
use Rattle.tool_words.specs.Lent.{explaining_of}
use Rattle.shex_tools.proofs.Stopped.{asking_explains, input_faults}
use Rattle.shex_tools.proofs.explaining.hold.Goals as goal

pub returns-in-Ok-clause-taken : goal.returns-in-Ok-clause-taken
returns-in-Ok-clause-taken g c = let held = c.in-Ok.ensures.taken c.args.explaining.now.map.now in (held.files, held.taken)

pub returns-in-Err-clause-cause : goal.returns-in-Err-clause-cause
returns-in-Err-clause-cause g c =
    asking_explains (g.F.Files.told c.args.files.now) (explaining_of c.args.explaining.now) c.in-Err.error c.stop_of.result
    (c.in-Err.ensures.cause c.args.explaining.now.map.now) c.stop_of.ensures

pub returns-in-Err-clause-faults : goal.returns-in-Err-clause-faults
returns-in-Err-clause-faults g c =
    input_faults (of_reasons (explaining_of c.args.explaining.now)) (g.F.Files.faults c.args.files.now) (g.F.Files.faults c.read_holding.new.files)
    (g.F.Files.blame c.read_holding.new.files) (g.F.Files.act c.read_holding.new.files) c.in-Err.error c.stop_of.result
    (c.in-Err.ensures.faults c.args.explaining.now.map.now) c.stop_of.ensures
