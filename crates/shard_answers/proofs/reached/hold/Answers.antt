use Rattle.tool_words.specs.Asked.{of_nodes}
use Rattle.tool_words.specs.Lent.{reaching_of}
use Rattle.shard_answers.proofs.Stopping.{input_faults, nodes_explain}
use Rattle.shard_answers.proofs.reached.hold.Goals as goal

pub returns-in-Ok-clause-taken : goal.returns-in-Ok-clause-taken
returns-in-Ok-clause-taken g c = let held = c.in-Ok.ensures.taken c.args.reaching.now.map.now in (held.files, held.taken)

pub returns-in-Err-clause-cause : goal.returns-in-Err-clause-cause
returns-in-Err-clause-cause g c =
    nodes_explain (g.F.Files.told c.args.files.now) (reaching_of c.args.reaching.now) c.in-Err.error c.stop_of.result (c.in-Err.ensures.cause c.args.reaching.now.map.now) c.stop_of.ensures

pub returns-in-Err-clause-faults : goal.returns-in-Err-clause-faults
returns-in-Err-clause-faults g c =
    input_faults (of_nodes (reaching_of c.args.reaching.now)) (g.F.Files.faults c.args.files.now) (g.F.Files.faults c.read_holding.new.files)
    (g.F.Files.blame c.read_holding.new.files) (g.F.Files.act c.read_holding.new.files) c.in-Err.error c.stop_of.result (c.in-Err.ensures.faults c.args.reaching.now.map.now) c.stop_of.ensures
