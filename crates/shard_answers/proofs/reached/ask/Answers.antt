use Rattle.tool_words.specs.Asked.{of_nodes}
use Rattle.tool_words.specs.Lent.{reaching_of}
use Rattle.shard_answers.proofs.Stopping.{input_faults, nodes_explain}
use Rattle.shard_answers.proofs.reached.ask.Goals as goal

pub read_map-requires-clause-taken : goal.read_map-requires-clause-taken
read_map-requires-clause-taken g c = c.requires.taken

pub returns-in-Err-clause-cause : goal.returns-in-Err-clause-cause
returns-in-Err-clause-cause g c =
    nodes_explain (g.F.Files.told c.args.files.now) (reaching_of c.args.reaching.now) c.in-Err.error c.stop_of.result c.in-Err.ensures.cause c.stop_of.ensures

pub returns-in-Err-clause-faults : goal.returns-in-Err-clause-faults
returns-in-Err-clause-faults g c =
    input_faults (of_nodes (reaching_of c.args.reaching.now)) (g.F.Files.faults c.args.files.now) (g.F.Files.faults c.read_map.new.files)
    (g.F.Files.blame c.read_map.new.files) (g.F.Files.act c.read_map.new.files) c.in-Err.error c.stop_of.result c.in-Err.ensures.faults c.stop_of.ensures
