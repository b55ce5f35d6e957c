use Rattle.tool_words.specs.Lent.{shard_call_of}
use Rattle.shex_tools.proofs.Stopped.{shards_explain, shards_faults}
use Rattle.shex_tools.proofs.sharding.answer_shards.Goals as goal

pub returns-in-Err-clause-cause : goal.returns-in-Err-clause-cause
returns-in-Err-clause-cause g c =
    shards_explain (g.F.Files.told c.args.files.now) (shard_call_of c.args.call.now) c.in-Err.error c.shard_stop.result c.in-Err.ensures.cause c.shard_stop.ensures

pub returns-in-Err-clause-faults : goal.returns-in-Err-clause-faults
returns-in-Err-clause-faults g c =
    shards_faults (shard_call_of c.args.call.now) (g.F.Files.faults c.args.files.now) (g.F.Files.faults c.answer.new.files)
    (g.F.Files.blame c.answer.new.files) (g.F.Files.act c.answer.new.files) c.in-Err.error c.shard_stop.result c.in-Err.ensures.faults c.shard_stop.ensures

pub returns-in-Ok-clause-answer : goal.returns-in-Ok-clause-answer
returns-in-Ok-clause-answer g c = (c.in-Ok.ensures.answer, c.in-Ok.ensures.notes)
