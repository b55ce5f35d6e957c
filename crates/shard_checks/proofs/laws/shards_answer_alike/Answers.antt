use Rattle.shard_checks.proofs.Covering.{shards_answer_alike}
use Rattle.shard_checks.proofs.laws.shards_answer_alike.Goals as goal

pub returns : goal.returns
returns c = shards_answer_alike c.parts_answer_for_the_whole.ensures.alike
