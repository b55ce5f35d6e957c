use Rattle.shard_checks.proofs.Covering.{covers_are_enough}
use Rattle.shard_checks.proofs.laws.covers_are_enough.Goals as goal

pub returns : goal.returns
returns c = covers_are_enough
