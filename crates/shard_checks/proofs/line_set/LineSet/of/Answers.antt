use Rattle.shard_checks.proofs.Gathered.{knows_all}
use Rattle.shard_checks.proofs.line_set.LineSet.of.Goals as goal

pub returns : goal.returns
returns c = knows_all c.args.lines.items c.sort_unstable.new.self.items c.sort_unstable.ensures.permutation c.sort_unstable.ensures.sorted
