use Rattle.std.proofs.Common.{length}
use Rattle.json_paths.proofs.changes.+with_at.Given as goal

abbrev pub decreases-with_at : goal.decreases-with_at
decreases-with_at l = length l.path.now
