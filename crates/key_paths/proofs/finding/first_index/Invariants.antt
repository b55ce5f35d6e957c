use Rattle.std.proofs.Common.{◌-◌}
use Rattle.key_paths.proofs.finding.first_index.Given as goal

abbrev pub decreases-loop-low : goal.decreases-loop-low
decreases-loop-low l = l.high - l.low
