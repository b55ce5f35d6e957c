use Rattle.std.proofs.Common.{◌≡◌, ◌++◌, drop}
use Rattle.xs_pattern.specs.Marked.{lasts}
use Rattle.xs_pattern.specs.Way.{way_of}
use Rattle.xs_pattern.proofs.words.fill_ends.Given as goal

abbrev pub invariant-loop-position : goal.invariant-loop-position
invariant-loop-position l = l.ends.items ++ drop l.position (lasts l.edge (way_of l.way)) ≡ lasts l.edge (way_of l.way)
