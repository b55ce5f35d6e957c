use Rattle.std.proofs.Common.{◌-◌, length}
use Rattle.graph_index.proofs.Stepped.{IsAhead}
use Rattle.graph_index.proofs.node_rows.block_of.Given as goal

abbrev pub invariant-loop-first : goal.invariant-loop-first
invariant-loop-first l = IsAhead l.rows l.p l.first

abbrev pub decreases-loop-first : goal.decreases-loop-first
decreases-loop-first l = length l.rows - l.first
