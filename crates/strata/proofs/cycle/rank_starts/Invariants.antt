use Rattle.std.proofs.Common.{◌<◌, ◌≤◌, ℕ, get_or, length}
use Rattle.schema_tree.specs.Edges.{level}
use Rattle.strata.specs.Arcs.{AreFound, HaveRisen}
use Rattle.strata.specs.declared.edges.Arc.{Arc}
use Rattle.strata.proofs.cycle.rank_starts.Given as goal

abbrev pub invariant-loop-arc : goal.invariant-loop-arc
invariant-loop-arc l = record {
  found : AreFound l.s l.arcs l.fn.goal l.ranks.items l.found.items;
  more : length l.fn.found.items ≤ length l.found.items;
  risen : HaveRisen (length l.fn.found.items) l.fn.ranks.items l.ranks.items;
  has : (k : ℕ) (d : Arc) → k < l.arc-index → 0 < level l.ranks.items (get_or l.leading k d).from;
}
