use Rattle.std.proofs.Common.{◌<◌, ℕ, get_or}
use Rattle.strata.specs.Arcs.{IsLow}
use Rattle.strata.specs.declared.edges.Arc.{Arc}
use Rattle.strata.proofs.valid.all_fall.Given as goal

abbrev pub invariant-loop-arc : goal.invariant-loop-arc
invariant-loop-arc l = (k : ℕ) (d : Arc) → k < l.arc-index → ¬ IsLow l.levels (get_or l.arcs k d)
