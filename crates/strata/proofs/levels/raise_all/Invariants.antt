use Rattle.strata.proofs.Passing.{IsPassing}
use Rattle.strata.proofs.levels.raise_all.Given as goal

abbrev pub invariant-loop-arc : goal.invariant-loop-arc
invariant-loop-arc l = IsPassing l.s l.arcs l.arc-index l.fn.levels.items l.levels.items l.pass
