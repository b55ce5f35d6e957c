use Rattle.std.proofs.Common.{◌≡◌, ◌++◌, drop}
use Rattle.explanations.specs.Blocks.{fitting, fitting_from}
use Rattle.explanations.proofs.explaining.fitting.Given as goal

abbrev pub invariant-loop-i : goal.invariant-loop-i
invariant-loop-i l = l.numbers.items ++ fitting_from l.i l.node l.triple (drop l.i l.occs) ≡ fitting l.node l.triple l.occs
