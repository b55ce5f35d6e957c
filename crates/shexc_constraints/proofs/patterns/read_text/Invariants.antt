use Rattle.std.proofs.Common.{length}
use Rattle.shexc_constraints.proofs.Unescaping.{Comes}
use Rattle.shexc_constraints.proofs.patterns.read_text.Given as goal

abbrev pub invariant-loop-rest : goal.invariant-loop-rest
invariant-loop-rest l = Comes l.text l.out.items l.rest

abbrev pub decreases-loop-rest : goal.decreases-loop-rest
decreases-loop-rest l = length l.rest
