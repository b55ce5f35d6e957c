use Rattle.std.proofs.Common.{take}
use Rattle.proof_checker.specs.Stated.{AreShapedBy}
use Rattle.proof_checker.proofs.states.are_shaped.Given as goal

abbrev pub invariant-loop-state : goal.invariant-loop-state
invariant-loop-state l = AreShapedBy l.occurrences l.triples (take l.state-index l.states)
