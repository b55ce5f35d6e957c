use Rattle.std.proofs.Common.{take}
use Rattle.std.specs.Prelude.{Contains}
use Rattle.schema_tree.specs.declared.verdicts.State.{State}
use Rattle.proof_checker.specs.Stated.{IsSettled}
use Rattle.proof_checker.proofs.states.Listing.is_layer_settled.Given as goal

abbrev pub invariant-loop-state : goal.invariant-loop-state
invariant-loop-state g l =
    (x : State) → Contains (take l.state-index l.layer.states.now) x →
    IsSettled (g.J.Judge.hold l.self.judge.now) (g.J.Judge.fail l.self.judge.now) l.self.shape.now l.self.node l.self.triples.now l.self.states.now x
