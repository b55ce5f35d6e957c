use Rattle.std.proofs.Common.{◌≡◌, take}
use Rattle.std.specs.Prelude.{Contains}
use Rattle.schema_tree.specs.declared.verdicts.State.{State}
use Rattle.proof_checker.proofs.states.layer_len.Given as goal

abbrev pub invariant-loop-i : goal.invariant-loop-i
invariant-loop-i l = (x : State) → Contains (take l.i l.states) x → x.done ≡ l.done
