use Rattle.std.proofs.Common.{◌≡◌, ◌++◌, ◌∷◌, take}
use Rattle.std.specs.List.{flat_map}
use Rattle.proof_file.specs.Text.{state_text}
use Rattle.proof_file.proofs.write.push_states.Given as goal

abbrev pub invariant-loop-state : goal.invariant-loop-state
invariant-loop-state l = l.out.items ≡ l.fn.out.items ++ flat_map (λ x. 32 ∷ state_text x) (take l.state-index l.states)
