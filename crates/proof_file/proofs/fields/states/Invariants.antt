use Rattle.std.proofs.Common.{◌≡◌, ◌++◌, map}
use Rattle.std.specs.List.{AllByRecursion}
use Rattle.proof_file.specs.Reading.{fields_left, measure}
use Rattle.proof_file.specs.Text.{state_text, IsState}
use Rattle.proof_file.proofs.fields.states.Given as goal

abbrev pub invariant-loop-left : goal.invariant-loop-left
invariant-loop-left l = record { joined : map state_text l.states.items ++ fields_left 32 l.left ≡ fields_left 32 l.fn.text; good : AllByRecursion IsState l.states.items }

abbrev pub decreases-loop-left : goal.decreases-loop-left
decreases-loop-left l = measure l.left
