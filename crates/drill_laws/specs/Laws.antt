-- A drill can be answered, however many items it has.
use Rattle.std.specs.Prelude.{ℕ, ◌≤◌, Contains}
use Rattle.command_words.specs.Requests.{default_budget}
use Rattle.schema_tree.specs.Needs.{IsDecided}
use Rattle.shape_map.specs.declared.resolve.Association.{Association}
use Rattle.shex_drill.specs.Files.{drill_told}
use Rattle.shex_inputs.specs.Asked.{IsAskedOf, Question}
use Rattle.shex_inputs.specs.Refusals.{IsRefused}
use Rattle.shex_inputs.specs.declared.error.Refusal.{Refusal}
use Rattle.drill_laws.specs.Inputs.{drill_inputs}

-- none of its texts is refused
abbrev pub DrillIsTaken : Type 0
DrillIsTaken = (n : ℕ) → 1 ≤ n → n ≤ 100000 → (refusal : Refusal) → ¬ IsRefused (drill_told n) drill_inputs refusal

-- no association depends on a pair whose Width is above the budget where none is given
abbrev pub DrillIsDecided : Type 0
DrillIsDecided =
    (n : ℕ) → 1 ≤ n → n ≤ 100000 → (q : Question) → IsAskedOf (drill_told n) drill_inputs q →
    (a : Association) → Contains q.associations a → IsDecided q.held.schema q.terms q.held.graph default_budget a.node a.expr
