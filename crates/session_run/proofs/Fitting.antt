-- What words ask for passes the checks that a call rests on.
use Rattle.std.proofs.Common.{◌≤◌, ◌∙◌, ap, sym, subst, ℕ, List, arith}
use Rattle.std.specs.Prelude.{Option, Some, None, codes}
use Rattle.clap.specs.Words.{Text, first_of}
use Rattle.input_names.specs.Names.{Inputs, is_base}
use Rattle.command_words.specs.Commands.{rows}
use Rattle.command_words.specs.Requests.{IsBudget, max_budget}
use Rattle.tool_words.specs.Asked.{Editing, IsEditing}
use Rattle.tool_words.specs.Commands.{session}
use Rattle.session_run.specs.Stopping.{IsFit}

-- a budget is at most the greatest
budget_within : (given : Option Text) (n : ℕ) → IsBudget given n → n ≤ max_budget
budget_within None n is = subst (λ k. k ≤ max_budget) (sym is) (omega arith)
budget_within (Some text) n is = is.2

pub fit : (words : List Text) (e : Editing) → IsEditing words e → IsFit e
fit words e is = record {
  schema = ap (λ (k : Inputs). is_base k.schema_base) is.passes.inputs.leads ∙ is.passes.inputs.passes.schema;
  data_file = ap (λ (k : Inputs). is_base k.data_base) is.passes.inputs.leads ∙ is.passes.inputs.passes.data_file;
  budget = subst (λ n. n ≤ max_budget) (sym is.passes.budget) (budget_within (first_of (codes "budget") (rows session words)) is.request.budgeted.budget is.asks.found.budgeted.is_budget);
}
