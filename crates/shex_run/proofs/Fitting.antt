-- What words ask for passes the checks that a call rests on.
use Rattle.std.proofs.Common.{◌≡◌, ◌≤◌, ◌∙◌, ap, sym, subst, ℕ, List, arith}
use Rattle.std.specs.Prelude.{Option, Some, None, codes}
use Rattle.clap.specs.Words.{Row, Text, first_of}
use Rattle.command_words.specs.Asked.{Command, IsAsked}
use Rattle.input_names.specs.Names.{is_base}
use Rattle.command_words.specs.Commands.{rows}
use Rattle.command_words.specs.Requests.{IsBudget, IsTask, Task, checking, command_for, max_budget, upgrading, validation}
use Rattle.shex_run.specs.Stopping.{IsFit}

-- a budget is from 1 to the greatest one
budget_within : (given : Option Text) (n : ℕ) → IsBudget given n → (1 ≤ n) × (n ≤ max_budget)
budget_within None n is = subst (λ k. (1 ≤ k) × (k ≤ max_budget)) (sym is) (omega arith, omega arith)
budget_within (Some text) n is = (is.1, is.2)

of_task : (found : List Row) (t : Task) → IsTask found t → (m : Text) (p : Option Text) (n : ℕ) → t ≡ validation m p n → (1 ≤ n) × (n ≤ max_budget)
of_task found (validation a b k) asked m p n same =
    let one : k ≡ n = cc in
    subst (λ j. (1 ≤ j) × (j ≤ max_budget)) one (budget_within (first_of (codes "budget") found) k asked.is_budget)
of_task found (checking name) asked m p n same = cc
of_task found (upgrading name to) asked m p n same = cc

pub fit : (words : List Text) (c : Command) → IsAsked words c → IsFit c
fit words c is = record {
  schema = ap (λ (k : Command). is_base k.schema_base) is.leads ∙ is.passes.bases.schema;
  data_file = ap (λ (k : Command). is_base k.data_base) is.leads ∙ is.passes.bases.data_file;
  budget = λ m p n task. of_task (rows (command_for is.request.task) is.asks.behind) is.request.task is.asks.found.asked m p n (sym (ap (λ (k : Command). k.task) is.leads) ∙ task);
}
