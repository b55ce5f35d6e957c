-- What words ask for passes the checks that a call rests on.
use Rattle.std.proofs.Common.{◌≤◌, ◌∙◌, ap, sym, subst, ℕ, List, arith}
use Rattle.std.specs.Prelude.{Option, Some, None, codes}
use Rattle.clap.specs.Words.{Text, first_of}
use Rattle.input_names.specs.Names.{Inputs, is_base}
use Rattle.command_words.specs.Commands.{rows}
use Rattle.command_words.specs.Requests.{IsBudget, max_budget}
use Rattle.tool_words.specs.Asked.{Following, IsToolCall, ToolCall, of_cover, of_labels, of_lines, of_nodes, of_reasons, of_schema, of_shards, of_ways}
use Rattle.tool_words.specs.Commands.{explain, extents}
use Rattle.tool_words.specs.Requests.{Converting, Lining}
use Rattle.shex_tools.specs.Stopping.{IsFit}

-- a budget is at most the greatest
budget_within : (given : Option Text) (n : ℕ) → IsBudget given n → n ≤ max_budget
budget_within None n is = subst (λ k. k ≤ max_budget) (sym is) (omega arith)
budget_within (Some text) n is = is.2

pub fit : (words : List Text) (call : ToolCall) → IsToolCall words call → IsFit call
fit words (of_schema c) is =
    ap (λ (k : Converting). is_base k.schema_base) is.holds.passes.leads ∙ is.holds.passes.schema_base
fit words (of_labels l) is = (
  ap (λ (k : Inputs). is_base k.schema_base) is.holds.passes.inputs.leads ∙ is.holds.passes.inputs.passes.schema,
  ap (λ (k : Inputs). is_base k.data_base) is.holds.passes.inputs.leads ∙ is.holds.passes.inputs.passes.data_file,
  subst (λ n. n ≤ max_budget) (sym is.holds.passes.budget) (budget_within (first_of (codes "budget") (rows extents is.behind)) is.holds.request.budget is.holds.asks.found.is_budget),
)
fit words (of_reasons e) is = (
  ap (λ (k : Inputs). is_base k.schema_base) is.holds.passes.inputs.leads ∙ is.holds.passes.inputs.passes.schema,
  ap (λ (k : Inputs). is_base k.data_base) is.holds.passes.inputs.leads ∙ is.holds.passes.inputs.passes.data_file,
  subst (λ n. n ≤ max_budget) (sym is.holds.passes.budget)
      (budget_within (first_of (codes "budget") (rows explain is.behind)) is.holds.request.budgeted.budget is.holds.asks.found.budgeted.is_budget),
)
fit words (of_shards (of_lines l)) is = ap (λ (k : Lining). is_base k.data_base) is.holds.passes.leads ∙ is.holds.passes.data_base
fit words (of_shards (of_ways f)) is = ap (λ (k : Following). is_base k.schema_base) is.holds.passes.leads ∙ is.holds.passes.schema_base
fit words (of_shards (of_nodes r)) is = (
  ap (λ (k : Inputs). is_base k.schema_base) is.holds.passes.inputs.leads ∙ is.holds.passes.inputs.passes.schema,
  ap (λ (k : Inputs). is_base k.data_base) is.holds.passes.inputs.leads ∙ is.holds.passes.inputs.passes.data_file,
)
fit words (of_shards (of_cover c)) is = tt
