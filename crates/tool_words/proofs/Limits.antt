-- A limit that is given is a number as budgets are.
use Rattle.std.proofs.Common.{◌≡◌, ℕ}
use Rattle.std.specs.Prelude.{Option, Some, None, option_map}
use Rattle.clap.specs.Words.{Text}
use Rattle.command_words.specs.Requests.{IsBudget}
use Rattle.tool_words.specs.Requests.{IsLimit}

pub is_budget : {B : Type 0} (f : B → Text) (value : Option B) (b : B) (n : ℕ) → value ≡ Some b → IsLimit (option_map f value) n → IsBudget (option_map f value) n
is_budget f None b n is h = absurd cc
is_budget f (Some a) b n is h = h
