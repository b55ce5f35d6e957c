-- Numbers that are no budget.
use Rattle.std.proofs.Common.{◌≡◌, ℕ, ◌<◌, ◌≤◌, ◌^◌, sym, ◌∙◌, arith, subst}
use Rattle.std.specs.Prelude.{Option, Some, option_map}
use Rattle.std.specs.Borrow.{Bor}
use Rattle.clap.specs.Words.{Text}
use Rattle.command_words.specs.Requests.{IsBudget, max_budget}
use Rattle.std.proofs.lemmas.Fmt.{decimal_injective}
use Rattle.std.specs.Fmt.{decimal}

-- a number beyond the limits is no budget
pub no_budget : (value : Option (Bor Text)) (text : Bor Text) (m : ℕ) → value ≡ Some text → text.now ≡ decimal m → m < 2 ^ 64 → (1 ≤ m → m ≤ max_budget → ⊥) →
    (n : ℕ) → IsBudget (option_map (λ s. s.now) value) n → ⊥
no_budget value text m is e small beyond n h =
    let own_budget : IsBudget (Some text.now) n = subst (λ (o : Option (Bor Text)). IsBudget (option_map (λ s. s.now) o) n) is h in
    let low : 1 ≤ n = own_budget.1 in
    let high : n ≤ max_budget = own_budget.2 in
    let same : m ≡ n = decimal_injective m n small (omega arith) (sym e ∙ own_budget.0) in
    beyond (omega arith) (omega arith)
