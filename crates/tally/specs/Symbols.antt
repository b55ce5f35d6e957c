-- Which symbols stand in an expression.
use Rattle.std.specs.Prelude.{ℕ, Bool, true, false, ◌||◌, ◌≡◌, ◌<◌, ◌≤◌, nat_eq, ⊤}
use Rattle.tally.specs.Plan.{Plan, sym, each, one, many, Plans, no_plans, more_plans}

abbrev mutual
  -- the symbol stands in the expression
  pub has_symbol : ℕ → Plan → Bool
  has_symbol i (sym j) = nat_eq j i
  has_symbol i (each ps) = some_has i ps
  has_symbol i (one ps) = some_has i ps
  has_symbol i (many min bound c) = has_symbol i c

  -- the symbol stands in some member
  pub some_has : ℕ → Plans → Bool
  some_has i no_plans = false
  some_has i (more_plans p ps) = has_symbol i p || some_has i ps

unfoldable mutual
  -- each symbol stands at most once
  pub IsDistinct : Plan → Type 0
  IsDistinct (sym i) = ⊤
  IsDistinct (each ps) = AreDistinct ps
  IsDistinct (one ps) = AreDistinct ps
  IsDistinct (many n bound p) = IsDistinct p

  -- each symbol stands at most once in all members together
  pub AreDistinct : Plans → Type 0
  AreDistinct no_plans = ⊤
  AreDistinct (more_plans p ps) =
      IsDistinct p × AreDistinct ps × ((i : ℕ) → has_symbol i p ≡ true → some_has i ps ≡ false)

-- n counts cover every symbol of the expression
abbrev pub Covers : ℕ → Plan → Type 0
Covers n p = (i : ℕ) → has_symbol i p ≡ true → i < n

-- at every symbol of the expression the count of the first is at most that of the second
abbrev pub IsUnder : Plan → (ℕ → ℕ) → (ℕ → ℕ) → Type 0
IsUnder p low high = (i : ℕ) → has_symbol i p ≡ true → low i ≤ high i
