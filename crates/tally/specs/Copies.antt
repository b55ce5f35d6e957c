-- When counts of symbols spell so many copies of an expression.
use Rattle.std.specs.Prelude.{ℕ, ◌+◌, ◌*◌, ◌≤◌, ◌≡◌, ⊤}
use Rattle.tally.specs.declared.Bound.{Bound}
use Rattle.tally.specs.declared.Bound.TheVariants.{Upto, Free}
use Rattle.tally.specs.Plan.{Plan, sym, each, one, many, Plans, no_plans, more_plans}

-- j copies make k repetitions, each of at least min and at most the bound (ShEx 2.1 section 5.5, cardinality)
abbrev pub Fills : ℕ → Bound → ℕ → ℕ → Type 0
Fills min (Upto n) k j = (min * k ≤ j) × (j ≤ n * k)
Fills min Free k j = (min * k ≤ j) × (k ≡ 0 → j ≡ 0)

unfoldable mutual
  -- the counts spell k copies of the expression (ShEx 2.1 section 5.5, `matches`, for k triple sets at once)
  pub Copies : Plan → (ℕ → ℕ) → ℕ → Type 0
  Copies (sym i) counts k = counts i ≡ k
  Copies (each members) counts k = CopiesEach members counts k
  Copies (one members) counts k = CopiesOne members counts k
  Copies (many min bound c) counts k = (j : ℕ) × Fills min bound k j × Copies c counts j

  -- every member has k copies
  pub CopiesEach : Plans → (ℕ → ℕ) → ℕ → Type 0
  CopiesEach no_plans counts k = ⊤
  CopiesEach (more_plans c rest) counts k = Copies c counts k × CopiesEach rest counts k

  -- k is the sum of one number per member, of which the member has so many copies
  pub CopiesOne : Plans → (ℕ → ℕ) → ℕ → Type 0
  CopiesOne no_plans counts k = k ≡ 0
  CopiesOne (more_plans c rest) counts k = (a b : ℕ) × (k ≡ a + b) × Copies c counts a × CopiesOne rest counts b
