-- When symbols divide into parts that match an expression. A symbol stands for a triple, of which only the triple
-- constraint that takes it matters.
use Rattle.std.specs.Prelude.{ℕ, true, List, [], ◌∷◌, length, count_by, ◌==◌, ◌≤◌, ◌≡◌, ◌⊎◌, ⊤}
use Rattle.std.specs.List.{AllByRecursion, flat_map}
use Rattle.std.specs.List.Sorted.{IsPermutation}
use Rattle.tally.specs.declared.Bound.{Bound}
use Rattle.tally.specs.declared.Bound.TheVariants.{Upto, Free}
use Rattle.tally.specs.Plan.{Plan, sym, each, one, many, Plans, no_plans, more_plans}
use Rattle.tally.specs.Symbols.{has_symbol}

-- each symbol stands in exactly one of the parts, and the parts hold nothing else
abbrev pub Deals : List ℕ → List (List ℕ) → Type 0
Deals symbols parts = IsPermutation symbols (flat_map (λ part. part) parts)

-- the number is at most the bound
abbrev pub IsUpTo : ℕ → Bound → Type 0
IsUpTo k (Upto n) = k ≤ n
IsUpTo k Free = ⊤

unfoldable mutual
  -- the symbols match the expression (ShEx 2.1 section 5.5, `matches`)
  pub Matches : Plan → List ℕ → Type 0
  Matches (sym i) symbols = symbols ≡ i ∷ []
  Matches (each members) symbols = (parts : List (List ℕ)) × Deals symbols parts × MatchesEach members parts
  Matches (one members) symbols = MatchesOne members symbols
  Matches (many min bound c) symbols =
      (parts : List (List ℕ)) × (min ≤ length parts) × IsUpTo (length parts) bound × Deals symbols parts ×
      AllByRecursion (λ part. Matches c part) parts

  -- there is one part for each member, which matches it
  pub MatchesEach : Plans → List (List ℕ) → Type 0
  MatchesEach no_plans [] = ⊤
  MatchesEach no_plans (part ∷ parts) = ⊥
  MatchesEach (more_plans c rest) [] = ⊥
  MatchesEach (more_plans c rest) (part ∷ parts) = Matches c part × MatchesEach rest parts

  -- the symbols match some member
  pub MatchesOne : Plans → List ℕ → Type 0
  MatchesOne no_plans symbols = ⊥
  MatchesOne (more_plans c rest) symbols = Matches c symbols ⊎ MatchesOne rest symbols

-- the symbols divide into k parts that each match
pub record DealsInto (matches : List ℕ → Type 0) (k : ℕ) (symbols : List ℕ) : Type 0 where
  pub parts : List (List ℕ)
  pub many : length parts ≡ k
  pub deals : Deals symbols parts
  pub all : AllByRecursion matches parts

-- the symbols are those of the expression, and each stands as often as the counts say
pub record HaveCounts (p : Plan) (symbols : List ℕ) (counts : ℕ → ℕ) : Type 0 where
  pub own : AllByRecursion (λ i. has_symbol i p ≡ true) symbols
  pub counted : (i : ℕ) → has_symbol i p ≡ true → count_by (λ s. i == s) symbols ≡ counts i
