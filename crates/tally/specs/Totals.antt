-- Totals of counts, by which the ends of intervals are bounded.
use Rattle.std.specs.Prelude.{ℕ, zero, suc, Bool, ◌+◌, ◌^◌, ◌≤◌, ⊤, if◌then◌else◌, Option, Some, None}
use Rattle.tally.specs.declared.Interval.{Interval}

-- the sum of a function over the numbers below n
unfoldable pub sum_below : ℕ → (ℕ → ℕ) → ℕ
sum_below zero f = 0
sum_below (suc n) f = f n + sum_below n f

-- the sum of the counts of a set of symbols, each of 16 bits
unfoldable pub total : (ℕ → Bool) → (ℕ → ℕ) → ℕ
total symbols counts = sum_below (2 ^ 16) (λ i. if symbols i then counts i else 0)

-- the end, if there is one, is at most n
abbrev pub EndsBy : Option ℕ → ℕ → Type 0
EndsBy None n = ⊤
EndsBy (Some h) n = h ≤ n

-- the lower end is at most the total of the lower counts, and the upper end at most that of the upper ones
pub record IsWithin (symbols : ℕ → Bool) (low high : ℕ → ℕ) (s : Interval) : Type 0 where
  pub lower : s.lo ≤ total symbols low
  pub upper : EndsBy s.hi (total symbols high)
