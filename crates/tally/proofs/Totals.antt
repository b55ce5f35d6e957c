-- Totals of disjoint sets of symbols add up, and the ends of an interval are below the totals of its box.
use Rattle.std.proofs.Common.{◌≡◌, ℕ, zero, suc, ◌+◌, ◌-◌, ◌*◌, ◌^◌, ◌<◌, ◌≤◌, refl, arith, Bool, true, false, cond, inl, inr}
use Rattle.std.proofs.lemmas.Bool.{cases_eq}
use Rattle.std.specs.Prelude.{Option, Some, None, IfSome, ◌||◌}
use Rattle.tally.specs.declared.Interval.{Interval}
use Rattle.tally.specs.Totals.{sum_below, total, EndsBy, IsWithin}

pub sum_one : (n i : ℕ) (f : ℕ → ℕ) → i < n → f i ≤ sum_below n f
unfolding sum_below
sum_one zero i f h = absurd (omega arith)
sum_one (suc n) i f h = elim (cases_eq i n) [
  | inl e ↦ rw e (omega arith)
  | inr ne ↦ (let less : f i ≤ sum_below n f = sum_one n i f (omega arith) in omega arith)
]

pub sum_join :
    (n : ℕ) (f g h : ℕ → ℕ) → ((i : ℕ) → f i + g i ≤ h i) → sum_below n f + sum_below n g ≤ sum_below n h
unfolding sum_below
sum_join zero f g h each = omega arith
sum_join (suc n) f g h each = (let here = each n in let rest = sum_join n f g h each in omega arith)

pub sum_grow : (n : ℕ) (f g : ℕ → ℕ) → ((i : ℕ) → f i ≤ g i) → sum_below n f ≤ sum_below n g
unfolding sum_below
sum_grow zero f g each = omega arith
sum_grow (suc n) f g each = (let here = each n in let rest = sum_grow n f g each in omega arith)

pub sum_under : (n m : ℕ) (f : ℕ → ℕ) → ((i : ℕ) → f i ≤ m) → sum_below n f ≤ n * m
unfolding sum_below
sum_under zero m f each = omega arith
sum_under (suc n) m f each = (let here = each n in let rest = sum_under n m f each in
    let e : suc n * m ≡ n * m + m = omega arith in rw e (omega arith))

-- a symbol's count is at most the total
pub total_one : (a : ℕ → Bool) (c : ℕ → ℕ) (i : ℕ) → i < 2 ^ 16 → a i ≡ true → c i ≤ total a c
unfolding total
total_one a c i h is =
    let one : cond (a i) (c i) 0 ≤ sum_below (2 ^ 16) (λ k. cond (a k) (c k) 0) =
    sum_one (2 ^ 16) i (λ k. cond (a k) (c k) 0) h in
    rw is at one

chosen_join : (a b : Bool) (n : ℕ) → (a ≡ true → b ≡ false) → cond a n 0 + cond b n 0 ≤ cond (a || b) n 0
chosen_join true true n apart = cc (apart refl)
chosen_join true false n apart = omega arith
chosen_join false b n apart = omega arith

-- disjoint sets of symbols have together at least both totals
pub total_join :
    (a b : ℕ → Bool) (c : ℕ → ℕ) → ((i : ℕ) → a i ≡ true → b i ≡ false) →
    total a c + total b c ≤ total (λ i. a i || b i) c
unfolding total
total_join a b c apart =
    sum_join (2 ^ 16) (λ i. cond (a i) (c i) 0) (λ i. cond (b i) (c i) 0) (λ i. cond (a i || b i) (c i) 0)
    (λ i. chosen_join (a i) (b i) (c i) (apart i))

chosen_part : (a b : Bool) (n : ℕ) → (a ≡ true → b ≡ true) → cond a n 0 ≤ cond b n 0
chosen_part true b n part = rw (part refl) (omega arith)
chosen_part false b n part = omega arith

-- a set of symbols has at most the total of a set that holds it
pub total_part : (a b : ℕ → Bool) (c : ℕ → ℕ) → ((i : ℕ) → a i ≡ true → b i ≡ true) → total a c ≤ total b c
unfolding total
total_part a b c part = sum_grow (2 ^ 16) (λ i. cond (a i) (c i) 0) (λ i. cond (b i) (c i) 0)
    (λ i. chosen_part (a i) (b i) (c i) (part i))

chosen_small : (a : Bool) (n : ℕ) → n < 2 ^ 32 → cond a n 0 ≤ 2 ^ 32 - 1
chosen_small true n h = omega arith
chosen_small false n h = omega arith

-- counts of 32 bits have a total of 48
pub total_under : (a : ℕ → Bool) (c : ℕ → ℕ) → ((i : ℕ) → c i < 2 ^ 32) → total a c < 2 ^ 48
unfolding total
total_under a c each =
    let small = sum_under (2 ^ 16) (2 ^ 32 - 1) (λ i. cond (a i) (c i) 0)
    (λ i. chosen_small (a i) (c i) (each i)) in
    omega arith

-- an interval within the totals of 32-bit counts has ends of 48 bits
pub within_small :
    (a : ℕ → Bool) (low high : ℕ → ℕ) → ((i : ℕ) → low i < 2 ^ 32) → ((i : ℕ) → high i < 2 ^ 32) →
    (r : Option Interval) →
    IfSome r (IsWithin a low high) → IfSome r (λ s. (s.lo < 2 ^ 48) × EndsBy s.hi (2 ^ 48 - 1))
within_small a low high low_small high_small None within = tt
within_small a low high low_small high_small (Some s) within =
    let lower = total_under a low low_small in (
      (let here = within.lower in omega arith),
      ends s.hi (total a high) (total_under a high high_small) within.upper,
    )
  where
    ends : (x : Option ℕ) (t : ℕ) → t < 2 ^ 48 → EndsBy x t → EndsBy x (2 ^ 48 - 1)
    ends None t small by = tt
    ends (Some h) t small by = omega arith
