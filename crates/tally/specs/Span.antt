-- The interval of the numbers of copies, by a table with one row for each form of expression.
use Rattle.std.specs.Prelude.{ℕ, Bool, false, ◌+◌, ◌/◌, ◌≤◌, ⊤, min, max, if◌then◌else◌, nat_le, nat_eq, Option, Some, None}
use Rattle.std.specs.Int.{div_ceil}
use Rattle.tally.specs.declared.Bound.{Bound}
use Rattle.tally.specs.declared.Bound.TheVariants.{Upto, Free}
use Rattle.tally.specs.declared.Interval.{Interval}
use Rattle.tally.specs.Plan.{Plan, sym, each, one, many, Plans, no_plans, more_plans}

-- k is at most the end, if there is one
abbrev pub IsBelow : ℕ → Option ℕ → Type 0
IsBelow k None = ⊤
IsBelow k (Some h) = k ≤ h

-- k is in the interval; none is the empty one
abbrev pub HasSpan : Option Interval → ℕ → Type 0
HasSpan None k = ⊥
HasSpan (Some s) k = (s.lo ≤ k) × IsBelow k s.hi

-- the lower end is at most the upper one
abbrev pub IsProper : Option Interval → Type 0
IsProper None = ⊤
IsProper (Some s) = IsBelow s.lo s.hi

-- the interval from lo to hi, or none where it is empty
abbrev pub proper : ℕ → Option ℕ → Option Interval
proper lo None = Some (record { lo = lo; hi = None })
proper lo (Some h) = if nat_le lo h then Some (record { lo = lo; hi = Some h }) else None

-- the lesser of two upper ends
abbrev pub meet_ends : Option ℕ → Option ℕ → Option ℕ
meet_ends None b = b
meet_ends (Some a) None = Some a
meet_ends (Some a) (Some b) = Some (min a b)

-- the sum of two upper ends
abbrev pub add_ends : Option ℕ → Option ℕ → Option ℕ
add_ends None b = None
add_ends (Some a) None = None
add_ends (Some a) (Some b) = Some (a + b)

-- the intersection
abbrev pub meet : Option Interval → Option Interval → Option Interval
meet None b = None
meet (Some a) None = None
meet (Some a) (Some b) = proper (max a.lo b.lo) (meet_ends a.hi b.hi)

-- the sums of one number from each: none where one of the two is empty
abbrev pub plus : Option Interval → Option Interval → Option Interval
plus None b = None
plus (Some a) None = None
plus (Some a) (Some b) = Some (record { lo = a.lo + b.lo; hi = add_ends a.hi b.hi })

-- the least number of repetitions, each of at most the bound, that hold lo copies
abbrev pub least : Bound → ℕ → ℕ
least Free lo = if nat_eq lo 0 then 0 else 1
least (Upto m) lo = div_ceil lo m

-- the greatest number of repetitions, each of at least n, that hi copies fill, if there is one
abbrev pub most : ℕ → Option ℕ → Option ℕ
most n None = None
most n (Some h) = if nat_eq n 0 then None else Some (h / n)

-- the bound allows no repetition
abbrev pub is_nothing : Bound → Bool
is_nothing Free = false
is_nothing (Upto m) = nat_eq m 0

-- all numbers from 0
abbrev pub all : Interval
all = record { lo = 0; hi = None }

-- the numbers of repetitions, each of at least n and at most the bound, that some number of an interval makes
abbrev pub repeated : ℕ → Bound → Option Interval → Option Interval
repeated n bound None = None
repeated n bound (Some a) =
    if is_nothing bound
    then (if nat_eq a.lo 0 then Some all else None)
    else proper (least bound a.lo) (most n a.hi)

unfoldable mutual
  -- the interval of the expression where the count of each symbol is from low to high
  pub span : Plan → (ℕ → ℕ) → (ℕ → ℕ) → Option Interval
  span (sym i) low high = proper (low i) (Some (high i))
  span (each members) low high = span_each members low high
  span (one members) low high = span_one members low high
  span (many n bound c) low high = repeated n bound (span c low high)

  -- what the intervals of all members have in common
  pub span_each : Plans → (ℕ → ℕ) → (ℕ → ℕ) → Option Interval
  span_each no_plans low high = Some all
  span_each (more_plans c rest) low high = meet (span c low high) (span_each rest low high)

  -- the sum of the intervals of all members
  pub span_one : Plans → (ℕ → ℕ) → (ℕ → ℕ) → Option Interval
  span_one no_plans low high = Some (record { lo = 0; hi = Some 0 })
  span_one (more_plans c rest) low high = plus (span c low high) (span_one rest low high)

-- the minimum is at most the bound
abbrev pub IsOrdered : ℕ → Bound → Type 0
IsOrdered n Free = ⊤
IsOrdered n (Upto m) = n ≤ m

unfoldable mutual
  -- no minimum in the expression is above its bound
  pub IsSound : Plan → Type 0
  IsSound (sym i) = ⊤
  IsSound (each members) = AreSound members
  IsSound (one members) = AreSound members
  IsSound (many n bound c) = IsOrdered n bound × IsSound c

  -- no minimum in the members is above its bound
  pub AreSound : Plans → Type 0
  AreSound no_plans = ⊤
  AreSound (more_plans c rest) = IsSound c × AreSound rest
