-- How many triples some triple constraints take at least, and at most, in each match of an expression (ShEx 2.1, section
-- 5.5.2, `matches` with cardinalities; own: the numbers).
use Rattle.std.specs.Prelude.{ℕ, zero, suc, Bool, true, false, List, [], ◌∷◌, ◌+◌, ◌*◌, ◌-◌, ◌^◌, ◌≡◌, ◌≤◌, ⊤}
use Rattle.std.specs.Prelude.{Option, Some, None, if◌then◌else◌, nat_eq, min, max}
use Rattle.std.specs.List.{AllByRecursion, list_any}
use Rattle.tally.specs.declared.Bound.{Bound}
use Rattle.tally.specs.declared.Bound.TheVariants.{Upto, Free}
use Rattle.tally.specs.Copies.{Copies}
use Rattle.tally.specs.Plan.{Plan, sym, each, one, many, Plans, no_plans, more_plans}
use Rattle.tally.specs.Span.{add_ends}
use Rattle.tally.specs.Symbols.{has_symbol}
use Rattle.schema_tree.specs.declared.verdicts.Place.{Place}
use Rattle.schema_tree.specs.declared.verdicts.Place.TheVariants.{At, Rest}
use Rattle.schema_tree.specs.Places.{times}

-- the number is one of these
abbrev pub is_among : List ℕ → ℕ → Bool
is_among constraints i = list_any (nat_eq i) constraints

-- the place is one of these constraints
abbrev pub is_at : List ℕ → Place → Bool
is_at constraints (At i) = is_among constraints i
is_at constraints Rest = false

-- one more where the place is one of these constraints
abbrev pub add_served : List ℕ → Place → ℕ → ℕ
add_served constraints p k = if is_at constraints p then suc k else k

-- how many of the places are one of these constraints
abbrev pub served : List ℕ → List Place → ℕ
served constraints [] = 0
served constraints (p ∷ ps) = add_served constraints p (served constraints ps)

-- the place is the remainder, or a constraint that stands in the expression
abbrev pub IsPlaceOf : Plan → Place → Type 0
IsPlaceOf c (At i) = has_symbol i c ≡ true
IsPlaceOf c Rest = ⊤

-- triples at these places match the expression once (section 5.5.2, `matches`)
abbrev pub MatchOnce : Plan → List Place → Type 0
MatchOnce c places = AllByRecursion (IsPlaceOf c) places × Copies c (times places) 1

-- in each match these constraints take at least so many triples together
abbrev pub TakeAtLeast : Plan → List ℕ → ℕ → Type 0
TakeAtLeast c constraints least = (places : List Place) → MatchOnce c places → least ≤ served constraints places

-- in each match these constraints take at most so many triples together
abbrev pub TakeAtMost : Plan → List ℕ → ℕ → Type 0
TakeAtMost c constraints most = (places : List Place) → MatchOnce c places → served constraints places ≤ most

-- in some match these constraints take just so many triples together
abbrev pub MayTakeJust : Plan → List ℕ → ℕ → Type 0
MayTakeJust c constraints count = (places : List Place) × MatchOnce c places × (served constraints places ≡ count)

-- there are members
abbrev pub HasMembers : Plans → Type 0
HasMembers no_plans = ⊥
HasMembers (more_plans c rest) = ⊤

unfoldable mutual
  -- each OneOf of the expression has a member
  pub HasChoices : Plan → Type 0
  HasChoices (sym i) = ⊤
  HasChoices (each members) = HaveChoices members
  HasChoices (one members) = HasMembers members × HaveChoices members
  HasChoices (many n bound c) = HasChoices c

  pub HaveChoices : Plans → Type 0
  HaveChoices no_plans = ⊤
  HaveChoices (more_plans c rest) = HasChoices c × HaveChoices rest

-- the lesser number where there is another member
abbrev pub least_or : Plans → ℕ → ℕ → ℕ
least_or no_plans a b = a
least_or (more_plans c rest) a b = min a b

unfoldable mutual
  -- the least number of triples that the constraints take in a match: the sum over the members of an EachOf, the least of
  -- those of a OneOf, and so many times the minimum of a cardinality
  pub least_of : List ℕ → Plan → ℕ
  least_of constraints (sym i) = if is_among constraints i then 1 else 0
  least_of constraints (each members) = least_each constraints members
  least_of constraints (one members) = least_one constraints members
  least_of constraints (many n bound c) = n * least_of constraints c

  pub least_each : List ℕ → Plans → ℕ
  least_each constraints no_plans = 0
  least_each constraints (more_plans c rest) = least_of constraints c + least_each constraints rest

  pub least_one : List ℕ → Plans → ℕ
  least_one constraints no_plans = 0
  least_one constraints (more_plans c rest) = least_or rest (least_of constraints c) (least_one constraints rest)

-- the greater of two upper ends
abbrev pub max_ends : Option ℕ → Option ℕ → Option ℕ
max_ends None b = None
max_ends (Some a) None = None
max_ends (Some a) (Some b) = Some (max a b)

-- the upper end as often as the bound allows: none is left of any where it allows no repetition
abbrev pub times_end : Bound → Option ℕ → Option ℕ
times_end (Upto zero) h = Some 0
times_end (Upto (suc m)) None = None
times_end (Upto (suc m)) (Some h) = Some (suc m * h)
times_end Free None = None
times_end Free (Some zero) = Some 0
times_end Free (Some (suc h)) = None

unfoldable mutual
  -- the greatest number of triples that the constraints take in a match, if there is one: the sum over the members of an
  -- EachOf, the greatest of those of a OneOf, and so many times the maximum of a cardinality
  pub most_of : List ℕ → Plan → Option ℕ
  most_of constraints (sym i) = Some (if is_among constraints i then 1 else 0)
  most_of constraints (each members) = most_each constraints members
  most_of constraints (one members) = most_one constraints members
  most_of constraints (many n bound c) = times_end bound (most_of constraints c)

  pub most_each : List ℕ → Plans → Option ℕ
  most_each constraints no_plans = Some 0
  most_each constraints (more_plans c rest) = add_ends (most_of constraints c) (most_each constraints rest)

  pub most_one : List ℕ → Plans → Option ℕ
  most_one constraints no_plans = Some 0
  most_one constraints (more_plans c rest) = max_ends (most_of constraints c) (most_one constraints rest)

-- the lesser of both, or the second where there is no first
abbrev pub lesser : Option ℕ → ℕ → ℕ
lesser None b = b
lesser (Some a) b = min a b

-- the number, if there is one, but at most the greatest of 64 bits
abbrev pub capped : Option ℕ → Option ℕ
capped None = None
capped (Some m) = Some (min m (2 ^ 64 - 1))

-- a triple constraint alone
abbrev pub IsSingle : Plan → Type 0
IsSingle (sym i) = ⊤
IsSingle (each members) = ⊥
IsSingle (one members) = ⊥
IsSingle (many n bound c) = ⊥

unfoldable mutual
  -- triple constraints with cardinalities of their own, joined by EachOf alone: there is no OneOf, and no group is repeated
  pub IsFlat : Plan → Type 0
  IsFlat (sym i) = ⊤
  IsFlat (each members) = AreFlat members
  IsFlat (one members) = ⊥
  IsFlat (many n bound c) = IsSingle c

  pub AreFlat : Plans → Type 0
  AreFlat no_plans = ⊤
  AreFlat (more_plans c rest) = IsFlat c × AreFlat rest
