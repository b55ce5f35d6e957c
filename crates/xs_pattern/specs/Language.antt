-- The language of a pattern: between which places of a text it holds (XPath Functions and Operators 3.1, section 5.6).
use Rattle.std.specs.Prelude.{ℕ, ◌+◌, ◌≤◌, ◌<◌, ◌≡◌, ◌⊎◌, ⊤, List, [], ◌∷◌, length, slice_index, Option, Some, None}
use Rattle.xs_pattern.specs.declared.expression.Flags.{Flags}
use Rattle.xs_pattern.specs.Characters.{HasChar}
use Rattle.xs_pattern.specs.Regex.{Chars, Regex, start, finish, one, group, branch, choice, repeat, Regexes, none, more}

-- the number is at most the bound, if there is one
abbrev pub IsUpTo : ℕ → Option ℕ → Type 0
IsUpTo n None = ⊤
IsUpTo n (Some most) = n ≤ most

-- from place i the relation leads over these places, one after the other, and the last is j
abbrev pub Leads : (ℕ → ℕ → Type 0) → ℕ → List ℕ → ℕ → Type 0
Leads R i [] j = j ≡ i
Leads R i (k ∷ ks) j = R i k × Leads R k ks j

module _ (f : Flags) (text : List ℕ) where
  -- the set has the character between place i and the next place j
  abbrev pub HoldsAt : Chars → ℕ → ℕ → Type 0
  HoldsAt s i j = (i < length text) × (j ≡ i + 1) × HasChar f s (slice_index text i)

  unfoldable mutual
    -- the expression holds between place i and place j of the text; place 0 is the start, place `length text` the end
    pub Holds : Regex → ℕ → ℕ → Type 0
    Holds start i j = (i ≡ 0) × (j ≡ i)
    Holds finish i j = (i ≡ length text) × (j ≡ i)
    Holds (one s) i j = HoldsAt s i j
    Holds (group e) i j = Holds e i j
    Holds (branch es) i j = HoldsAll es i j
    Holds (choice es) i j = HoldsSome es i j
    Holds (repeat least most e) i j =
        (places : List ℕ) × (least ≤ length places) × IsUpTo (length places) most × Leads (Holds e) i places j

    -- they hold one after the other, with a place between any two
    pub HoldsAll : Regexes → ℕ → ℕ → Type 0
    HoldsAll none i j = j ≡ i
    HoldsAll (more e es) i j = (k : ℕ) × Holds e i k × HoldsAll es k j

    -- one of them holds
    pub HoldsSome : Regexes → ℕ → ℕ → Type 0
    HoldsSome none i j = ⊥
    HoldsSome (more e es) i j = Holds e i j ⊎ HoldsSome es i j

  -- the expression holds between two places of the text (section 5.6.3, `matches`)
  abbrev pub IsFound : Regex → Type 0
  IsFound e = (i j : ℕ) × (i ≤ j) × (j ≤ length text) × Holds e i j
