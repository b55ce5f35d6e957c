-- How large a pattern is.
use Rattle.std.specs.Prelude.{ℕ, ◌+◌, ◌-◌, ◌*◌, ◌<◌, ◌⊎◌, max, Option, Some, None, List, [], ◌∷◌, length}
use Rattle.xs_pattern.specs.Regex.{Chars, dot, item, class, Regex, start, finish, one, group, branch, choice, repeat, Regexes, none, more}
use Rattle.xs_pattern.specs.Tokens.{Token, open_bracket, close_bracket, bar, start_anchor, end_anchor, one_of, times}

-- how often what is repeated is written out
abbrev pub written : ℕ → Option ℕ → ℕ
written least None = max least 1
written least (Some most) = most

abbrev mutual
  -- the positions of the pattern with each repetition written out
  pub positions : Regex → ℕ
  positions start = 1
  positions finish = 1
  positions (one s) = 1
  positions (group e) = positions e
  positions (branch es) = all_positions es
  positions (choice es) = all_positions es
  positions (repeat least most e) = written least most * positions e

  pub all_positions : Regexes → ℕ
  all_positions none = 0
  all_positions (more e es) = positions e + all_positions es

-- how many classes stand in one another
abbrev pub layers : Chars → ℕ
layers dot = 0
layers (item x) = 0
layers (class ms) = length ms

abbrev mutual
  -- how deep groups and classes nest
  pub nesting : Regex → ℕ
  nesting start = 0
  nesting finish = 0
  nesting (one s) = layers s
  nesting (group e) = nesting e + 1
  nesting (branch es) = deepest_nesting es
  nesting (choice es) = deepest_nesting es
  nesting (repeat least most e) = nesting e

  pub deepest_nesting : Regexes → ℕ
  deepest_nesting none = 0
  deepest_nesting (more e es) = max (nesting e) (deepest_nesting es)

-- the greater number of a quantifier
abbrev pub greater : ℕ → Option ℕ → ℕ
greater least None = least
greater least (Some most) = max least most

abbrev mutual
  -- the greatest number of a quantifier, and 0 where there is none
  pub greatest : Regex → ℕ
  greatest start = 0
  greatest finish = 0
  greatest (one s) = 0
  greatest (group e) = greatest e
  greatest (branch es) = greatest_of_all es
  greatest (choice es) = greatest_of_all es
  greatest (repeat least most e) = max (greatest e) (greater least most)

  pub greatest_of_all : Regexes → ℕ
  greatest_of_all none = 0
  greatest_of_all (more e es) = max (greatest e) (greatest_of_all es)

-- it has a number over 4,096, nests over 64 deep, or has over 4,096 positions
abbrev pub IsLarge : Regex → Type 0
IsLarge e = (4096 < greatest e) ⊎ (64 < nesting e) ⊎ (4096 < positions e)

-- how deep the groups and classes of tokens nest, where so many groups are open
abbrev pub depth : ℕ → List Token → ℕ
depth n [] = n
depth n (open_bracket ∷ ts) = max n (depth (n + 1) ts)
depth n (close_bracket ∷ ts) = max n (depth (n - 1) ts)
depth n (one_of s ∷ ts) = max (n + layers s) (depth n ts)
depth n (bar ∷ ts) = depth n ts
depth n (start_anchor ∷ ts) = depth n ts
depth n (end_anchor ∷ ts) = depth n ts
depth n (times least most ∷ ts) = depth n ts
