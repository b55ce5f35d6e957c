-- A pattern without counts as a plain tree, and the reading of a text by sets of positions.
use Rattle.std.specs.Prelude.{ℕ, zero, suc, ◌+◌, ◌≤◌, ◌≡◌, ◌⊎◌, Bool, true, false, ◌||◌, ◌&&◌, List, [], ◌∷◌, ◌++◌, length, drop}
use Rattle.xs_pattern.specs.declared.unrolled.Unrolled.{Unrolled}
use Rattle.xs_pattern.specs.declared.unrolled.Unrolled.TheOpen.{Unrolled-F, Nothing, Never, Start, End, One, Times, Then, Either, Plus}
use Rattle.xs_pattern.specs.declared.unrolled.Unrolled.TheFolds.{fold-Unrolled}
use Rattle.xs_pattern.specs.declared.walk.Edge.{Edge}
use Rattle.xs_pattern.specs.Language.{Leads}

-- a pattern without counts, with a number for each set of characters
pub data Way : Type 0 where
  nothing : Way
  never : Way
  start : Way
  finish : Way
  one : ℕ → Way
  then : Way → Way → Way
  either : Way → Way → Way
  plus : Way → Way

-- a character of one set so many times
abbrev pub times_way : ℕ → ℕ → Way
times_way k zero = nothing
times_way k (suc zero) = one k
times_way k (suc (suc n)) = then (one k) (times_way k (suc n))

-- one layer, with the way of each child in its place
abbrev pub way_step : Unrolled-F Way → Way
way_step Nothing = nothing
way_step Never = never
way_step Start = start
way_step End = finish
way_step (One k) = one k
way_step (Times k n) = times_way k n
way_step (Then a b) = then a.value b.value
way_step (Either a b) = either a.value b.value
way_step (Plus a) = plus a.value

abbrev pub way_of : Unrolled → Way
way_of = fold-Unrolled Way way_step

-- how many positions it has
abbrev pub size : Way → ℕ
size (one k) = 1
size (then a b) = size a + size b
size (either a b) = size a + size b
size (plus a) = size a
size _ = 0

-- it holds between a place and that same place
abbrev pub passes : Edge → Way → Bool
passes e nothing = true
passes e never = false
passes e start = e.start
passes e finish = e.end
passes e (one k) = false
passes e (then a b) = passes e a && passes e b
passes e (either a b) = passes e a || passes e b
passes e (plus a) = passes e a

-- the first mark
abbrev pub first : List Bool → Bool
first [] = false
first (b ∷ bs) = b

-- it may end at a place; a mark says that the character before has the position
abbrev pub ends : Edge → Way → List Bool → Bool
ends e (one k) marks = first marks
ends e (then a b) marks = ends e b (drop (size a) marks) || (ends e a marks && passes e b)
ends e (either a b) marks = ends e a marks || ends e b (drop (size a) marks)
ends e (plus a) marks = ends e a marks
ends e _ marks = false

-- the marks behind the next character, of which each set is known to have it or not
abbrev pub next : Edge → (ℕ → Bool) → Way → Bool → List Bool → List Bool
next e has (one k) enters marks = (enters && has k) ∷ []
next e has (then a b) enters marks =
    next e has a enters marks
    ++ next e has b (ends e a marks || (enters && passes e a)) (drop (size a) marks)
next e has (either a b) enters marks = next e has a enters marks ++ next e has b enters (drop (size a) marks)
next e has (plus a) enters marks = next e has a (enters || ends e a marks) marks
next e has _ enters marks = []

-- the marks behind the next character, of so many characters of one set, of which it is known whether it has it
abbrev pub next_times : Bool → ℕ → Bool → List Bool → List Bool
next_times has zero enters marks = []
next_times has (suc n) enters marks = (enters && has) ∷ next_times has n (first marks) (drop 1 marks)

module _ (edge : ℕ → Edge) (has : ℕ → ℕ → Bool) where
  unfoldable mutual
    -- it holds between two places, of which the edges and the sets of the character behind them are given
    pub Runs : Way → ℕ → ℕ → Type 0
    Runs nothing i j = j ≡ i
    Runs never i j = ⊥
    Runs start i j = ((edge i).start ≡ true) × (j ≡ i)
    Runs finish i j = ((edge i).end ≡ true) × (j ≡ i)
    Runs (one k) i j = (has i k ≡ true) × (j ≡ i + 1)
    Runs (then a b) i j = (k : ℕ) × Runs a i k × Runs b k j
    Runs (either a b) i j = Runs a i j ⊎ Runs b i j
    Runs (plus a) i j = (places : List ℕ) × (1 ≤ length places) × Leads (Runs a) i places j
