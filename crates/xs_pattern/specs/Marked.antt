-- Sets of positions as words, and what a way is at each position.
use Rattle.std.specs.Prelude.{ℕ, Option, Some, zero, suc, ◌/◌, ◌%◌, ◌^◌, ◌<◌, ◌≤◌, ◌≡◌, Bool, true, false, ◌==◌, ◌||◌, ◌&&◌, List, [], ◌∷◌, ◌++◌, length, map, replicate, slice_index_or}
use Rattle.xs_pattern.specs.declared.walk.Edge.{Edge}
use Rattle.xs_pattern.specs.declared.words.Place.{Place}
use Rattle.xs_pattern.specs.declared.words.Words.{Words}
use Rattle.xs_pattern.specs.Regex.{Chars, Regex, chars_of}
use Rattle.xs_pattern.specs.Unrolling.{sets, unroll}
use Rattle.xs_pattern.specs.Way.{Way, one, then, either, plus, size, passes, next}

-- the marks of so many positions that a word stands for: its bits, the lowest first
abbrev pub marks_of : ℕ → ℕ → List Bool
marks_of zero word = []
marks_of (suc n) word = (word % 2 == 1) ∷ marks_of n (word / 2)

-- the marks of one list or the other
abbrev pub or_marks : List Bool → List Bool → List Bool
or_marks [] ys = ys
or_marks (x ∷ xs) [] = x ∷ xs
or_marks (x ∷ xs) (y ∷ ys) = (x || y) ∷ or_marks xs ys

-- the marks of both
abbrev pub and_marks : List Bool → List Bool → List Bool
and_marks [] ys = []
and_marks (x ∷ xs) [] = []
and_marks (x ∷ xs) (y ∷ ys) = (x && y) ∷ and_marks xs ys

-- some position is marked in both
abbrev pub meets : List Bool → List Bool → Bool
meets [] ys = false
meets (x ∷ xs) [] = false
meets (x ∷ xs) (y ∷ ys) = (x && y) || meets xs ys

-- the number of the set of each position
abbrev pub set_numbers : Way → List ℕ
set_numbers (one k) = k ∷ []
set_numbers (then a b) = set_numbers a ++ set_numbers b
set_numbers (either a b) = set_numbers a ++ set_numbers b
set_numbers (plus a) = set_numbers a
set_numbers _ = []

-- the positions behind which a way may end at a place
abbrev pub lasts : Edge → Way → List Bool
lasts e (one k) = true ∷ []
lasts e (then a b) = map (λ x. x && passes e b) (lasts e a) ++ lasts e b
lasts e (either a b) = lasts e a ++ lasts e b
lasts e (plus a) = lasts e a
lasts e _ = []

-- the places of a text
abbrev pub at_start : Edge
at_start = record { start = true; end = false }

abbrev pub inside : Edge
inside = record { start = false; end = false }

abbrev pub at_end : Edge
at_end = record { start = false; end = true }

abbrev pub alone : Edge
alone = record { start = true; end = true }

-- which sets a list of tests has
abbrev pub tested : List Bool → ℕ → Bool
tested tests k = slice_index_or tests k false

-- each set that there is has the character
abbrev pub all_known : ℕ → ℕ → Bool
all_known n = tested (replicate n true)

-- what a way does at a place, as words; the character is one that each of so many sets has; at the start of a text no mark is set
abbrev pub IsPlace : ℕ → Way → Edge → Place → Type 0
IsPlace n w edge p =
    (marks_of (size w) p.enters ≡ next edge (all_known n) w true (replicate (size w) false))
    × (edge.start ≡ false → marks_of (size w) p.ends ≡ lasts edge w) × (p.ends < 2 ^ size w) × (p.passes ≡ passes edge w)

abbrev pub place_at : Words → Bool → Bool → Place
place_at words true true = words.alone
place_at words true false = words.start
place_at words false true = words.end
place_at words false false = words.inside

-- the positions that can stand behind each one inside of a text
abbrev pub AreBehind : ℕ → Way → List ℕ → Type 0
AreBehind n w rows = (j : ℕ) → marks_of (size w) (slice_index_or rows j 0) ≡ next inside (all_known n) w false (marks_of (size w) (2 ^ j))

-- the words of a way with these sets
abbrev pub AreWords : List Chars → Way → Words → Type 0
AreWords ss w words =
    (size w ≤ 64)
    × IsPlace (length ss) w at_start words.start × IsPlace (length ss) w inside words.inside
    × IsPlace (length ss) w at_end words.end × IsPlace (length ss) w alone words.alone
    × AreBehind (length ss) w words.behind.items
    × (words.numbers.items ≡ set_numbers w) × (map chars_of words.sets.items ≡ ss)

-- the words that are kept of an expression
abbrev pub AreKept : Regex → Option Words → Type 0
AreKept e kept = (words : Words) → kept ≡ Some words → AreWords (sets e) (unroll 0 e) words
