-- What flags mean for a pattern (XPath Functions and Operators 3.1, section 5.6.2).
use Rattle.std.specs.Prelude.{ℕ, ◌≡◌, Bool, IsTrue, MatchBool, ◌==◌, ◌||◌, List, map}
use Rattle.std.specs.List.{list_all, list_any}
use Rattle.xs_pattern.specs.declared.expression.Flags.{Flags}
use Rattle.xs_pattern.specs.declared.expression.Item.TheVariants as Items
use Rattle.xs_pattern.specs.Regex.{Regex, branch, choice, item, more, none, one, row}
use Rattle.xs_pattern.specs.Spelling.{Spells}

-- a flag that is known: s, i or q
abbrev pub is_flag : ℕ → Bool
is_flag c = c == 115 || c == 105 || c == 113

abbrev pub are_flags : List ℕ → Bool
are_flags text = list_all is_flag text

-- each flag is known
abbrev pub AreFlags : List ℕ → Type 0
AreFlags text = IsTrue (are_flags text)

-- the flag is among them
abbrev pub has_flag : ℕ → List ℕ → Bool
has_flag flag text = list_any (λ c. c == flag) text

-- with flag q each character stands for itself
abbrev pub literal : List ℕ → Regex
literal text = choice (more (branch (row (map (λ c. one (item (Items.Char c))) text))) none)

-- what the flags ask for: s that the dot has all characters, i that case is ignored
abbrev pub flags_named : List ℕ → Flags
flags_named text = record { dot_all = has_flag 115 text; ignore_case = has_flag 105 text }

-- the text spells the pattern under these flags
abbrev pub SpellsUnder : List ℕ → Regex → List ℕ → Type 0
SpellsUnder flags e text = MatchBool (has_flag 113 flags) (e ≡ literal text) (Spells e text)

-- the text spells some pattern under these flags
abbrev pub IsSpelledUnder : List ℕ → List ℕ → Type 0
IsSpelledUnder flags text = (e : Regex) × SpellsUnder flags e text
