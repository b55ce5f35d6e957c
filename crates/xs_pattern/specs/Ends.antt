-- What reading a pattern comes to.
use Rattle.std.specs.Prelude.{ℕ, ◌≡◌, List, Result, Ok, Err}
use Rattle.xs_pattern.specs.declared.pattern.Pattern.{Pattern}
use Rattle.xs_pattern.specs.declared.pattern_error.PatternError.{PatternError}
use Rattle.xs_pattern.specs.declared.pattern_error.PatternError.TheVariants.{Flag, Syntax, Large, Memory}
use Rattle.xs_pattern.specs.Flagged.{AreFlags, IsSpelledUnder, SpellsUnder, flags_named}
use Rattle.xs_pattern.specs.Limits.{IsLarge}
use Rattle.xs_pattern.specs.Patterns.{flags_of, regex}
use Rattle.xs_pattern.specs.Regex.{Regex}

-- the pattern of a text under flags
abbrev pub Ends : List ℕ → List ℕ → Result Pattern PatternError → Type 0
Ends flags text (Ok p) =
    AreFlags flags × SpellsUnder flags (regex p) text × (flags_of p ≡ flags_named flags) × (¬ IsLarge (regex p))
Ends flags text (Err Flag) = ¬ AreFlags flags
Ends flags text (Err Syntax) = AreFlags flags × (¬ IsSpelledUnder flags text)
Ends flags text (Err Large) = AreFlags flags × ((e : Regex) × SpellsUnder flags e text × IsLarge e)
Ends flags text (Err Memory) = AreFlags flags
