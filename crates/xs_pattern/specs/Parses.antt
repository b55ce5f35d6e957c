-- What reading an expression comes to.
use Rattle.std.specs.Prelude.{ℕ, ⊤, ◌≤◌, ◌<◌, ◌⊎◌, List, Result, Ok, Err}
use Rattle.xs_pattern.specs.declared.expression.Expression.{Expression}
use Rattle.xs_pattern.specs.declared.pattern_error.PatternError.{PatternError}
use Rattle.xs_pattern.specs.declared.pattern_error.PatternError.TheVariants.{Flag, Syntax, Large, Memory}
use Rattle.xs_pattern.specs.Flagged.{IsSpelledUnder, SpellsUnder}
use Rattle.xs_pattern.specs.Limits.{greatest, nesting}
use Rattle.xs_pattern.specs.Regex.{Regex, regex_of}
use Rattle.xs_pattern.specs.Spelling.{Spells}

-- its numbers and its nesting are within the limits
abbrev pub IsMeasured : Regex → Type 0
IsMeasured e = (greatest e ≤ 4096) × (nesting e ≤ 64)

-- a number or the nesting is beyond its limit
abbrev pub IsUnmeasured : Regex → Type 0
IsUnmeasured e = (4096 < greatest e) ⊎ (64 < nesting e)

-- the expression of a text without flags
abbrev pub Parses : List ℕ → Result Expression PatternError → Type 0
Parses text (Ok e) = Spells (regex_of e) text × IsMeasured (regex_of e)
Parses text (Err Flag) = ⊥
Parses text (Err Syntax) = (e : Regex) → ¬ Spells e text
Parses text (Err Large) = (e : Regex) × Spells e text × IsUnmeasured e
Parses text (Err Memory) = ⊤

-- the expression of a text under flags
abbrev pub ParsesUnder : List ℕ → List ℕ → Result Expression PatternError → Type 0
ParsesUnder flags text (Ok e) = SpellsUnder flags (regex_of e) text × IsMeasured (regex_of e)
ParsesUnder flags text (Err Flag) = ⊥
ParsesUnder flags text (Err Syntax) = ¬ IsSpelledUnder flags text
ParsesUnder flags text (Err Large) = (e : Regex) × SpellsUnder flags e text × IsUnmeasured e
ParsesUnder flags text (Err Memory) = ⊤
