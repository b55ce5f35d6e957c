-- Laws of the language of patterns.
use Rattle.std.specs.Prelude.{ℕ, ◌≤◌, ◌≡◌, ◌⊎◌, List}
use Rattle.xs_pattern.specs.declared.expression.Flags.{Flags}
use Rattle.xs_pattern.specs.Language.{Holds}
use Rattle.xs_pattern.specs.Regex.{Regex}
use Rattle.xs_pattern.specs.Flagged.{SpellsUnder}

-- an expression holds between two places of a text or it does not
abbrev pub HoldingIsDecided : Type 0
HoldingIsDecided = (f : Flags) (text : List ℕ) (e : Regex) (i j : ℕ) → Holds f text e i j ⊎ (¬ Holds f text e i j)

-- no expression leads back in a text
abbrev pub PlacesNeverFall : Type 0
PlacesNeverFall = (f : Flags) (text : List ℕ) (e : Regex) (i j : ℕ) → Holds f text e i j → i ≤ j

-- a text spells at most one pattern under given flags
abbrev pub SpellingIsUnique : Type 0
SpellingIsUnique = (flags text : List ℕ) (e d : Regex) → SpellsUnder flags e text → SpellsUnder flags d text → e ≡ d
