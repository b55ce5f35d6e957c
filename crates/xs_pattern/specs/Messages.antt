-- What is printed of a text that is refused as a pattern.
use Rattle.std.specs.Prelude.{ℕ, List, codes}
use Rattle.xs_pattern.specs.declared.pattern_error.PatternError.{PatternError}
use Rattle.xs_pattern.specs.declared.pattern_error.PatternError.TheVariants as PatternErrors

-- why a pattern is refused; no file is refused for want of memory, which has its name here too
abbrev pub pattern_text : PatternError → List ℕ
pattern_text PatternErrors.Flag = codes "Flag"
pattern_text PatternErrors.Syntax = codes "Syntax"
pattern_text PatternErrors.Large = codes "Large"
pattern_text PatternErrors.Memory = codes "Memory"
