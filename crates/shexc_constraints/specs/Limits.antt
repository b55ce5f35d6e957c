-- Which faults come from a limit.
use Rattle.std.specs.Prelude.{Bool, true, false}
use Rattle.xs_pattern.specs.declared.pattern_error.PatternError.TheVariants as refusal
use Rattle.shexc_constraints.specs.declared.faults.Fault.{Fault}
use Rattle.shexc_constraints.specs.declared.faults.Fault.TheVariants as fault

-- a pattern that is too large, and with the flag brackets that nest too deep
abbrev pub is_limit : Bool → Fault → Bool
is_limit deep fault.Deep = deep
is_limit deep (fault.Pattern refusal.Large) = true
is_limit deep (fault.Pattern refusal.Flag) = false
is_limit deep (fault.Pattern refusal.Syntax) = false
is_limit deep (fault.Pattern refusal.Memory) = false
is_limit deep fault.Syntax = false
is_limit deep fault.External = false
is_limit deep fault.Prefix = false
is_limit deep fault.FloatFacet = false
is_limit deep fault.FacetNumber = false
