use Rattle.std.proofs.Common.{◌≡◌, true, length}
use Rattle.std.specs.Char.{is_ascii_digit}
use Rattle.std.specs.List.{list_all}
use Rattle.std.specs.Str.Parse.{digits_value}
use Rattle.xs_pattern.proofs.quantifier.without_zeros.Given as goal

abbrev pub invariant-loop-rest : goal.invariant-loop-rest
invariant-loop-rest l = (digits_value 10 l.rest ≡ digits_value 10 l.fn.digits) × (list_all is_ascii_digit l.rest ≡ true)

abbrev pub decreases-loop-rest : goal.decreases-loop-rest
decreases-loop-rest l = length l.rest
