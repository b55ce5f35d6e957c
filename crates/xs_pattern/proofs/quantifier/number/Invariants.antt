use Rattle.std.proofs.Common.{◌≡◌, ◌≤◌, take}
use Rattle.std.specs.Str.Parse.{digits_value}
use Rattle.xs_pattern.specs.Lexing.{capped}
use Rattle.xs_pattern.proofs.quantifier.number.Given as goal

abbrev pub invariant-loop-c : goal.invariant-loop-c
invariant-loop-c l = (l.number ≡ capped (digits_value 10 (take l.c-index l.digits))) × (l.number ≤ 4097)
