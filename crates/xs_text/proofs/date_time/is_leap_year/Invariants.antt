use Rattle.std.proofs.Common.{◌≡◌, ◌%◌, take}
use Rattle.std.specs.Str.Parse.{digits_value}
use Rattle.xs_text.proofs.date_time.is_leap_year.Given as goal

abbrev pub invariant-loop-digit : goal.invariant-loop-digit
invariant-loop-digit l = l.of_cycle ≡ digits_value 10 (take l.digit-index l.year) % 400
