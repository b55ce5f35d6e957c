-- The numbers of range facets, which are written as whole numbers of JSON alone (own; ShEx 2.1, appendix A, has decimals and
-- doubles too). Texts are bytes.
use Rattle.std.specs.Prelude.{ℕ, ◌^◌, ◌==◌, ◌&&◌, ◌≡◌, nat_lt, Bool, true, if◌then◌else◌, List, Option, Some, None, ℤ, pos, negsuc}
use Rattle.std.specs.Fmt.{signed_decimal}
use Rattle.std.specs.List.{list_all}
use Rattle.std.specs.Str.Parse.{digits_value}
use Rattle.serde_json.specs.Data.{Num}
use Rattle.serde_json.specs.Find.{of_integer}
use Rattle.xs_text.specs.Decimal.{HasSameValue, fraction_part, is_decimal, whole_part}
use Rattle.xs_text.specs.Digits.{has_minus, signed, zero_digit}

-- from -2^63 to 2^64 - 1
abbrev pub is_in_range : ℤ → Bool
is_in_range (pos n) = nat_lt n (2 ^ 64)
is_in_range (negsuc n) = nat_lt n (2 ^ 63)

-- the whole number that a decimal text stands for, where it stands for one: that of its digits before the point (XML Schema Part 2, version 1.1, section 3.3.3)
abbrev pub whole_value : List ℕ → ℤ
whole_value text = signed (has_minus text) (digits_value 10 (whole_part text))

-- each digit is 0
abbrev pub are_zeros : List ℕ → Bool
are_zeros digits = list_all (λ c. c == zero_digit) digits

-- the text is a decimal with no other digits than 0 behind its point, whose number is from -2^63 to 2^64 - 1
unfoldable pub is_whole : List ℕ → Bool
is_whole text = is_decimal text && (are_zeros (fraction_part text) && is_in_range (whole_value text))

-- the number as JSON has it, if it is such a number
abbrev pub whole_number : List ℕ → Option Num
whole_number text = if is_whole text then Some (of_integer (whole_value text)) else None

-- the text stands for the number that the digits of a whole number from -2^63 to 2^64 - 1 stand for
pub record IsWholeNumber (text : List ℕ) : Type 0 where
  pub decimal : is_decimal text ≡ true
  pub number : ℤ
  pub same : HasSameValue text (signed_decimal number)
  pub within : is_in_range number ≡ true
