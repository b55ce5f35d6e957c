-- Decimal texts of any length, and the numbers that they stand for (XML Schema Part 2, version 1.1).
use Rattle.std.specs.Prelude.{◌≡◌, ℕ, ◌+◌, ◌-◌, ◌^◌, ◌*◌, ◌==◌, ◌&&◌, Bool, List, ◌++◌, length, take, drop, nat_lt, max, ℤ, pos, ◌*ℤ◌, ◌<ℤ◌}
use Rattle.std.specs.List.{before_first, after_first, prefix_len, suffix_len}
use Rattle.std.specs.Str.Parse.{digits_value}
use Rattle.xs_text.specs.Digits.{point, zero_digit, are_digits, is_numeral, unsigned_part, has_minus, signed}

-- the digits before the point of a decimal text, and those behind it
abbrev pub whole_part : List ℕ → List ℕ
whole_part text = before_first (λ c. c == point) (unsigned_part text)

abbrev pub fraction_part : List ℕ → List ℕ
fraction_part text = after_first (λ c. c == point) (unsigned_part text)

-- a sign or none, and digits with a point among them or none (decimalLexicalRep, section 3.3.3)
abbrev pub is_decimal : List ℕ → Bool
is_decimal text =
    are_digits (whole_part text) && are_digits (fraction_part text)
    && nat_lt 0 (length (whole_part text) + length (fraction_part text))

-- a sign or none, and digits (noDecimalPtNumeral, section 3.3.3; integer, section 3.4.13)
abbrev pub is_integer : List ℕ → Bool
is_integer text = is_numeral (unsigned_part text)

-- the whole number that an integer text stands for
abbrev pub integer_value : List ℕ → ℤ
integer_value text = signed (has_minus text) (digits_value 10 (unsigned_part text))

-- A decimal text stands for the whole number of all its digits, divided by 10 for each digit behind the point (section 3.3.3)
abbrev pub unscaled_value : List ℕ → ℤ
unscaled_value text = signed (has_minus text) (digits_value 10 (whole_part text ++ fraction_part text))

abbrev pub scale : List ℕ → ℕ
scale text = length (fraction_part text)

-- a / 10 ^ f is below b / 10 ^ g, or is the same number (order and equality of decimal, section 3.3.3)
abbrev pub IsBelow : List ℕ → List ℕ → Type 0
IsBelow a b = (unscaled_value a *ℤ pos (10 ^ scale b)) <ℤ (unscaled_value b *ℤ pos (10 ^ scale a))

abbrev pub HasSameValue : List ℕ → List ℕ → Type 0
HasSameValue a b = unscaled_value a *ℤ pos (10 ^ scale b) ≡ unscaled_value b *ℤ pos (10 ^ scale a)

-- the whole part without the zeros at its front, and the fraction without those at its end
abbrev pub significant_whole : List ℕ → List ℕ
significant_whole text =
    drop (prefix_len (λ c. c == zero_digit) (whole_part text)) (whole_part text)

abbrev pub significant_fraction : List ℕ → List ℕ
significant_fraction text =
    take (length (fraction_part text) - suffix_len (λ c. c == zero_digit) (fraction_part text)) (fraction_part text)

-- how many digits the number has behind the point (fractionDigits, section 4.3.12)
abbrev pub fraction_digit_count : List ℕ → ℕ
fraction_digit_count text = length (significant_fraction text)

-- how many digits the number has, at least 1 (totalDigits, section 4.3.11)
abbrev pub total_digit_count : List ℕ → ℕ
total_digit_count text = max 1 (length (significant_whole text) + length (significant_fraction text))

-- the number of the digits before and behind a point, times a power of ten
abbrev pub scaled : List ℕ → List ℕ → ℕ → ℕ
scaled whole fraction places = digits_value 10 (whole ++ fraction) * 10 ^ places
