-- The texts of dateTime (XML Schema Part 2, version 1.1, section 3.3.7, with the grammar of its fragments).
use Rattle.std.specs.Prelude.{ℕ, ◌+◌, ◌*◌, ◌%◌, ◌<◌, ◌==◌, ◌&&◌, ◌||◌, Bool, true, not, IsTrue, List, [], ◌∷◌, length, take, drop, nat_lt, nat_le, if◌then◌else◌, slice_index}
use lib.Chars.{codes}
use Rattle.std.specs.Char.{is_ascii_digit, digit_value}
use Rattle.std.specs.List.{list_all, before_first, after_first, prefix_len, zip}
use Rattle.std.specs.Str.Parse.{digits_value}
use Rattle.xs_text.specs.Digits.{minus, point, zero_digit, are_digits, is_sign, has_minus}

-- A character in the place of one of a picture: a digit for a `9`, and otherwise the same character
abbrev pub stands_for : ℕ → ℕ → Bool
stands_for c p = if p == 57 then is_ascii_digit c else c == p

-- each character of the text stands for one of the picture
unfoldable pub has_form : List ℕ → List ℕ → Bool
has_form picture text =
    length text == length picture && list_all (λ pair. stands_for pair.0 pair.1) (zip text picture)

-- two digits stand at a place
pub record HasDigits (place : ℕ) (text : List ℕ) : Type 0 where
  pub within : place + 1 < length text
  pub tens : IsTrue (is_ascii_digit (slice_index text place))
  pub ones : IsTrue (is_ascii_digit (slice_index text (place + 1)))

-- the number of the two digits at a place
unfoldable pub field : ℕ → List ℕ → ℕ
field place text = 10 * digit_value (slice_index text place) + digit_value (slice_index text (place + 1))

-- four digits, or more without a leading zero (yearFrag); 0000 is a year
unfoldable pub is_year : List ℕ → Bool
is_year text =
    are_digits text && (length text == 4 || nat_lt 4 (length text) && not (slice_index text 0 == zero_digit))

-- The usual rule, on the year without its sign
unfoldable pub is_leap_year : ℕ → Bool
is_leap_year year = year % 4 == 0 && (not (year % 100 == 0) || year % 400 == 0)

unfoldable pub days_in_month : ℕ → ℕ → ℕ
days_in_month year month =
    if month == 2 then (if is_leap_year year then 29 else 28)
    else (if month == 4 || month == 6 || month == 9 || month == 11 then 30 else 31)

-- monthFrag and dayFrag of `MM-DD`, the day within its month of that year
unfoldable pub is_day : ℕ → List ℕ → Bool
is_day year text =
    has_form (codes "99-99") text
    && nat_le 1 (field 0 text) && nat_le (field 0 text) 12
    && nat_le 1 (field 3 text) && nat_le (field 3 text) (days_in_month year (field 0 text))

-- hourFrag, minuteFrag and the whole seconds of secondFrag of `hh:mm:ss`, from 00:00:00 to 23:59:59
unfoldable pub is_time : List ℕ → Bool
is_time text =
    has_form (codes "99:99:99") text
    && nat_le (field 0 text) 23 && nat_le (field 3 text) 59 && nat_le (field 6 text) 59

-- How many characters at the front are a fraction of a second, a point and digits; 0 where there is none
unfoldable pub fraction_len : List ℕ → ℕ
fraction_len [] = 0
fraction_len (c ∷ cs) =
    if c == point && nat_lt 0 (prefix_len is_ascii_digit cs) then 1 + prefix_len is_ascii_digit cs else 0

-- only zeros behind the point
abbrev pub is_zero_fraction : List ℕ → Bool
is_zero_fraction text = list_all (λ c. c == zero_digit) (drop 1 text)

-- a time of day, or the end of the day as `24:00:00` with only zeros in a fraction (endOfDayFrag)
unfoldable pub is_time_with_fraction : List ℕ → List ℕ → Bool
is_time_with_fraction time fraction =
    is_time time || has_form (codes "24:00:00") time && is_zero_fraction fraction

-- `hh:mm` of a zone, from 00:00 to 14:00
unfoldable pub is_offset : List ℕ → Bool
is_offset text =
    has_form (codes "99:99") text
    && (nat_le (field 0 text) 13 && nat_le (field 3 text) 59 || field 0 text == 14 && field 3 text == 0)

-- nothing, `Z`, or a sign and an offset (timezoneFrag)
unfoldable pub is_zone : List ℕ → Bool
is_zone [] = true
is_zone (c ∷ cs) = c == 90 && length cs == 0 || is_sign c && is_offset cs

-- the text without a minus at its front, where it has one
abbrev pub without_minus : List ℕ → List ℕ
without_minus text = if has_minus text then drop 1 text else text

-- `MM-DDThh:mm:ss` in that year, then a fraction or none and a zone or none; 84 is `T`
unfoldable pub is_day_and_time : ℕ → List ℕ → Bool
is_day_and_time year text =
    let tail = drop 14 text in
    is_day year (take 5 text)
    && slice_index text 5 == 84
    && is_time_with_fraction (take 8 (drop 6 text)) (take (fraction_len tail) tail)
    && is_zone (drop (fraction_len tail) tail)

-- a minus or none, a year, `-`, and the rest (dateTimeLexicalRep)
unfoldable pub is_date_time : List ℕ → Bool
is_date_time text =
    let year = before_first (λ c. c == minus) (without_minus text) in
    is_year year && is_day_and_time (digits_value 10 year) (after_first (λ c. c == minus) (without_minus text))
