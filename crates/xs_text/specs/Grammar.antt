-- Grammars of XML Schema Part 2 (version 1.1), each as a relation between a text and its parts.
use Rattle.std.specs.Prelude.{◌≡◌, ℕ, ◌≤◌, List, [], ◌∷◌, ◌++◌, length, ◌⊎◌, IsTrue}
use Rattle.std.specs.Str.Parse.{digits_value}
use Rattle.xs_text.specs.Digits.{plus, minus, point, are_digits, is_numeral, is_sign}
use Rattle.xs_text.specs.DateTime.{is_year, days_in_month, is_zero_fraction}

-- nothing, `+` or `-`
abbrev pub IsSign : List ℕ → Type 0
IsSign sign = (sign ≡ []) ⊎ ((sign ≡ plus ∷ []) ⊎ (sign ≡ minus ∷ []))

-- A decimal (decimalLexicalRep, section 3.3.3): digits, or digits, a point and more digits or none, or a point and digits
pub data SpellsDecimal (text : List ℕ) : Type 0 where
  no_point : (sign whole : List ℕ) → text ≡ sign ++ whole → IsSign sign → IsTrue (is_numeral whole) → SpellsDecimal text
  with_point : (sign whole fraction : List ℕ) → text ≡ sign ++ (whole ++ point ∷ fraction) → IsSign sign → IsTrue (is_numeral whole) → IsTrue (are_digits fraction) → SpellsDecimal text
  point_first : (sign fraction : List ℕ) → text ≡ sign ++ point ∷ fraction → IsSign sign → IsTrue (is_numeral fraction) → SpellsDecimal text

-- two digits, as a month, a day, an hour, a minute and a second have
abbrev pub IsTwoDigits : List ℕ → Type 0
IsTwoDigits text = (length text ≡ 2) × IsTrue (are_digits text)

-- nothing, or a point and digits (the end of secondFrag, section 3.3.7)
abbrev pub IsFraction : List ℕ → Type 0
IsFraction text = (text ≡ []) ⊎ ((digits : List ℕ) × (text ≡ point ∷ digits) × IsTrue (is_numeral digits))

-- from 00:00:00 to 23:59:59, or 24:00:00 with only zeros in a fraction (endOfDayFrag, section 3.3.7)
abbrev pub IsTimeOfDay : ℕ → ℕ → ℕ → List ℕ → Type 0
IsTimeOfDay hour minute second fraction =
    ((hour ≤ 23) × ((minute ≤ 59) × (second ≤ 59)))
    ⊎ ((hour ≡ 24) × ((minute ≡ 0) × ((second ≡ 0) × IsTrue (is_zero_fraction fraction))))

-- from 00:00 to 14:00
abbrev pub IsOffset : ℕ → ℕ → Type 0
IsOffset hours minutes = ((hours ≤ 13) × (minutes ≤ 59)) ⊎ ((hours ≡ 14) × (minutes ≡ 0))

-- A zone (timezoneFrag, section 3.3.7), or none; 90 is `Z`, 58 is `:`
pub data IsZone (text : List ℕ) : Type 0 where
  no_zone : text ≡ [] → IsZone text
  utc : text ≡ 90 ∷ [] → IsZone text
  offset : (sign : ℕ) (hours minutes : List ℕ) → text ≡ sign ∷ (hours ++ 58 ∷ minutes) → IsTrue (is_sign sign) → IsTwoDigits hours → IsTwoDigits minutes →
      IsOffset (digits_value 10 hours) (digits_value 10 minutes) → IsZone text

-- A dateTime (dateTimeLexicalRep, section 3.3.7): `-` or nothing, year, `-`, month, `-`, day, `T`, hour, `:`, minute, `:`, second, fraction, zone
pub record SpellsDateTime (text : List ℕ) : Type 0 where
  pub sign : List ℕ
  pub year : List ℕ
  pub month : List ℕ
  pub day : List ℕ
  pub hour : List ℕ
  pub minute : List ℕ
  pub second : List ℕ
  pub fraction : List ℕ
  pub zone : List ℕ
  pub spelled : text ≡ sign ++ (year ++ minus ∷ ((month ++ minus ∷ day) ++ 84 ∷ ((hour ++ 58 ∷ (minute ++ 58 ∷ second)) ++ (fraction ++ zone))))
  pub sign_form : (sign ≡ []) ⊎ (sign ≡ minus ∷ [])
  pub year_form : IsTrue (is_year year)
  pub month_digits : IsTwoDigits month
  pub month_from : 1 ≤ digits_value 10 month
  pub month_to : digits_value 10 month ≤ 12
  pub day_digits : IsTwoDigits day
  pub day_from : 1 ≤ digits_value 10 day
  pub day_to : digits_value 10 day ≤ days_in_month (digits_value 10 year) (digits_value 10 month)
  pub hour_digits : IsTwoDigits hour
  pub minute_digits : IsTwoDigits minute
  pub second_digits : IsTwoDigits second
  pub time_of_day : IsTimeOfDay (digits_value 10 hour) (digits_value 10 minute) (digits_value 10 second) fraction
  pub fraction_form : IsFraction fraction
  pub zone_form : IsZone zone
