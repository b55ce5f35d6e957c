-- Digits and signs, as XML Schema Part 2 (version 1.1) writes numbers. A text is the list of its bytes.
use Rattle.std.specs.Prelude.{ℕ, ◌==◌, ◌||◌, ◌&&◌, Bool, false, List, [], ◌∷◌, length, nat_lt, if◌then◌else◌, ℤ, pos, neg_ℤ}
use Rattle.std.specs.List.{list_all}
use Rattle.std.specs.Char.{is_ascii_digit}

-- `+`, `-`, `.` and `0`
abbrev pub plus : ℕ
plus = 43

abbrev pub minus : ℕ
minus = 45

abbrev pub point : ℕ
point = 46

abbrev pub zero_digit : ℕ
zero_digit = 48

-- each character is one of the digits 0 to 9
abbrev pub are_digits : List ℕ → Bool
are_digits text = list_all is_ascii_digit text

-- one digit or more, and nothing else (unsignedNoDecimalPtNumeral, section 3.3.3)
abbrev pub is_numeral : List ℕ → Bool
is_numeral text = nat_lt 0 (length text) && are_digits text

abbrev pub is_sign : ℕ → Bool
is_sign c = c == plus || c == minus

-- the text without one sign at its front, where it has one
abbrev pub unsigned_part : List ℕ → List ℕ
unsigned_part [] = []
unsigned_part (c ∷ cs) = if is_sign c then cs else c ∷ cs

-- the text begins with `-`
abbrev pub has_minus : List ℕ → Bool
has_minus [] = false
has_minus (c ∷ cs) = c == minus

-- n, or minus n
abbrev pub signed : Bool → ℕ → ℤ
signed is_negative n = if is_negative then neg_ℤ (pos n) else pos n
