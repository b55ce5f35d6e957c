-- Laws of the definitions. Each is claimed by a function of `src/laws.rt`.
use Rattle.std.specs.Prelude.{◌≡◌, ℕ, ◌^◌, ◌<◌, ◌≤◌, ◌↔◌, List, ◌++◌, ◌⊎◌, IsTrue, ℤ, pos, ◌*ℤ◌, unsigned_abs}
use Rattle.std.specs.List.{list_any}
use Rattle.std.specs.Str.{bytes_eq}
use Rattle.xs_text.specs.Datatype.{namespace, numeric_names, is_in_lexical_space}
use Rattle.xs_text.specs.DateTime.{is_date_time}
use Rattle.xs_text.specs.Grammar.{SpellsDecimal, SpellsDateTime}
use Rattle.xs_text.specs.Decimal.{is_decimal, is_integer, unscaled_value, scale, IsBelow, HasSameValue, fraction_digit_count, total_digit_count}

-- the test of decimal texts is the grammar
abbrev pub DecimalsAreSpelled : Type 0
DecimalsAreSpelled = (text : List ℕ) → IsTrue (is_decimal text) ↔ SpellsDecimal text

-- the test of dateTime is the grammar
abbrev pub DateTimesAreSpelled : Type 0
DateTimesAreSpelled = (text : List ℕ) → IsTrue (is_date_time text) ↔ SpellsDateTime text

-- of two decimals one is below the other, or they are the same number
abbrev pub OrderIsTotal : Type 0
OrderIsTotal = (a b : List ℕ) → IsBelow a b ⊎ (HasSameValue a b ⊎ IsBelow b a)

-- and only one of these holds
abbrev pub OrderIsStrict : Type 0
OrderIsStrict = (a b : List ℕ) → IsBelow a b → (¬ HasSameValue a b) × (¬ IsBelow b a)

abbrev pub OrderIsTransitive : Type 0
OrderIsTransitive = (a b c : List ℕ) → IsBelow a b → IsBelow b c → IsBelow a c

-- to have the same value is an equality
abbrev pub SameValueIsReflexive : Type 0
SameValueIsReflexive = (a : List ℕ) → HasSameValue a a

abbrev pub SameValueIsSymmetric : Type 0
SameValueIsSymmetric = (a b : List ℕ) → HasSameValue a b → HasSameValue b a

abbrev pub SameValueIsTransitive : Type 0
SameValueIsTransitive = (a b c : List ℕ) → HasSameValue a b → HasSameValue b c → HasSameValue a c

-- and texts of the same value stand alike in the order
abbrev pub OrderIsOfValues : Type 0
OrderIsOfValues = (a b c : List ℕ) → HasSameValue a b → (IsBelow a c → IsBelow b c) × (IsBelow c a → IsBelow c b)

-- each of these is decided
abbrev pub OrderIsDecided : Type 0
OrderIsDecided = (a b : List ℕ) → (IsBelow a b ⊎ (¬ IsBelow a b)) × (HasSameValue a b ⊎ (¬ HasSameValue a b))

-- each integer text is a decimal text
abbrev pub IntegersAreDecimals : Type 0
IntegersAreDecimals = (text : List ℕ) → IsTrue (is_integer text) → IsTrue (is_decimal text)

-- each text of a numeric datatype is a decimal text
abbrev pub NumericTextsAreDecimals : Type 0
NumericTextsAreDecimals = (name text : List ℕ) → IsTrue (list_any (bytes_eq name) numeric_names)
    → IsTrue (is_in_lexical_space (namespace ++ name) text) → IsTrue (is_decimal text)

-- the number of a decimal text is i / 10 ^ n
abbrev pub IsQuotient : List ℕ → ℤ → ℕ → Type 0
IsQuotient text i n = unscaled_value text *ℤ pos (10 ^ n) ≡ i *ℤ pos (10 ^ scale text)

-- A decimal has at most f digits behind the point where it is i / 10 ^ n with n up to f (fractionDigits, section 4.3.12)
abbrev pub FractionDigitsAreLeast : Type 0
FractionDigitsAreLeast = (text : List ℕ) (f : ℕ) → IsTrue (is_decimal text)
    → (fraction_digit_count text ≤ f) ↔ ((i : ℤ) × (n : ℕ) × (n ≤ f) × IsQuotient text i n)

-- It has at most t digits where it is i / 10 ^ n with i below 10 ^ t and n up to t (totalDigits, section 4.3.11)
abbrev pub TotalDigitsAreLeast : Type 0
TotalDigitsAreLeast = (text : List ℕ) (t : ℕ) → IsTrue (is_decimal text) → 1 ≤ t
    → (total_digit_count text ≤ t) ↔ ((i : ℤ) × (n : ℕ) × (unsigned_abs i < 10 ^ t) × (n ≤ t) × IsQuotient text i n)
