-- Which texts are literals of which datatype (XML Schema Part 2, version 1.1).
use Rattle.std.specs.Prelude.{ℕ, ◌-◌, ◌^◌, ◌==◌, ◌&&◌, ◌||◌, Bool, true, List, [], ◌∷◌, length, drop, nat_eq, if◌then◌else◌, ℤ, pos, neg_ℤ, int_le}
use Rattle.std.specs.List.{before_first, after_first, starts_with}
use Rattle.std.specs.Str.{bytes_eq}
use lib.Chars.{codes}
use Rattle.xs_text.specs.Decimal.{is_decimal, is_integer, integer_value}
use Rattle.xs_text.specs.DateTime.{is_date_time}

-- each text is a string (section 3.3.1)
abbrev pub is_string : List ℕ → Bool
is_string text = true

-- section 3.3.2
unfoldable pub is_boolean : List ℕ → Bool
is_boolean text =
    bytes_eq text (codes "true") || bytes_eq text (codes "false")
    || bytes_eq text (codes "1") || bytes_eq text (codes "0")

-- A decimal, the letter, and an integer (scientificNotationNumeral, section 3.3.4). Without the letter nothing stands behind it, which is no integer
abbrev pub is_scientific : ℕ → List ℕ → Bool
is_scientific letter text =
    is_decimal (before_first (λ c. c == letter) text) && is_integer (after_first (λ c. c == letter) text)

-- float and double, sections 3.3.4 and 3.3.5: 101 is `e`, 69 is `E`
unfoldable pub is_float : List ℕ → Bool
is_float text =
    is_decimal text || is_scientific 101 text || is_scientific 69 text
    || bytes_eq text (codes "INF") || bytes_eq text (codes "+INF")
    || bytes_eq text (codes "-INF") || bytes_eq text (codes "NaN")

-- integers from a number on, up to a number, and both
abbrev pub is_integer_from : ℤ → List ℕ → Bool
is_integer_from low text = is_integer text && int_le low (integer_value text)

abbrev pub is_integer_to : ℤ → List ℕ → Bool
is_integer_to high text = is_integer text && int_le (integer_value text) high

abbrev pub is_integer_between : ℤ → ℤ → List ℕ → Bool
is_integer_between low high text = is_integer_from low text && is_integer_to high text

-- integers that a signed or an unsigned type of so many bits holds
abbrev pub is_signed : ℕ → List ℕ → Bool
is_signed bits = is_integer_between (neg_ℤ (pos (2 ^ (bits - 1)))) (pos (2 ^ (bits - 1) - 1))

abbrev pub is_unsigned : ℕ → List ℕ → Bool
is_unsigned bits = is_integer_between (pos 0) (pos (2 ^ bits - 1))

-- The datatypes by their names, each with the test of its literals. The integers are sections 3.4.13 to 3.4.25
abbrev pub lexical_spaces : List (List ℕ × (List ℕ → Bool))
lexical_spaces =
    (codes "string", is_string)
    ∷ (codes "boolean", is_boolean)
    ∷ (codes "decimal", is_decimal)
    ∷ (codes "float", is_float)
    ∷ (codes "double", is_float)
    ∷ (codes "dateTime", is_date_time)
    ∷ (codes "integer", is_integer)
    ∷ (codes "nonPositiveInteger", is_integer_to (pos 0))
    ∷ (codes "negativeInteger", is_integer_to (neg_ℤ (pos 1)))
    ∷ (codes "long", is_signed 64)
    ∷ (codes "int", is_signed 32)
    ∷ (codes "short", is_signed 16)
    ∷ (codes "byte", is_signed 8)
    ∷ (codes "nonNegativeInteger", is_integer_from (pos 0))
    ∷ (codes "unsignedLong", is_unsigned 64)
    ∷ (codes "unsignedInt", is_unsigned 32)
    ∷ (codes "unsignedShort", is_unsigned 16)
    ∷ (codes "unsignedByte", is_unsigned 8)
    ∷ (codes "positiveInteger", is_integer_from (pos 1))
    ∷ []

-- the test that stands beside the name in the rows; a name that stands in none has every text
abbrev pub passes_test_of : List (List ℕ × (List ℕ → Bool)) → List ℕ → List ℕ → Bool
passes_test_of [] name text = true
passes_test_of (row ∷ rows) name text =
    if bytes_eq name row.0 then row.1 text else passes_test_of rows name text

-- the datatypes' IRIs are this text and their names (section 3.1)
abbrev pub namespace : List ℕ
namespace = codes "http://www.w3.org/2001/XMLSchema#"

-- The text is in the lexical space of the datatype with this IRI; other datatypes than those above have every text
abbrev pub is_in_lexical_space : List ℕ → List ℕ → Bool
is_in_lexical_space iri text =
    if starts_with nat_eq iri namespace
    then passes_test_of lexical_spaces (drop (length namespace) iri) text else true

-- the datatypes whose values are decimals: decimal (section 3.3.3) and the integers (sections 3.4.13 to 3.4.25)
abbrev pub numeric_names : List (List ℕ)
numeric_names =
    codes "decimal" ∷ codes "integer" ∷ codes "nonPositiveInteger" ∷ codes "negativeInteger"
    ∷ codes "long" ∷ codes "int" ∷ codes "short" ∷ codes "byte"
    ∷ codes "nonNegativeInteger" ∷ codes "unsignedLong" ∷ codes "unsignedInt" ∷ codes "unsignedShort"
    ∷ codes "unsignedByte" ∷ codes "positiveInteger" ∷ []
