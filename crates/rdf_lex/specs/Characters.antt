-- Sets of characters, as tables of ranges of code points.
use Rattle.std.specs.Prelude.{ℕ, Bool, false, List, [], ◌∷◌, ◌++◌, nat_eq, nat_le, ◌&&◌, ◌||◌, not}

-- ranges, each from a first code point to a last
abbrev pub Ranges : Type 0
Ranges = List (ℕ × ℕ)

abbrev pub within : Ranges → ℕ → Bool
within [] c = false
within (r ∷ rs) c = (nat_le r.0 c && nat_le c r.1) || within rs c

-- one character, those of a table, or all others
pub data Class : Type 0 where
  Only : ℕ → Class
  Among : Ranges → Class
  Except : Ranges → Class

abbrev pub has : Class → ℕ → Bool
has (Only d) c = nat_eq c d
has (Among rs) c = within rs c
has (Except rs) c = not (within rs c)

-- 0 to 9
abbrev pub digits : Ranges
digits = (48, 57) ∷ []

-- A to Z and a to z
abbrev pub letters : Ranges
letters = (65, 90) ∷ (97, 122) ∷ []

-- PN_CHARS_BASE (RDF 1.1 Turtle, section 6.5, [163s])
abbrev pub base_ranges : Ranges
base_ranges = letters ++ ((0xC0, 0xD6) ∷ (0xD8, 0xF6) ∷ (0xF8, 0x2FF) ∷ (0x370, 0x37D) ∷ (0x37F, 0x1FFF) ∷ (0x200C, 0x200D) ∷ (0x2070, 0x218F)
    ∷ (0x2C00, 0x2FEF) ∷ (0x3001, 0xD7FF) ∷ (0xF900, 0xFDCF) ∷ (0xFDF0, 0xFFFD) ∷ (0x10000, 0xEFFFF) ∷ [])

-- PN_CHARS_U ([164s]): those and `_`
abbrev pub start_ranges : Ranges
start_ranges = (95, 95) ∷ base_ranges

-- PN_CHARS ([166s]): those, `-`, digits, U+00B7, U+0300 to U+036F, U+203F to U+2040
abbrev pub name_ranges : Ranges
name_ranges = (45, 45) ∷ (0xB7, 0xB7) ∷ (0x300, 0x36F) ∷ (0x203F, 0x2040) ∷ digits ++ start_ranges

unfoldable pub digit : Class
digit = Among digits

unfoldable pub letter : Class
letter = Among letters

unfoldable pub letter_or_digit : Class
letter_or_digit = Among (digits ++ letters)

-- HEX ([171s])
unfoldable pub hexadecimal : Class
hexadecimal = Among (digits ++ ((65, 70) ∷ (97, 102) ∷ []))

unfoldable pub name_base : Class
name_base = Among base_ranges

unfoldable pub name_char : Class
name_char = Among name_ranges

-- what a local name may begin with as it is: PN_CHARS_U, `:` or a digit
unfoldable pub local_start : Class
local_start = Among ((58, 58) ∷ digits ++ start_ranges)

-- what a local name may end with as it is: PN_CHARS or `:`
unfoldable pub local_char : Class
local_char = Among ((58, 58) ∷ name_ranges)

-- what a label of a blank node may begin with: PN_CHARS_U or a digit
unfoldable pub label_start : Class
label_start = Among (digits ++ start_ranges)

-- what may stand behind a backslash in a local name: `_ ~ . - ! $ & ' ( ) * + , ; = / ? # @ %` (PN_LOCAL_ESC, [172s])
unfoldable pub local_escaped : Class
local_escaped = Among ((95, 95) ∷ (126, 126) ∷ (45, 47) ∷ (33, 33) ∷ (35, 44) ∷ (59, 59) ∷ (61, 61) ∷ (63, 64) ∷ [])

-- what may stand behind a backslash in a text: `t b n r f " ' \` (ECHAR, [159s])
unfoldable pub text_escaped : Class
text_escaped = Among ((116, 116) ∷ (98, 98) ∷ (110, 110) ∷ (114, 114) ∷ (102, 102) ∷ (34, 34) ∷ (39, 39) ∷ (92, 92) ∷ [])

-- what stands in an IRI as it is: all but U+0000 to U+0020 and `< > " { } | ^ ` \` (IRIREF, [18])
unfoldable pub iri_char : Class
iri_char = Except ((0, 32) ∷ (60, 60) ∷ (62, 62) ∷ (34, 34) ∷ (123, 125) ∷ (94, 94) ∷ (96, 96) ∷ (92, 92) ∷ [])

-- what stands in a text on one line as it is: all but its quotation mark, backslash, LF and CR ([22], [23])
unfoldable pub short_char : ℕ → Class
short_char quote = Except ((quote, quote) ∷ (92, 92) ∷ (10, 10) ∷ (13, 13) ∷ [])

-- the same on many lines: all but the quotation mark and backslash ([24], [25])
unfoldable pub long_char : ℕ → Class
long_char quote = Except ((quote, quote) ∷ (92, 92) ∷ [])

-- CR and LF
unfoldable pub line_end : Class
line_end = Among ((10, 10) ∷ (13, 13) ∷ [])

-- marks that Turtle and ShExC have and shape maps have not: `( ) ; [ ]`
unfoldable pub turtle_mark : Class
turtle_mark = Among ((40, 41) ∷ (59, 59) ∷ (91, 91) ∷ (93, 93) ∷ [])

-- braces, which shape maps and ShExC have
unfoldable pub brace : Class
brace = Among ((123, 123) ∷ (125, 125) ∷ [])

-- marks that only ShExC has: `| ~ = $ & * ? %` (ShEx 2.1, section 6)
unfoldable pub schema_mark : Class
schema_mark = Among ((36, 38) ∷ (42, 42) ∷ (61, 61) ∷ (63, 63) ∷ (124, 124) ∷ (126, 126) ∷ [])

-- what a pattern may begin with as it is: all but `/ * \`, LF and CR (own: so that it is neither `//` nor a comment)
unfoldable pub pattern_start : Class
pattern_start = Except ((42, 42) ∷ (47, 47) ∷ (92, 92) ∷ (10, 10) ∷ (13, 13) ∷ [])

-- what stands in a pattern as it is: all but `/ \`, LF and CR (own)
unfoldable pub pattern_char : Class
pattern_char = Except ((47, 47) ∷ (92, 92) ∷ (10, 10) ∷ (13, 13) ∷ [])

-- a flag of a pattern: a to z (own)
unfoldable pub flag : Class
flag = Among ((97, 122) ∷ [])

-- any character, behind a backslash in a pattern
unfoldable pub any_char : Class
any_char = Except []
