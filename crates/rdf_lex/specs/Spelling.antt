-- What characters spell a token of each kind (RDF 1.1 Turtle, section 6.5; RDF 1.1 N-Triples, section 7; ShEx 2.1, section 6).
use Rattle.std.specs.Prelude.{ℕ}
use Rattle.rdf_lex.specs.declared.kinds.Kind.{Kind}
use Rattle.rdf_lex.specs.declared.kinds.Kind.TheVariants as kinds
use Rattle.rdf_lex.specs.declared.kinds.Mode.{Mode}
use Rattle.rdf_lex.specs.declared.kinds.Mode.TheVariants.{NTriples, Turtle, Map, Schema}
use Rattle.rdf_lex.specs.Characters.{Class, digit, letter, letter_or_digit, hexadecimal, name_base, name_char, local_start, local_char, label_start, local_escaped, text_escaped, iri_char, short_char, long_char, line_end, turtle_mark, brace, schema_mark, pattern_start, pattern_char, flag, any_char}
use Rattle.rdf_lex.specs.Phrases.{Phrase, nothing, one, ◌⨾◌, ◌∣◌, each, char, maybe, some}

abbrev pub four_digits : Phrase
four_digits = one hexadecimal ⨾ one hexadecimal ⨾ one hexadecimal ⨾ one hexadecimal

-- UCHAR: `\u` with four or `\U` with eight hexadecimal digits ([26])
abbrev pub numeric_escape : Phrase
numeric_escape = char 92 ⨾ (char 117 ⨾ four_digits ∣ char 85 ⨾ four_digits ⨾ four_digits)

-- ECHAR ([159s])
abbrev pub text_escape : Phrase
text_escape = char 92 ⨾ one text_escaped

-- IRIREF: `<`, characters or UCHAR, `>` ([18])
abbrev pub iri_body : Phrase
iri_body = each (one iri_char ∣ numeric_escape)

abbrev pub iri_ref : Phrase
iri_ref = char 60 ⨾ iri_body ⨾ char 62

-- PN_PREFIX: begins with PN_CHARS_BASE, goes on with PN_CHARS or `.`, and does not end with `.` ([167s])
abbrev pub prefix : Phrase
prefix = one name_base ⨾ maybe (each (one name_char ∣ char 46) ⨾ one name_char)

-- PLX: `%` with two hexadecimal digits, or PN_LOCAL_ESC ([169s])
abbrev pub local_escape : Phrase
local_escape = char 37 ⨾ one hexadecimal ⨾ one hexadecimal ∣ char 92 ⨾ one local_escaped

-- PN_LOCAL ([168s])
abbrev pub local_name : Phrase
local_name = (one local_start ∣ local_escape) ⨾ maybe (each (one local_char ∣ char 46 ∣ local_escape) ⨾ (one local_char ∣ local_escape))

-- PNAME_NS ([139s])
abbrev pub pname_ns : Phrase
pname_ns = maybe prefix ⨾ char 58

-- PNAME_LN ([140s])
abbrev pub pname_ln : Phrase
pname_ln = maybe prefix ⨾ char 58 ⨾ local_name

-- BLANK_NODE_LABEL ([141s]), by what it may begin with and what may stand in it
abbrev pub blank_label : Class → Class → Phrase
blank_label begin within = char 95 ⨾ char 58 ⨾ one begin ⨾ maybe (each (one within ∣ char 46) ⨾ one within)

-- LANGTAG: `@`, letters, then groups of `-` with letters or digits ([144s])
abbrev pub lang_tag : Phrase
lang_tag = char 64 ⨾ some (one letter) ⨾ each (char 45 ⨾ some (one letter_or_digit))

-- `@` with PNAME_NS or PNAME_LN
abbrev pub at_name : Phrase
at_name = char 64 ⨾ (pname_ns ∣ pname_ln)

-- STRING_LITERAL_QUOTE and STRING_LITERAL_SINGLE_QUOTE ([22], [23])
abbrev pub short_body : ℕ → Phrase
short_body quote = each (one (short_char quote) ∣ text_escape ∣ numeric_escape)

abbrev pub short_text : ℕ → Phrase
short_text quote = char quote ⨾ short_body quote ⨾ char quote

-- STRING_LITERAL_LONG_QUOTE and STRING_LITERAL_LONG_SINGLE_QUOTE ([24], [25])
abbrev pub long_body : ℕ → Phrase
long_body quote = each (maybe (char quote ∣ char quote ⨾ char quote) ⨾ (one (long_char quote) ∣ text_escape ∣ numeric_escape))

abbrev pub long_text : ℕ → Phrase
long_text quote = char quote ⨾ char quote ⨾ char quote ⨾ long_body quote ⨾ char quote ⨾ char quote ⨾ char quote

-- String ([17])
abbrev pub any_text : Phrase
any_text = short_text 34 ∣ short_text 39 ∣ long_text 34 ∣ long_text 39

abbrev pub sign : Phrase
sign = maybe (char 43 ∣ char 45)

abbrev pub number_digits : Phrase
number_digits = some (one digit)

-- INTEGER ([19])
abbrev pub integer : Phrase
integer = sign ⨾ number_digits

-- DECIMAL ([20])
abbrev pub decimal : Phrase
decimal = sign ⨾ each (one digit) ⨾ char 46 ⨾ number_digits

-- EXPONENT ([154s])
abbrev pub exponent : Phrase
exponent = (char 101 ∣ char 69) ⨾ sign ⨾ number_digits

-- DOUBLE ([21])
abbrev pub double : Phrase
double = sign ⨾ (number_digits ⨾ char 46 ⨾ each (one digit) ⨾ exponent ∣ char 46 ⨾ number_digits ⨾ exponent ∣ number_digits ⨾ exponent)

-- REGEXP: a pattern between slashes, in which a backslash takes any character with it, and its flags (ShEx 2.1, section 6; own)
abbrev pub pattern_escape : Phrase
pattern_escape = char 92 ⨾ one any_char

abbrev pub pattern_body : Phrase
pattern_body = (one pattern_start ∣ pattern_escape) ⨾ each (one pattern_char ∣ pattern_escape)

abbrev pub pattern : Phrase
pattern = char 47 ⨾ pattern_body ⨾ char 47 ⨾ each (one flag)

-- the marks of each mode: `.` and `^^` in N-Triples; `, . ; ( ) [ ]` and `^^` in Turtle; `, . @ _ ! { }` and `^^` in shape maps; in ShExC
-- `, . ; ( ) [ ] @ { } | ~ = $ & * ? % + -` and `^ ^^ //`
abbrev pub mark : Mode → Phrase
mark NTriples = char 46 ∣ char 94 ⨾ char 94
mark Turtle = char 44 ∣ char 46 ∣ one turtle_mark ∣ char 94 ⨾ char 94
mark Map = char 44 ∣ char 46 ∣ char 64 ∣ char 95 ∣ char 33 ∣ one brace ∣ char 94 ⨾ char 94
mark Schema = char 44 ∣ char 46 ∣ one turtle_mark ∣ char 64 ∣ one brace ∣ one schema_mark ∣ char 43 ∣ char 45 ∣ char 94 ∣ char 94 ⨾ char 94 ∣ char 47 ⨾ char 47

abbrev pub Spelling : Mode → Kind → Phrase
Spelling m kinds.IriRef = iri_ref
Spelling m kinds.PnameNs = pname_ns
Spelling m kinds.PnameLn = pname_ln
Spelling Turtle kinds.BlankLabel = blank_label label_start name_char
Spelling NTriples kinds.BlankLabel = blank_label local_start local_char
Spelling Map kinds.BlankLabel = blank_label local_start local_char
Spelling Schema kinds.BlankLabel = blank_label label_start name_char
Spelling m kinds.LangTag = lang_tag
Spelling Map kinds.AtName = at_name
Spelling Schema kinds.AtName = at_name
Spelling NTriples kinds.AtName = nothing
Spelling Turtle kinds.AtName = nothing
Spelling m kinds.Str = any_text
Spelling m kinds.Integer = integer
Spelling m kinds.Decimal = decimal
Spelling m kinds.Double = double
Spelling m kinds.Word = some (one letter)
Spelling m kinds.Punct = mark m
Spelling NTriples kinds.Line = some (one line_end)
Spelling Turtle kinds.Line = nothing
Spelling Map kinds.Line = nothing
Spelling Schema kinds.Line = nothing
Spelling Schema kinds.Pattern = pattern
Spelling NTriples kinds.Pattern = nothing
Spelling Turtle kinds.Pattern = nothing
Spelling Map kinds.Pattern = nothing
