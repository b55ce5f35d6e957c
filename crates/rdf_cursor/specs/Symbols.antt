-- The terminal symbols of the grammars (RDF 1.1 Turtle, section 6.5; RDF 1.1 N-Triples, section 7; ShapeMap Structure and Language, section 3.1; ShEx 2.1,
-- section 6): the kind of a token, of a mark which one, and of a word or a tag whether it is a keyword of one of these languages.
use Rattle.std.specs.Prelude.{ℕ, Bool, false, true, List, [], ◌∷◌, Result, Ok, Err, codes, nat_eq, not, if◌then◌else◌, ◌||◌}
use Rattle.std.specs.Str.{bytes_eq, str_eq_ignore_ascii_case}
use Rattle.rdf_lex.specs.declared.kinds.Kind.{Kind}
use Rattle.rdf_lex.specs.declared.kinds.Kind.TheVariants as kinds
use Rattle.rdf_lex.specs.Tokens.{Spelled}
use Rattle.rdf_cursor.specs.declared.stops.Fault.{Fault}
use Rattle.rdf_cursor.specs.declared.stops.Fault.TheVariants.{Syntax}
use Rattle.rdf_cursor.specs.declared.symbols.Symbol.{Symbol}
use Rattle.rdf_cursor.specs.declared.symbols.Symbol.TheVariants as symbol

-- which mark that only ShExC has a text is
abbrev pub schema_mark : List ℕ → Symbol
schema_mark text =
    if bytes_eq text (codes "|") then symbol.Bar
    else (if bytes_eq text (codes "~") then symbol.Tilde
    else (if bytes_eq text (codes "-") then symbol.Minus
    else (if bytes_eq text (codes "=") then symbol.Equals
    else (if bytes_eq text (codes "$") then symbol.Dollar
    else (if bytes_eq text (codes "&") then symbol.Ampersand
    else (if bytes_eq text (codes "^") then symbol.Caret
    else (if bytes_eq text (codes "*") then symbol.Star
    else (if bytes_eq text (codes "+") then symbol.Plus
    else (if bytes_eq text (codes "?") then symbol.Question
    else (if bytes_eq text (codes "//") then symbol.Slashes
    else (if bytes_eq text (codes "%") then symbol.Percent
    else symbol.Other)))))))))))

-- which mark a text is
abbrev pub mark_of : List ℕ → Symbol
mark_of text =
    if bytes_eq text (codes ".") then symbol.Dot
    else (if bytes_eq text (codes ";") then symbol.Semicolon
    else (if bytes_eq text (codes ",") then symbol.Comma
    else (if bytes_eq text (codes "[") then symbol.OpenBracket
    else (if bytes_eq text (codes "]") then symbol.CloseBracket
    else (if bytes_eq text (codes "(") then symbol.OpenParenthesis
    else (if bytes_eq text (codes ")") then symbol.CloseParenthesis
    else (if bytes_eq text (codes "{") then symbol.OpenBrace
    else (if bytes_eq text (codes "}") then symbol.CloseBrace
    else (if bytes_eq text (codes "^^") then symbol.Carets
    else (if bytes_eq text (codes "@") then symbol.At
    else (if bytes_eq text (codes "!") then symbol.Exclamation
    else (if bytes_eq text (codes "_") then symbol.Underscore
    else schema_mark text))))))))))))

-- which keyword of a Shape a word is, or which other one
abbrev pub shape_word : List ℕ → Symbol
shape_word text =
    if str_eq_ignore_ascii_case text (codes "extra") then symbol.Extra
    else (if str_eq_ignore_ascii_case text (codes "closed") then symbol.Closed
    else (if str_eq_ignore_ascii_case text (codes "abstract") then symbol.Abstract
    else (if str_eq_ignore_ascii_case text (codes "extends") then symbol.Extends
    else (if str_eq_ignore_ascii_case text (codes "restricts") then symbol.Restricts
    else symbol.Other))))

-- which keyword of a range facet a word is, or which other one
abbrev pub range_word : List ℕ → Symbol
range_word text =
    if str_eq_ignore_ascii_case text (codes "mininclusive") then symbol.MinInclusive
    else (if str_eq_ignore_ascii_case text (codes "minexclusive") then symbol.MinExclusive
    else (if str_eq_ignore_ascii_case text (codes "maxinclusive") then symbol.MaxInclusive
    else (if str_eq_ignore_ascii_case text (codes "maxexclusive") then symbol.MaxExclusive
    else shape_word text)))

-- which keyword of a facet with a number of characters or digits a word is, or which other one
abbrev pub count_word : List ℕ → Symbol
count_word text =
    if str_eq_ignore_ascii_case text (codes "length") then symbol.Length
    else (if str_eq_ignore_ascii_case text (codes "minlength") then symbol.MinLength
    else (if str_eq_ignore_ascii_case text (codes "maxlength") then symbol.MaxLength
    else (if str_eq_ignore_ascii_case text (codes "totaldigits") then symbol.TotalDigits
    else (if str_eq_ignore_ascii_case text (codes "fractiondigits") then symbol.FractionDigits
    else range_word text))))

-- which keyword of a node kind a word is, or which other one
abbrev pub kind_word : List ℕ → Symbol
kind_word text =
    if str_eq_ignore_ascii_case text (codes "iri") then symbol.Iri
    else (if str_eq_ignore_ascii_case text (codes "bnode") then symbol.Bnode
    else (if str_eq_ignore_ascii_case text (codes "literal") then symbol.Literal
    else (if str_eq_ignore_ascii_case text (codes "nonliteral") then symbol.NonLiteral
    else count_word text)))

-- which keyword of an expression a word is, or which other one
abbrev pub logic_word : List ℕ → Symbol
logic_word text =
    if str_eq_ignore_ascii_case text (codes "and") then symbol.And
    else (if str_eq_ignore_ascii_case text (codes "or") then symbol.Or
    else (if str_eq_ignore_ascii_case text (codes "not") then symbol.Not
    else kind_word text))

-- which keyword of a document a word is, or which other one
abbrev pub document_word : List ℕ → Symbol
document_word text =
    if str_eq_ignore_ascii_case text (codes "start") then symbol.AnyStart
    else (if str_eq_ignore_ascii_case text (codes "prefix") then symbol.SparqlPrefix
    else (if str_eq_ignore_ascii_case text (codes "base") then symbol.SparqlBase
    else (if str_eq_ignore_ascii_case text (codes "import") then symbol.Import
    else (if str_eq_ignore_ascii_case text (codes "external") then symbol.External
    else logic_word text))))

-- which keyword a word is: those of SPARQL and of ShExC in any letter case (RDF 1.1 Turtle, section 6.5; ShEx 2.1, section 6)
abbrev pub word_of : List ℕ → Symbol
word_of text =
    if bytes_eq text (codes "a") then symbol.A
    else (if bytes_eq text (codes "true") then symbol.True
    else (if bytes_eq text (codes "false") then symbol.False
    else (if bytes_eq text (codes "FOCUS") then symbol.Focus
    else (if bytes_eq text (codes "START") then symbol.Start
    else document_word text))))

-- whether a tag is a keyword: `@prefix` and `@base` of Turtle, `@START` of shape maps
abbrev pub tag_of : List ℕ → Symbol
tag_of text =
    if bytes_eq text (codes "@prefix") then symbol.AtPrefix
    else (if bytes_eq text (codes "@base") then symbol.AtBase
    else (if bytes_eq text (codes "@START") then symbol.AtStart
    else symbol.LangTag))

-- the symbol that a token is
abbrev pub symbol_of : Kind → List ℕ → Symbol
symbol_of kinds.IriRef text = symbol.IriRef
symbol_of kinds.PnameNs text = symbol.PnameNs
symbol_of kinds.PnameLn text = symbol.PnameLn
symbol_of kinds.BlankLabel text = symbol.BlankLabel
symbol_of kinds.LangTag text = tag_of text
symbol_of kinds.AtName text = symbol.AtName
symbol_of kinds.Str text = symbol.Str
symbol_of kinds.Integer text = symbol.Integer
symbol_of kinds.Decimal text = symbol.Decimal
symbol_of kinds.Double text = symbol.Double
symbol_of kinds.Word text = word_of text
symbol_of kinds.Punct text = mark_of text
symbol_of kinds.Line text = symbol.Line
symbol_of kinds.Pattern text = symbol.Pattern

-- a number for each symbol, by which they are compared
abbrev pub number : Symbol → ℕ
number symbol.IriRef = 0
number symbol.PnameNs = 1
number symbol.PnameLn = 2
number symbol.BlankLabel = 3
number symbol.LangTag = 4
number symbol.AtPrefix = 5
number symbol.AtBase = 6
number symbol.AtStart = 7
number symbol.AtName = 8
number symbol.Str = 9
number symbol.Integer = 10
number symbol.Decimal = 11
number symbol.Double = 12
number symbol.Line = 13
number symbol.Pattern = 14
number symbol.A = 15
number symbol.True = 16
number symbol.False = 17
number symbol.Focus = 18
number symbol.Start = 19
number symbol.AnyStart = 20
number symbol.SparqlPrefix = 21
number symbol.SparqlBase = 22
number symbol.Import = 23
number symbol.External = 24
number symbol.And = 25
number symbol.Or = 26
number symbol.Not = 27
number symbol.Iri = 28
number symbol.Bnode = 29
number symbol.Literal = 30
number symbol.NonLiteral = 31
number symbol.Length = 32
number symbol.MinLength = 33
number symbol.MaxLength = 34
number symbol.TotalDigits = 35
number symbol.FractionDigits = 36
number symbol.MinInclusive = 37
number symbol.MinExclusive = 38
number symbol.MaxInclusive = 39
number symbol.MaxExclusive = 40
number symbol.Extra = 41
number symbol.Closed = 42
number symbol.Abstract = 43
number symbol.Extends = 44
number symbol.Restricts = 45
number symbol.Dot = 46
number symbol.Semicolon = 47
number symbol.Comma = 48
number symbol.OpenBracket = 49
number symbol.CloseBracket = 50
number symbol.OpenParenthesis = 51
number symbol.CloseParenthesis = 52
number symbol.OpenBrace = 53
number symbol.CloseBrace = 54
number symbol.Carets = 55
number symbol.At = 56
number symbol.Exclamation = 57
number symbol.Underscore = 58
number symbol.Bar = 59
number symbol.Tilde = 60
number symbol.Minus = 61
number symbol.Equals = 62
number symbol.Dollar = 63
number symbol.Ampersand = 64
number symbol.Caret = 65
number symbol.Star = 66
number symbol.Plus = 67
number symbol.Question = 68
number symbol.Slashes = 69
number symbol.Percent = 70
number symbol.Other = 71

abbrev pub same_symbol : Symbol → Symbol → Bool
same_symbol a b = nat_eq (number a) (number b)

-- the symbol is one of these
abbrev pub has : Symbol → List Symbol → Bool
has a [] = false
has a (b ∷ others) = same_symbol a b || has a others

-- the token is this symbol, another one, or one of these
unfoldable pub is_symbol : Symbol → Spelled → Bool
is_symbol a t = same_symbol (symbol_of t.kind t.text) a

unfoldable pub is_other : Symbol → Spelled → Bool
is_other a t = not (is_symbol a t)

unfoldable pub is_among : List Symbol → Spelled → Bool
is_among symbols t = has (symbol_of t.kind t.text) symbols

-- any token
abbrev pub is_any : Spelled → Bool
is_any t = true

-- a token that is this symbol, by itself
abbrev pub of_symbol : Symbol → Spelled → Result Spelled Fault
of_symbol a t = if is_symbol a t then Ok t else Err Syntax
