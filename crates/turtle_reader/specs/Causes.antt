-- What is wrong with the next token, by the base and the prefixes in force (RDF 1.1 Turtle, section 7.1).
use Rattle.std.specs.Prelude.{◌≡◌, ◌<◌, ◌+◌, true, false, ℕ, List, [], ◌∷◌, length, count_by, Some, None, Ok, encode_utf8_all}
use Rattle.std.specs.List.{after_first}
use Rattle.rdf_cursor.specs.Ahead.{Ahead, token, next_is}
use Rattle.rdf_lex.specs.Tokens.{Spelled}
use Rattle.term_tokens.specs.Meanings.{text_of}
use Rattle.rdf_cursor.specs.declared.stops.Fault.{Fault}
use Rattle.rdf_cursor.specs.declared.stops.Fault.TheVariants as faults
use Rattle.rdf_cursor.specs.declared.symbols.Symbol.{Symbol}
use Rattle.rdf_cursor.specs.declared.symbols.Symbol.TheVariants as symbol
use Rattle.term_tokens.specs.Terms.{max_text, is_colon, iri_of, prefix_of, names, shorthands}
use Rattle.turtle_reader.specs.Meanings.{max_anonymous}
use Rattle.turtle_reader.specs.States.{names_in, DocumentScope}
use Rattle.rdf_cursor.specs.Symbols.{is_symbol, is_among}

-- the base and the prefixes of a scope, which stay through a statement
abbrev pub bare : DocumentScope → DocumentScope
bare v = record v { next = 0; triples = [] }

-- the token stands for an IRI or a lexical form, or has a label, of too many bytes
pub data IsLong (v : DocumentScope) (t : Spelled) : Type 0 where
  by_iri : (iri : List ℕ) → iri_of false (names_in v) t ≡ Ok iri → max_text < length iri → IsLong v t
  by_label : is_symbol symbol.BlankLabel t ≡ true → max_text < length (after_first is_colon t.text) → IsLong v t
  by_string : is_symbol symbol.Str t ≡ true → (text : List ℕ) → text_of t ≡ Some text → max_text < length (encode_utf8_all text) → IsLong v t
  by_number : is_among shorthands t ≡ true → max_text < length t.text → IsLong v t

-- the brackets that open, and those that close
abbrev pub brackets : List Symbol
brackets = symbol.OpenBracket ∷ symbol.OpenParenthesis ∷ []

abbrev pub closing_brackets : List Symbol
closing_brackets = symbol.CloseBracket ∷ symbol.CloseParenthesis ∷ []

-- how deep brackets nest at most
abbrev pub max_depth : ℕ
max_depth = 64

-- so many brackets are open behind the tokens: those that opened, less those that closed
abbrev pub AreOpen : ℕ → List Spelled → Type 0
AreOpen n ts = count_by (is_among brackets) ts ≡ n + count_by (is_among closing_brackets) ts

-- which limit the tokens of a statement have come to, for each fault that counts them: as many brackets are open as may be; or there are at
-- least as many tokens as numbers were left for nodes before the statement
abbrev pub IsAtLimit : DocumentScope → Fault → List Spelled → Type 0
IsAtLimit v faults.Syntax inside = Unit {0}
IsAtLimit v faults.Deep inside = AreOpen max_depth inside
IsAtLimit v faults.Long inside = Unit {0}
IsAtLimit v faults.Prefix inside = Unit {0}
IsAtLimit v faults.Full inside = max_anonymous < v.next + length inside

-- what the next token has to be for each fault but `Syntax`: a bracket that opens, a token of a text that is too long, a name whose prefix is
-- not declared
abbrev pub Causes : DocumentScope → Fault → Ahead Spelled → Type 0
Causes v faults.Syntax rest = Unit {0}
Causes v faults.Deep rest = next_is (is_among brackets) rest ≡ true
Causes v faults.Long rest = (t : Spelled) × (more : Ahead Spelled) × (rest ≡ token t more) × IsLong v t
Causes v faults.Prefix rest = (t : Spelled) × (more : Ahead Spelled) × (rest ≡ token t more) × (is_among names t ≡ true) × (v.prefixes (prefix_of t) ≡ None)
Causes v faults.Full rest = Unit {0}
