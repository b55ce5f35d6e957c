-- The sets of symbols that rules of ShExC begin with (ShEx 2.1, section 6), and tokens that are one of them.
use Rattle.std.specs.Prelude.{List, [], ◌∷◌, ◌++◌, Result, Ok, Err, if◌then◌else◌}
use Rattle.rdf_cursor.specs.Phrases.{Phrase, Is}
use Rattle.rdf_cursor.specs.Readers.{one}
use Rattle.rdf_cursor.specs.Symbols.{symbol_of, is_symbol, is_among}
use Rattle.rdf_cursor.specs.declared.symbols.Symbol.{Symbol}
use Rattle.rdf_cursor.specs.declared.symbols.Symbol.TheVariants as symbol
use Rattle.rdf_lex.specs.Tokens.{Spelled}
use Rattle.term_tokens.specs.Terms.{names}
use Rattle.shexc_constraints.specs.declared.faults.Fault.{Fault}
use Rattle.shexc_constraints.specs.declared.faults.Fault.TheVariants.{Syntax}
use Rattle.shexc_constraints.specs.Stops.{R}

-- a token that is this symbol, by itself; the symbol of a token that is one of these
abbrev pub of_symbol : Symbol → Spelled → Result Spelled Fault
of_symbol a t = if is_symbol a t then Ok t else Err Syntax

abbrev pub of_word : List Symbol → Spelled → Result Symbol Fault
of_word words t = if is_among words t then Ok (symbol_of t.kind t.text) else Err Syntax

abbrev pub Mark : Symbol → Phrase Spelled
Mark a ts r = (t : Spelled) × Is (of_symbol a) t ts r

abbrev pub mark : Symbol → R Spelled
mark a = one Syntax (of_symbol a)

-- IRIs, and predicates
abbrev pub iris : List Symbol
iris = symbol.IriRef ∷ names

abbrev pub predicates : List Symbol
predicates = symbol.A ∷ iris

-- the words of facets: lengths, digits, ranges
abbrev pub lengths : List Symbol
lengths = symbol.Length ∷ symbol.MinLength ∷ symbol.MaxLength ∷ []

abbrev pub digit_counts : List Symbol
digit_counts = symbol.TotalDigits ∷ symbol.FractionDigits ∷ []

abbrev pub ranges : List Symbol
ranges = symbol.MinInclusive ∷ symbol.MinExclusive ∷ symbol.MaxInclusive ∷ symbol.MaxExclusive ∷ []

-- the numbers of range facets
abbrev pub numbers : List Symbol
numbers = symbol.Integer ∷ symbol.Decimal ∷ symbol.Double ∷ []

-- what facets on texts begin with, those on numbers, and all
abbrev pub text_facets : List Symbol
text_facets = symbol.Pattern ∷ lengths

abbrev pub number_facets : List Symbol
number_facets = digit_counts ++ ranges

abbrev pub all_facets : List Symbol
all_facets = text_facets ++ number_facets

-- the kinds of nodes that are no literals
abbrev pub node_kinds : List Symbol
node_kinds = symbol.Iri ∷ symbol.Bnode ∷ symbol.NonLiteral ∷ []

-- what constraints begin with that leave literals out or look at texts alone, and the others
abbrev pub non_literals : List Symbol
non_literals = node_kinds ++ text_facets

abbrev pub literal_kinds : List Symbol
literal_kinds = symbol.Literal ∷ symbol.OpenBracket ∷ iris

abbrev pub literal_constraints : List Symbol
literal_constraints = literal_kinds ++ number_facets

-- what references begin with
abbrev pub references : List Symbol
references = symbol.AtName ∷ symbol.At ∷ []
