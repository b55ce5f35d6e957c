-- What single tokens of ShExC stand for, by a base and prefixes, or what is wrong with them (ShEx 2.1, section 6).
use Rattle.std.specs.Prelude.{ℕ, ◌^◌, Bool, false, ◌&&◌, not, List, [], ◌∷◌, length, map, Option, Some, None, Result, Ok, Err, nat_eq, nat_le, nat_lt, if◌then◌else◌}
use Rattle.std.specs.Char.{to_ascii_lowercase}
use Rattle.std.specs.List.{after_first}
use Rattle.std.specs.Str.{chars, all_ascii_digits}
use Rattle.std.specs.Str.Parse.{digits_value}
use Rattle.rdf_cursor.specs.Symbols.{same_symbol, is_symbol, is_among}
use Rattle.rdf_cursor.specs.declared.symbols.Symbol.{Symbol}
use Rattle.rdf_cursor.specs.declared.symbols.Symbol.TheVariants as symbol
use Rattle.rdf_lex.specs.Tokens.{Spelled}
use Rattle.rdf_terms.specs.declared.terms.Term.{Term}
use Rattle.node_constraint.specs.declared.Kind4.{Kind4}
use Rattle.node_constraint.specs.declared.Kind4.TheVariants as kind4
use Rattle.schema_documents.specs.declared.label.Label.{Label}
use Rattle.schema_documents.specs.declared.label.Label.TheVariants as label
use Rattle.term_tokens.specs.Scopes.{Scope}
use Rattle.term_tokens.specs.Terms as any
use Rattle.term_tokens.specs.Terms.{is_at, tags}
use Rattle.shexc_constraints.specs.declared.faults.Fault.{Fault}
use Rattle.shexc_constraints.specs.declared.faults.Fault.TheVariants.{Syntax, FacetNumber}
use Rattle.shexc_constraints.specs.Stops.{raised}
use Rattle.shexc_constraints.specs.Symbols.{numbers}

-- an IRI of these bytes, as a label
abbrev pub iri_label : List ℕ → Label
iri_label iri = label.Iri (chars iri)

-- tokens that stand for the same in every language, where no length is bounded
unfoldable pub iri_ref_of : Scope → Spelled → Result (List ℕ) Fault
iri_ref_of v t = raised (any.iri_ref_of false v t)

unfoldable pub iri_of : Scope → Spelled → Result (List ℕ) Fault
iri_of v t = raised (any.iri_of false v t)

unfoldable pub at_name_of : Scope → Spelled → Result (List ℕ) Fault
at_name_of v t = raised (any.at_name_of false v t)

unfoldable pub label_of : Spelled → Result (List ℕ) Fault
label_of t = raised (any.label_of false t)

unfoldable pub string_of : Spelled → Result (List ℕ) Fault
string_of t = raised (any.string_of false t)

unfoldable pub typed_of : Scope → List ℕ → Spelled → Result Term Fault
typed_of v lex t = raised (any.typed_of false v lex t)

unfoldable pub tagged_of : List ℕ → Spelled → Result Term Fault
tagged_of lex t = raised (any.tagged_of lex t)

unfoldable pub shorthand_of : Spelled → Result Term Fault
shorthand_of t = raised (any.shorthand_of false t)

-- a language tag, in lower case
unfoldable pub tag_of : Spelled → Result (List ℕ) Fault
tag_of t = if is_among tags t then Ok (map to_ascii_lowercase (chars (after_first is_at t.text))) else Err Syntax

-- the kind of nodes that a word names
abbrev pub kind_by : Symbol → Kind4
kind_by s = if same_symbol s symbol.Iri then kind4.Iri else (if same_symbol s symbol.Bnode then kind4.Bnode else (if same_symbol s symbol.NonLiteral then kind4.NonLiteral else kind4.Literal))

-- the value of digits, one or more, up to 4,294,967,295
unfoldable pub count_of : List ℕ → Option ℕ
count_of ds = if all_ascii_digits ds && (nat_lt 0 (length ds) && nat_lt (digits_value 10 ds) (2 ^ 32)) then Some (digits_value 10 ds) else None

-- whether `-` stands in front of digits, and the digits behind a sign
abbrev pub is_minus : List ℕ → Bool
is_minus [] = false
is_minus (c ∷ cs) = nat_eq c 45

abbrev pub unsigned : List ℕ → List ℕ
unsigned [] = []
unsigned (c ∷ cs) = if nat_eq c 45 then cs else (if nat_eq c 43 then cs else c ∷ cs)

-- a whole number from 0 to 4,294,967,295, where -0 is 0
abbrev pub whole_number : Bool → Option ℕ → Result ℕ Fault
whole_number minus None = Err FacetNumber
whole_number minus (Some n) = if minus && not (nat_eq n 0) then Err FacetNumber else Ok n

-- the number of a facet on lengths or digits
unfoldable pub facet_number_of : Spelled → Result ℕ Fault
facet_number_of t = if is_symbol symbol.Integer t then whole_number (is_minus t.text) (count_of (unsigned t.text)) else Err Syntax

-- the text of a number of a range facet
unfoldable pub range_number_of : Spelled → Result (List ℕ) Fault
range_number_of t = if is_among numbers t then Ok (chars t.text) else Err Syntax

-- a cardinality's number, of digits alone (own), and one that is not below another
abbrev pub limit_from : ℕ → Option ℕ → Result ℕ Fault
limit_from least None = Err Syntax
limit_from least (Some n) = if nat_le least n then Ok n else Err Syntax

unfoldable pub limit_of : ℕ → Spelled → Result ℕ Fault
limit_of least t = if is_symbol symbol.Integer t then limit_from least (count_of t.text) else Err Syntax
