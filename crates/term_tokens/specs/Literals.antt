-- Literals, and IRIs or blank nodes, of any grammar (RDF 1.1 Turtle, section 6.5), as phrases and as readers. What each single
-- token stands for is given.
use Rattle.std.specs.Prelude.{◌≡◌, ℕ, List, ◌⊎◌, Result}
use Rattle.rdf_terms.specs.Vocabulary.{xsd_string}
use Rattle.rdf_terms.specs.declared.terms.Term.{Term}
use Rattle.rdf_lex.specs.Tokens.{Spelled}
use Rattle.rdf_cursor.specs.Marks.{Mark, mark}
use Rattle.rdf_cursor.specs.Phrases.{Phrase, Is, Nothing, ◌⨾◌}
use Rattle.rdf_cursor.specs.Readers.{Reader, ◌>>=◌, give, one, either}
use Rattle.rdf_cursor.specs.Symbols.{is_symbol, is_among}
use Rattle.rdf_cursor.specs.declared.stops.Fault.{Fault}
use Rattle.rdf_cursor.specs.declared.stops.Fault.TheVariants.{Syntax}
use Rattle.rdf_cursor.specs.declared.symbols.Symbol.{Symbol}
use Rattle.rdf_cursor.specs.declared.symbols.Symbol.TheVariants as symbol
use Rattle.term_tokens.specs.Terms.{iri_term, typed}

-- RDFLiteral [128s]: a string, alone, with a language tag, or with a datatype
abbrev pub Literal : (Spelled → Result (List ℕ) Fault) → (List ℕ → Spelled → Result Term Fault) → (List ℕ → Spelled → Result Term Fault) → Term → Phrase Spelled
Literal string tagged datatyped x ts r =
    (lex : List ℕ) × (Is string lex ⨾ (λ m q. ((typed lex xsd_string ≡ x) × Nothing m q) ⊎ (Is (tagged lex) x m q ⊎ (Mark symbol.Carets ⨾ Is (datatyped lex) x) m q))) ts r

-- iri [135s] or BLANK_NODE_LABEL [141s]
abbrev pub Resource : (Spelled → Result (List ℕ) Fault) → (Spelled → Result Term Fault) → Term → Phrase Spelled
Resource iri blank x ts r = ((i : List ℕ) × (iri_term i ≡ x) × Is iri i ts r) ⊎ Is blank x ts r

-- `^^` and a datatype behind a lexical form
abbrev pub datatyped_by : (Spelled → Result Term Fault) → Reader Spelled Fault Term
datatyped_by datatyped = mark symbol.Carets >>= λ _. one Syntax datatyped

-- a literal; the list has the symbols that are language tags
abbrev pub literal_by : List Symbol → (Spelled → Result (List ℕ) Fault) → (List ℕ → Spelled → Result Term Fault) → (List ℕ → Spelled → Result Term Fault) → Reader Spelled Fault Term
literal_by tags string tagged datatyped = one Syntax string >>= λ lex.
    either (is_among tags) (one Syntax (tagged lex)) (either (is_symbol symbol.Carets) (datatyped_by (datatyped lex)) (give (typed lex xsd_string)))

-- an IRI or a blank node
abbrev pub resource_by : Reader Spelled Fault (List ℕ) → (Spelled → Result Term Fault) → Reader Spelled Fault Term
resource_by iri blank = either (is_symbol symbol.BlankLabel) (one Syntax blank) (iri >>= λ i. give (iri_term i))
