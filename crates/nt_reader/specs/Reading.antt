-- What is read from the front of the tokens, as functions; only the functions inside the crate speak of them.
use Rattle.std.specs.Prelude.{ℕ, Bool, List, [], ◌∷◌, ◌++◌}
use Rattle.rdf_terms.specs.declared.terms.Term.{Term}
use Rattle.rdf_cursor.specs.Marks.{mark}
use Rattle.rdf_cursor.specs.Readers.{Reader, ◌>>=◌, give, one, either, loop, finish}
use Rattle.rdf_cursor.specs.Symbols.{is_symbol, is_any}
use Rattle.rdf_cursor.specs.declared.stops.Fault.{Fault}
use Rattle.rdf_cursor.specs.declared.stops.Fault.TheVariants.{Syntax}
use Rattle.rdf_cursor.specs.declared.symbols.Symbol.TheVariants as symbol
use Rattle.rdf_lex.specs.Tokens.{Spelled}
use Rattle.graph_index.specs.declared.loading.TermTriple.{TermTriple}
use Rattle.term_tokens.specs.Literals.{literal_by, resource_by}
use Rattle.term_tokens.specs.Terms.{iri_term, absolute_of, blank_of, short_string_of, absolute_typed_of, tagged_of, tags}

abbrev pub R : Type 0 → Type 0
R A = Reader Spelled Fault A

unfoldable pub line_end : R (Unit {0})
line_end = either (is_symbol symbol.Line) (mark symbol.Line >>= λ _. give tt) (finish Syntax tt)

-- With the flag, what is too long is a fault.
module _ (k : Bool) where
  unfoldable pub iri : R (List ℕ)
  iri = one Syntax (absolute_of k)

  unfoldable pub subject : R Term
  subject = resource_by iri (blank_of k)

  unfoldable pub predicate : R Term
  predicate = iri >>= λ i. give (iri_term i)

  unfoldable pub literal : R Term
  literal = literal_by tags (short_string_of k) tagged_of (absolute_typed_of k)

  unfoldable pub object : R Term
  object = either (is_symbol symbol.Str) literal subject

  unfoldable pub statement : R TermTriple
  statement = do
    s ← subject
    p ← predicate
    o ← object
    _ ← mark symbol.Dot
    give (record { subject = s; predicate = p; object = o })

  unfoldable pub line : R (List TermTriple)
  line = either (is_symbol symbol.Line) (mark symbol.Line >>= λ _. give []) (statement >>= λ t. line_end >>= λ _. give (t ∷ []))

  -- one line more
  unfoldable pub line_behind : List TermTriple → R (List TermTriple)
  line_behind before = line >>= λ xs. give (before ++ xs)

  unfoldable pub document : R (List TermTriple)
  document = loop is_any line_behind [] >>= λ xs. finish Syntax xs
