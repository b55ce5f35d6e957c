-- What is read from the front of a list of tokens: one small definition for each rule of the grammar.
use Rattle.std.specs.Prelude.{Bool, ℕ, zero, suc, List, [], ◌++◌, Result, Ok, Err}
use Rattle.rdf_cursor.specs.Marks.{mark}
use Rattle.rdf_cursor.specs.Readers.{Reader, ◌>>=◌, give, refuse, one, either, loop, finish}
use Rattle.rdf_terms.specs.Vocabulary.{rdf_first, rdf_rest, rdf_nil, rdf_type}
use Rattle.rdf_terms.specs.declared.terms.Term.{Term}
use Rattle.rdf_lex.specs.Tokens.{Spelled}
use Rattle.graph_index.specs.declared.loading.TermTriple.{TermTriple}
use Rattle.rdf_cursor.specs.declared.stops.Fault.{Fault}
use Rattle.rdf_cursor.specs.declared.stops.Fault.TheVariants.{Syntax, Deep}
use Rattle.rdf_cursor.specs.declared.symbols.Symbol.{Symbol}
use Rattle.rdf_cursor.specs.declared.symbols.Symbol.TheVariants as symbol
use Rattle.term_tokens.specs.Literals.{literal_by, resource_by}
use Rattle.term_tokens.specs.Terms.{iri_ref_of, iri_of, prefix_of, string_of, typed_of, tagged_of, shorthand_of, iri_term, tags, shorthands, blank_of}
use Rattle.turtle_reader.specs.Meanings.{numbered, verbs}
use Rattle.turtle_reader.specs.States.{names_in, DocumentScope, added, declared, rebased, begun}
use Rattle.rdf_cursor.specs.Symbols.{is_symbol, is_other, is_among, is_any}

abbrev pub R : Type 0 → Type 0
R A = Reader Spelled Fault A

-- a reader of a term, which goes from scope to scope
abbrev pub Terms : Type 0
Terms = DocumentScope → R (Term × DocumentScope)

-- what was found without a token, or a fault at the next one
abbrev pub settled : {A : Type 0} → Result A Fault → R A
settled (Ok x) = give x
settled (Err f) = refuse f

-- With the flag, what is too long is a fault.
module _ (k : Bool) where
  unfoldable pub next_node : Terms
  next_node v = settled (numbered k v)

  unfoldable pub iri_ref : DocumentScope → R (List ℕ)
  iri_ref v = one Syntax (iri_ref_of k (names_in v))

  unfoldable pub iri : DocumentScope → R (List ℕ)
  iri v = one Syntax (iri_of k (names_in v))

  unfoldable pub literal : DocumentScope → R Term
  literal v = literal_by tags (string_of k) tagged_of (typed_of k (names_in v))

  unfoldable pub resource : DocumentScope → R Term
  resource v = resource_by (iri v) (blank_of k)

  unfoldable pub simple : DocumentScope → R Term
  simple v = either (is_symbol symbol.Str) (literal v) (either (is_among shorthands) (one Syntax (shorthand_of k)) (resource v))

  unfoldable pub verb : DocumentScope → R (List ℕ)
  verb v = either (is_symbol symbol.A) (mark symbol.A >>= λ _. give rdf_type) (iri v)

  -- the rules in which objects stand, for any reader of objects
  unfoldable pub one_object : Terms → Term → List ℕ → DocumentScope → R DocumentScope
  one_object obj s p v = obj v >>= λ x. give (added s p x.0 x.1)

  unfoldable pub comma : Terms → Term → List ℕ → DocumentScope → R DocumentScope
  comma obj s p v = mark symbol.Comma >>= λ _. one_object obj s p v

  unfoldable pub objects : Terms → Term → List ℕ → DocumentScope → R DocumentScope
  objects obj s p v = one_object obj s p v >>= loop (is_symbol symbol.Comma) (comma obj s p)

  unfoldable pub pair : Terms → Term → DocumentScope → R DocumentScope
  pair obj s v = verb v >>= λ p. objects obj s p v

  unfoldable pub semicolon : Terms → Term → DocumentScope → R DocumentScope
  semicolon obj s v = mark symbol.Semicolon >>= λ _. either (is_among verbs) (pair obj s v) (give v)

  unfoldable pub predicates : Terms → Term → DocumentScope → R DocumentScope
  predicates obj s v = pair obj s v >>= loop (is_symbol symbol.Semicolon) (semicolon obj s)

  -- `[ ]`, or `[` with predicates and objects of the node
  unfoldable pub node : Terms → Terms
  node obj v = do
    _ ← mark symbol.OpenBracket
    x ← next_node v
    w ← either (is_symbol symbol.CloseBracket) (give x.1) (predicates obj x.0 x.1)
    _ ← mark symbol.CloseBracket
    give (x.0, w)

  -- a member of a collection, which its cell comes before
  unfoldable pub in_cell : Terms → Term → Terms
  in_cell obj cell v = obj v >>= λ x. give (cell, added cell rdf_first x.0 x.1)

  unfoldable pub member : Terms → Terms
  member obj v = next_node v >>= λ x. in_cell obj x.0 x.1

  -- a further member, behind the cell of the last one
  unfoldable pub next_member : Terms → Term × DocumentScope → R (Term × DocumentScope)
  next_member obj a = next_node a.1 >>= λ x. in_cell obj x.0 (added a.0 rdf_rest x.0 x.1)

  unfoldable pub cells : Terms → Terms
  cells obj v = do
    first ← member obj v
    last ← loop (is_other symbol.CloseParenthesis) (next_member obj) first
    _ ← mark symbol.CloseParenthesis
    give (first.0, added last.0 rdf_rest (iri_term rdf_nil) last.1)

  unfoldable pub collection : Terms → Terms
  collection obj v = do
    _ ← mark symbol.OpenParenthesis
    either (is_symbol symbol.CloseParenthesis) (mark symbol.CloseParenthesis >>= λ _. give (iri_term rdf_nil, v)) (cells obj v)

  -- brackets that nest so deep at most
  unfoldable pub object : ℕ → Terms
  object zero v = either (is_symbol symbol.OpenBracket) (refuse Deep) (either (is_symbol symbol.OpenParenthesis) (refuse Deep) (simple v >>= λ x. give (x, v)))
  object (suc d) v = either (is_symbol symbol.OpenBracket) (node (object d) v) (either (is_symbol symbol.OpenParenthesis) (collection (object d) v) (simple v >>= λ x. give (x, v)))

  -- a statement about a collection, an IRI or a labelled node
  unfoldable pub subject : ℕ → Terms
  subject d v = either (is_symbol symbol.OpenParenthesis) (collection (object d) v) (resource v >>= λ x. give (x, v))

  unfoldable pub about_subject : ℕ → DocumentScope → R DocumentScope
  about_subject d v = subject d v >>= λ x. predicates (object (suc d)) x.0 x.1

  -- a statement that begins with `[`: behind `[ ]` predicates are wanted, behind a list with predicates they may follow
  unfoldable pub listed : ℕ → Term → DocumentScope → R DocumentScope
  listed d s v = do
    w ← predicates (object d) s v
    _ ← mark symbol.CloseBracket
    either (is_among verbs) (predicates (object (suc d)) s w) (give w)

  unfoldable pub about_node : ℕ → DocumentScope → R DocumentScope
  about_node d v = do
    _ ← mark symbol.OpenBracket
    x ← next_node v
    either (is_symbol symbol.CloseBracket) (mark symbol.CloseBracket >>= λ _. predicates (object (suc d)) x.0 x.1) (listed d x.0 x.1)

  unfoldable pub triples : ℕ → DocumentScope → R DocumentScope
  triples d v = either (is_symbol symbol.OpenBracket) (about_node d v) (about_subject d v)

  unfoldable pub ended : (DocumentScope → R DocumentScope) → DocumentScope → R DocumentScope
  ended p v = p v >>= λ w. mark symbol.Dot >>= λ _. give w

  unfoldable pub prefix_declaration : DocumentScope → R DocumentScope
  prefix_declaration v = mark symbol.PnameNs >>= λ t. iri_ref v >>= λ i. give (declared (prefix_of t) i v)

  unfoldable pub base_declaration : DocumentScope → R DocumentScope
  base_declaration v = iri_ref v >>= λ i. give (rebased i v)

  -- a declaration behind its keyword
  unfoldable pub behind : Symbol → (DocumentScope → R DocumentScope) → DocumentScope → R DocumentScope
  behind a p v = mark a >>= λ _. p v

  unfoldable pub statement : ℕ → DocumentScope → R DocumentScope
  statement d v =
      either (is_symbol symbol.AtPrefix) (behind symbol.AtPrefix (ended prefix_declaration) v) (either (is_symbol symbol.AtBase) (behind symbol.AtBase (ended base_declaration) v)
      (either (is_symbol symbol.SparqlPrefix) (behind symbol.SparqlPrefix prefix_declaration v) (either (is_symbol symbol.SparqlBase) (behind symbol.SparqlBase base_declaration v)
      (ended (triples d) v))))

  -- a further statement, whose triples go behind those of the statements before
  unfoldable pub further : ℕ → DocumentScope × List TermTriple → R (DocumentScope × List TermTriple)
  further d a = statement d a.0 >>= λ w. give (begun w, a.1 ++ w.triples)

  unfoldable pub document : ℕ → DocumentScope → R (DocumentScope × List TermTriple)
  document d v = loop is_any (further d) (v, []) >>= finish Syntax
