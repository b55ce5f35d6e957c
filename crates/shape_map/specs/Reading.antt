-- What is read from the front of a list of tokens: one small definition for each rule of the grammar.
use Rattle.std.specs.Prelude.{Bool, true, false, ℕ, List, [], ◌∷◌, ◌++◌, Option, Some, None}
use Rattle.rdf_cursor.specs.Marks.{mark}
use Rattle.rdf_cursor.specs.Readers.{Reader, ◌>>=◌, give, one, either, loop, finish}
use Rattle.rdf_terms.specs.Vocabulary.{rdf_type}
use Rattle.rdf_terms.specs.declared.terms.Term.{Term}
use Rattle.rdf_lex.specs.Tokens.{Spelled}
use Rattle.schema_tree.specs.declared.schema.Target.{Target}
use Rattle.schema_tree.specs.declared.schema.Target.TheVariants as targets
use Rattle.rdf_cursor.specs.declared.stops.Fault.{Fault}
use Rattle.rdf_cursor.specs.declared.stops.Fault.TheVariants.{Syntax}
use Rattle.shape_map.specs.declared.items.Focus.TheVariants as focus
use Rattle.shape_map.specs.declared.items.TriplePattern.{TriplePattern}
use Rattle.shape_map.specs.declared.items.Selector.{Selector}
use Rattle.shape_map.specs.declared.items.Selector.TheVariants as selectors
use Rattle.shape_map.specs.declared.items.Item.{Item}
use Rattle.rdf_cursor.specs.declared.symbols.Symbol.TheVariants as symbol
use Rattle.term_tokens.specs.Scopes.{Scope}
use Rattle.term_tokens.specs.Literals.{literal_by, resource_by}
use Rattle.term_tokens.specs.Terms.{iri_of, at_name_of, iri_term, string_of, typed_of, shorthand_of, shorthands}
use Rattle.shape_map.specs.Meanings.{node_tags, node_tagged_of, blank_of, blank_target_of, iri_target}
use Rattle.rdf_cursor.specs.Symbols.{is_symbol, is_among, is_any}

abbrev pub R : Type 0 → Type 0
R A = Reader Spelled Fault A

-- nodes, by the base and the prefixes of the data
module _ (v : Scope) where
  unfoldable pub iri : R (List ℕ)
  iri = one Syntax (iri_of false v)

  unfoldable pub literal : R Term
  literal = literal_by node_tags (string_of false) node_tagged_of (typed_of false v)

  unfoldable pub resource : R Term
  resource = resource_by iri blank_of

  unfoldable pub node : R Term
  node = either (is_symbol symbol.Str) literal (either (is_among shorthands) (one Syntax (shorthand_of false)) resource)

  unfoldable pub verb : R Term
  verb = either (is_symbol symbol.A) (mark symbol.A >>= λ _. give (iri_term rdf_type)) (iri >>= λ i. give (iri_term i))

  unfoldable pub or_any : R Term → R (Option Term)
  or_any p = either (is_symbol symbol.Underscore) (mark symbol.Underscore >>= λ _. give None) (p >>= λ x. give (Some x))

  unfoldable pub of_subjects : R TriplePattern
  of_subjects = do
    _ ← mark symbol.Focus
    p ← verb
    o ← or_any node
    give (record { focus = focus.Subject; predicate = p; other = o })

  unfoldable pub of_objects : R TriplePattern
  of_objects = do
    o ← or_any resource
    p ← verb
    _ ← mark symbol.Focus
    give (record { focus = focus.Object; predicate = p; other = o })

  unfoldable pub pattern : R TriplePattern
  pattern = either (is_symbol symbol.Focus) of_subjects of_objects

  unfoldable pub triples : R TriplePattern
  triples = do
    _ ← mark symbol.OpenBrace
    x ← pattern
    _ ← mark symbol.CloseBrace
    give x

  unfoldable pub selector : R Selector
  selector = either (is_symbol symbol.OpenBrace) (triples >>= λ x. give (selectors.Triples x)) (node >>= λ x. give (selectors.Node x))

-- targets, by the base and the prefixes of the schema
module _ (v : Scope) where
  unfoldable pub target : R Target
  target = either (is_symbol symbol.Start) (mark symbol.Start >>= λ _. give targets.Start) (either (is_symbol symbol.BlankLabel) (one Syntax blank_target_of) (iri v >>= λ i. give (iri_target i)))

  unfoldable pub wish : R (Target × Bool)
  wish = either (is_symbol symbol.Exclamation) (mark symbol.Exclamation >>= λ _. target >>= λ t. give (t, false)) (target >>= λ t. give (t, true))

  unfoldable pub asked : R (Target × Bool)
  asked = either (is_symbol symbol.AtStart) (mark symbol.AtStart >>= λ _. give (targets.Start, true))
      (either (is_symbol symbol.AtName) (one Syntax (at_name_of false v) >>= λ i. give (iri_target i, true)) (mark symbol.At >>= λ _. wish))

module _ (nodes labels : Scope) where
  unfoldable pub item : R Item
  item = selector nodes >>= λ s. asked labels >>= λ a. give (record { selector = s; target = a.0; want = a.1 })

  -- an item that goes behind others
  unfoldable pub added : List Item → R (List Item)
  added so = item >>= λ x. give (so ++ x ∷ [])

  unfoldable pub behind : List Item → R (List Item)
  behind so = mark symbol.Comma >>= λ _. added so

  -- one item or more, that go behind others
  unfoldable pub items : List Item → R (List Item)
  items so = added so >>= loop (is_symbol symbol.Comma) behind

  unfoldable pub all_items : List Item → R (List Item)
  all_items so = either is_any (items so) (give so)

  unfoldable pub shape_map : R (List Item)
  shape_map = all_items [] >>= finish Syntax
