-- The grammar of shape maps (ShapeMap Structure and Language, section 3.1) with what each rule stands for. A rule relates what lies ahead before and behind
-- its tokens. The numbers in brackets are those of the rules of RDF 1.1 Turtle, section 6.5.
use Rattle.std.specs.Prelude.{◌≡◌, ℕ, Bool, true, false, List, [], ◌∷◌, ◌++◌, ◌⊎◌, Option, Some, None}
use Rattle.rdf_cursor.specs.Ahead.{Ahead, finished}
use Rattle.rdf_cursor.specs.Phrases.{Phrase, Is, Nothing, ◌⨾◌, Many}
use Rattle.rdf_cursor.specs.Marks.{Mark}
use Rattle.rdf_terms.specs.Vocabulary.{rdf_type}
use Rattle.rdf_terms.specs.declared.terms.Term.{Term}
use Rattle.rdf_lex.specs.Tokens.{Spelled}
use Rattle.schema_tree.specs.declared.schema.Target as goal
use Rattle.schema_tree.specs.declared.schema.Target.TheVariants as target
use Rattle.shape_map.specs.declared.items.Focus.TheVariants as focus
use Rattle.shape_map.specs.declared.items.TriplePattern.{TriplePattern}
use Rattle.shape_map.specs.declared.items.Selector as kind
use Rattle.shape_map.specs.declared.items.Selector.TheVariants as selector
use Rattle.shape_map.specs.declared.items.Item as whole
use Rattle.rdf_cursor.specs.declared.symbols.Symbol.TheVariants as symbol
use Rattle.term_tokens.specs.Scopes.{Scope}
use Rattle.term_tokens.specs.Literals as any
use Rattle.term_tokens.specs.Terms.{iri_of, at_name_of, iri_term, string_of, typed_of, shorthand_of}
use Rattle.shape_map.specs.Meanings.{node_tagged_of, blank_of, blank_target_of, iri_target}

-- nodes, by the base and the prefixes of the data
module _ (v : Scope) where
  -- RDFLiteral [128s]
  abbrev pub Literal : Term → Phrase Spelled
  Literal x ts r = any.Literal (string_of false) node_tagged_of (typed_of false v) x ts r

  -- iri [135s] or BLANK_NODE_LABEL [141s]
  abbrev pub Resource : Term → Phrase Spelled
  Resource x ts r = any.Resource (iri_of false v) blank_of x ts r

  -- a node: a literal [13], or an IRI or a blank node
  abbrev pub Node : Term → Phrase Spelled
  Node x ts r = Literal x ts r ⊎ (Is (shorthand_of false) x ts r ⊎ Resource x ts r)

  -- verb [9]: `a` or an IRI
  abbrev pub Verb : Term → Phrase Spelled
  Verb p ts r = ((iri_term rdf_type ≡ p) × Mark symbol.A ts r) ⊎ ((i : List ℕ) × (iri_term i ≡ p) × Is (iri_of false v) i ts r)

  -- `_` for any node, or the one that is asked for
  abbrev pub OrAny : (Term → Phrase Spelled) → Option Term → Phrase Spelled
  OrAny P None = Mark symbol.Underscore
  OrAny P (Some x) = P x

  -- the focus is the subject, or it is the object
  abbrev pub OfSubjects : TriplePattern → Phrase Spelled
  OfSubjects x ts r = (p : Term) × (o : Option Term) × (record { focus = focus.Subject; predicate = p; other = o } ≡ x) × (Mark symbol.Focus ⨾ Verb p ⨾ OrAny Node o) ts r

  abbrev pub OfObjects : TriplePattern → Phrase Spelled
  OfObjects x ts r = (o : Option Term) × (p : Term) × (record { focus = focus.Object; predicate = p; other = o } ≡ x) × (OrAny Resource o ⨾ Verb p ⨾ Mark symbol.Focus) ts r

  -- a triple pattern in its braces
  abbrev pub Triples : TriplePattern → Phrase Spelled
  Triples x = Mark symbol.OpenBrace ⨾ (λ ts r. OfSubjects x ts r ⊎ OfObjects x ts r) ⨾ Mark symbol.CloseBrace

  -- a node, or the nodes of a triple pattern
  abbrev pub Selector : kind.Selector → Phrase Spelled
  Selector s ts r = ((x : Term) × (selector.Node x ≡ s) × Node x ts r) ⊎ ((x : TriplePattern) × (selector.Triples x ≡ s) × Triples x ts r)

-- targets, by the base and the prefixes of the schema
module _ (v : Scope) where
  -- a label: an IRI or that of a blank node; or the start
  abbrev pub Target : goal.Target → Phrase Spelled
  Target t ts r = ((target.Start ≡ t) × Mark symbol.Start ts r) ⊎ (Is blank_target_of t ts r ⊎ ((i : List ℕ) × (iri_target i ≡ t) × Is (iri_of false v) i ts r))

  -- what is asked for: a target, and whether the node is to have it
  abbrev pub Wish : goal.Target → Bool → Phrase Spelled
  Wish t b ts r = ((true ≡ b) × Target t ts r) ⊎ ((false ≡ b) × (Mark symbol.Exclamation ⨾ Target t) ts r)

  -- what is asked for behind `@`, which may stand in the token of the target
  abbrev pub Asked : goal.Target → Bool → Phrase Spelled
  Asked t b ts r =
      ((target.Start ≡ t) × (true ≡ b) × Mark symbol.AtStart ts r)
      ⊎ (((i : List ℕ) × (iri_target i ≡ t) × (true ≡ b) × Is (at_name_of false v) i ts r) ⊎ (Mark symbol.At ⨾ Wish t b) ts r)

module _ (nodes labels : Scope) where
  -- an association: a selector, and what is asked for
  abbrev pub Item : whole.Item → Phrase Spelled
  Item x ts r = (s : kind.Selector) × (t : goal.Target) × (b : Bool) × (record { selector = s; target = t; want = b } ≡ x) × (Selector nodes s ⨾ Asked labels t b) ts r

  -- one that is added to others, and one behind a comma
  abbrev pub Added : List whole.Item → List whole.Item → Phrase Spelled
  Added so xs ts r = (x : whole.Item) × (so ++ x ∷ [] ≡ xs) × Item x ts r

  abbrev pub Behind : List whole.Item → List whole.Item → Phrase Spelled
  Behind so xs = Mark symbol.Comma ⨾ Added so xs

  -- a map: nothing, or items with commas between them
  abbrev pub ShapeMap : List whole.Item → Ahead Spelled → Type 0
  ShapeMap xs ts = (([] ≡ xs) × Nothing ts finished) ⊎ ((first : List whole.Item) × (Added [] first ⨾ Many Behind first xs) ts finished)
