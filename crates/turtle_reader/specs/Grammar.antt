-- The grammar of Turtle (RDF 1.1 Turtle, section 6.5) with the triples that each rule stands for (section 7.3). A rule leads from a scope to
-- a scope, and relates what lies ahead before and behind its tokens. The numbers in brackets are those of the standard's rules.
use Rattle.std.specs.Prelude.{◌≡◌, Bool, ℕ, zero, suc, List, [], ◌++◌, ◌⊎◌, Ok}
use Rattle.rdf_cursor.specs.Ahead.{Ahead, finished}
use Rattle.rdf_cursor.specs.Phrases.{Phrase, Is, Nothing, ◌⨾◌, Many}
use Rattle.rdf_cursor.specs.Marks.{Mark}
use Rattle.rdf_terms.specs.Vocabulary.{rdf_first, rdf_rest, rdf_nil, rdf_type}
use Rattle.rdf_terms.specs.declared.terms.Term.{Term}
use Rattle.rdf_lex.specs.Tokens.{Spelled}
use Rattle.graph_index.specs.declared.loading.TermTriple.{TermTriple}
use Rattle.rdf_cursor.specs.declared.symbols.Symbol.TheVariants as symbol
use Rattle.term_tokens.specs.Literals as any
use Rattle.term_tokens.specs.Terms.{iri_ref_of, iri_of, prefix_of, string_of, typed_of, tagged_of, shorthand_of, iri_term, blank_of}
use Rattle.turtle_reader.specs.Meanings.{numbered}
use Rattle.turtle_reader.specs.States.{names_in, DocumentScope, added, declared, rebased, begun}
use Rattle.rdf_cursor.specs.Symbols.{of_symbol}

-- a phrase that leads from a scope to a scope, and one that stands for a term besides
abbrev pub Steps : Type 1
Steps = DocumentScope → DocumentScope → Phrase Spelled

abbrev pub Stands : Type 1
Stands = DocumentScope → Term → DocumentScope → Phrase Spelled

-- With the flag, texts have a length and nodes a number within the limits.
module _ (k : Bool) where
  -- the next anonymous node
  abbrev pub IsNext : DocumentScope → Term → DocumentScope → Type 0
  IsNext v x w = numbered k v ≡ Ok (x, w)

  -- RDFLiteral [128s]
  abbrev pub Literal : DocumentScope → Term → Phrase Spelled
  Literal v x ts r = any.Literal (string_of k) tagged_of (typed_of k (names_in v)) x ts r

  -- iri [135s] or BLANK_NODE_LABEL [141s]
  abbrev pub Resource : DocumentScope → Term → Phrase Spelled
  Resource v x ts r = any.Resource (iri_of k (names_in v)) (blank_of k) x ts r

  -- a term without brackets: a literal [13], or an IRI or a labelled node
  abbrev pub Simple : DocumentScope → Term → Phrase Spelled
  Simple v x ts r = Literal v x ts r ⊎ (Is (shorthand_of k) x ts r ⊎ Resource v x ts r)

  -- verb [9]: `a` or an IRI
  abbrev pub Verb : DocumentScope → List ℕ → Phrase Spelled
  Verb v p ts r = ((rdf_type ≡ p) × Mark symbol.A ts r) ⊎ Is (iri_of k (names_in v)) p ts r

  -- an object of a subject and a predicate, and one behind a comma
  abbrev pub OneObject : Stands → Term → List ℕ → Steps
  OneObject obj s p v w ts r = (x : Term) × (u : DocumentScope) × (added s p x u ≡ w) × obj v x u ts r

  abbrev pub Another : Stands → Term → List ℕ → Steps
  Another obj s p v w = Mark symbol.Comma ⨾ OneObject obj s p v w

  -- objectList [8]
  abbrev pub Objects : Stands → Term → List ℕ → Steps
  Objects obj s p v w ts r = (u : DocumentScope) × (OneObject obj s p v u ⨾ Many (Another obj s p) u w) ts r

  abbrev pub Pair : Stands → Term → Steps
  Pair obj s v w ts r = (p : List ℕ) × (Verb v p ⨾ Objects obj s p v w) ts r

  -- behind a semicolon a verb and its objects may stand, or nothing
  abbrev pub Further : Stands → Term → Steps
  Further obj s v w = Mark symbol.Semicolon ⨾ (λ ts r. Pair obj s v w ts r ⊎ ((v ≡ w) × Nothing ts r))

  -- predicateObjectList [7]
  abbrev pub Predicates : Stands → Term → Steps
  Predicates obj s v w ts r = (u : DocumentScope) × (Pair obj s v u ⨾ Many (Further obj s) u w) ts r

  -- blankNodePropertyList [14] or ANON [162s]: the node is numbered k where its bracket opens
  abbrev pub Inside : Stands → Term → Steps
  Inside obj x v w ts r = ((v ≡ w) × Nothing ts r) ⊎ Predicates obj x v w ts r

  abbrev pub Node : Stands → Stands
  Node obj v x w ts r = (u : DocumentScope) × IsNext v x u × (Mark symbol.OpenBracket ⨾ Inside obj x u w ⨾ Mark symbol.CloseBracket) ts r

  -- a member of a collection in a cell, which is numbered k where the member begins
  abbrev pub InCell : Stands → Term → Steps
  InCell obj cell v w ts r = (y : Term) × (u : DocumentScope) × (added cell rdf_first y u ≡ w) × obj v y u ts r

  abbrev pub Member : Stands → Stands
  Member obj v x w ts r = (u : DocumentScope) × IsNext v x u × InCell obj x u w ts r

  -- a further member, whose cell is the rest of the last one's
  abbrev pub Following : Stands → Term × DocumentScope → Term × DocumentScope → Phrase Spelled
  Following obj a b ts r = (u : DocumentScope) × IsNext a.1 b.0 u × InCell obj b.0 (added a.0 rdf_rest b.0 u) b.1 ts r

  abbrev pub Cells : Stands → Stands
  Cells obj v x w ts r = (f : Term × DocumentScope) × (l : Term × DocumentScope) × (f.0 ≡ x) × (added l.0 rdf_rest (iri_term rdf_nil) l.1 ≡ w)
      × (Member obj v f.0 f.1 ⨾ Many (Following obj) f l ⨾ Mark symbol.CloseParenthesis) ts r

  -- collection [15], section 2.8: no member is rdf:nil
  abbrev pub Members : Stands → Stands
  Members obj v x w ts r = ((iri_term rdf_nil ≡ x) × (v ≡ w) × Mark symbol.CloseParenthesis ts r) ⊎ Cells obj v x w ts r

  abbrev pub Collection : Stands → Stands
  Collection obj v x w = Mark symbol.OpenParenthesis ⨾ Members obj v x w

  -- object [12], in which brackets nest so deep at most
  unfoldable pub Object : ℕ → Stands
  Object zero v x w ts r = (v ≡ w) × Simple v x ts r
  Object (suc d) v x w ts r = ((v ≡ w) × Simple v x ts r) ⊎ (Node (Object d) v x w ts r ⊎ Collection (Object d) v x w ts r)

  -- subject [10], but `[ ]`
  abbrev pub Subject : ℕ → Stands
  Subject d v x w ts r = ((v ≡ w) × Resource v x ts r) ⊎ Collection (Object d) v x w ts r

  abbrev pub AboutSubject : ℕ → Steps
  AboutSubject d v w ts r = (s : Term) × (u : DocumentScope) × (Subject d v s u ⨾ Predicates (Object (suc d)) s u w) ts r

  -- behind a list with predicates of the node, further ones may stand
  abbrev pub Listed : ℕ → Term → Steps
  Listed d s v w ts r = (u : DocumentScope) × (Predicates (Object d) s v u ⨾ Mark symbol.CloseBracket ⨾ (λ m q. Predicates (Object (suc d)) s u w m q ⊎ ((u ≡ w) × Nothing m q))) ts r

  abbrev pub Unlisted : ℕ → Term → Steps
  Unlisted d s v w = Mark symbol.CloseBracket ⨾ Predicates (Object (suc d)) s v w

  abbrev pub AboutNode : ℕ → Steps
  AboutNode d v w ts r = (s : Term) × (u : DocumentScope) × IsNext v s u × (Mark symbol.OpenBracket ⨾ (λ m q. Unlisted d s u w m q ⊎ Listed d s u w m q)) ts r

  -- triples [6]
  abbrev pub Triples : ℕ → Steps
  Triples d v w ts r = AboutSubject d v w ts r ⊎ AboutNode d v w ts r

  abbrev pub Ended : Steps → Steps
  Ended P v w = P v w ⨾ Mark symbol.Dot

  -- prefixID [4] and sparqlPrefix [6s], base [5] and sparqlBase [5s], behind their keywords
  abbrev pub PrefixDeclaration : Steps
  PrefixDeclaration v w ts r = (t : Spelled) × (iri : List ℕ) × (declared (prefix_of t) iri v ≡ w) × (Is (of_symbol symbol.PnameNs) t ⨾ Is (iri_ref_of k (names_in v)) iri) ts r

  abbrev pub BaseDeclaration : Steps
  BaseDeclaration v w ts r = (iri : List ℕ) × (rebased iri v ≡ w) × Is (iri_ref_of k (names_in v)) iri ts r

  -- directive [3]
  abbrev pub Directive : Steps
  Directive v w ts r =
      (Mark symbol.AtPrefix ⨾ Ended PrefixDeclaration v w) ts r ⊎ ((Mark symbol.AtBase ⨾ Ended BaseDeclaration v w) ts r
      ⊎ ((Mark symbol.SparqlPrefix ⨾ PrefixDeclaration v w) ts r ⊎ (Mark symbol.SparqlBase ⨾ BaseDeclaration v w) ts r))

  -- statement [2]
  abbrev pub Statement : ℕ → Steps
  Statement d v w ts r = Directive v w ts r ⊎ Ended (Triples d) v w ts r

  -- a statement behind others: its triples are of the document, and none is left to the next one
  abbrev pub Behind : ℕ → DocumentScope × List TermTriple → DocumentScope × List TermTriple → Phrase Spelled
  Behind d a b ts r = (w : DocumentScope) × (begun w ≡ b.0) × (a.1 ++ w.triples ≡ b.1) × Statement d a.0 w ts r

  -- turtleDoc [1]: the scope at its end, and its triples
  abbrev pub Document : ℕ → DocumentScope → DocumentScope × List TermTriple → Ahead Spelled → Type 0
  Document d v x ts = Many (Behind d) (v, []) x ts finished
