-- What is spelled is read.
use Rattle.std.proofs.Common.{◌≡◌, ℕ, Bool, true, false, List, [], ◌∷◌, Option, Some, None, Ok, refl, ◌∙◌, inl, inr}
use Rattle.rdf_cursor.specs.Ahead.{Ahead, finished, next_is}
use Rattle.rdf_cursor.specs.Phrases.{Is, Many}
use Rattle.rdf_cursor.proofs.Completeness.{one_read, took, loop_read}
use Rattle.rdf_lex.specs.Tokens.{Spelled}
use Rattle.rdf_terms.specs.declared.terms.Term.{Term}
use Rattle.schema_tree.specs.declared.schema.Target as schema
use Rattle.rdf_cursor.specs.declared.stops.Fault.TheVariants.{Syntax}
use Rattle.shape_map.specs.declared.items.TriplePattern.{TriplePattern}
use Rattle.shape_map.specs.declared.items.Selector.{Selector}
use Rattle.shape_map.specs.declared.items.Item.{Item}
use Rattle.rdf_cursor.specs.declared.symbols.Symbol.{Symbol}
use Rattle.rdf_cursor.specs.declared.symbols.Symbol.TheVariants as symbol
use Rattle.term_tokens.specs.Scopes.{Scope}
use Rattle.term_tokens.specs.Terms.{name_in, iri_of, tagged_of, at_name_of, string_of, typed_of, shorthand_of, shorthands}
use Rattle.shape_map.specs.Meanings.{node_tags, node_tagged_of, blank_of, blank_target_of}
use Rattle.shape_map.specs.Reading.{iri, literal, resource, node, verb, or_any, of_subjects, of_objects, pattern, triples, selector, target, wish, asked, item, added, behind, items, all_items, shape_map}
use Rattle.rdf_cursor.specs.Symbols.{is_symbol, is_any}
use Rattle.shape_map.specs.Grammar as g
use Rattle.term_tokens.proofs.Literals as any
use Rattle.term_tokens.proofs.Literals.{iris, iri_begins}
use Rattle.term_tokens.proofs.Nexts.{Next, nexts, no_next, no_symbol, begins, first, single, guarded, guarded_one, any_next}
use Rattle.shape_map.proofs.Places.{consumes_behind}

-- what follows a node
abbrev after_node : List Symbol
after_node = symbol.At ∷ symbol.AtName ∷ symbol.AtStart ∷ symbol.CloseBrace ∷ []

abbrev aims : List Symbol
aims = symbol.At ∷ symbol.AtName ∷ symbol.AtStart ∷ []

-- what begins
abbrev pub resources : List Symbol
resources = symbol.BlankLabel ∷ iris

abbrev simples : List Symbol
simples = symbol.Str ∷ symbol.Integer ∷ symbol.Decimal ∷ symbol.Double ∷ symbol.True ∷ symbol.False ∷ resources

abbrev selectors : List Symbol
selectors = symbol.OpenBrace ∷ simples

abbrev subjects : List Symbol
subjects = symbol.Underscore ∷ resources

abbrev goals : List Symbol
goals = symbol.Start ∷ resources

pub tagged_begins : (lex : List ℕ) (x : Term) (ts r : Ahead Spelled) → Is (node_tagged_of lex) x ts r → Next node_tags ts
unfolding node_tagged_of
tagged_begins lex x ts r h = guarded node_tags (node_tagged_of lex) (tagged_of lex) (λ t. refl) x ts r h

pub blank_begins : (x : Term) (ts r : Ahead Spelled) → Is blank_of x ts r → Next (symbol.BlankLabel ∷ []) ts
unfolding blank_of
blank_begins x ts r h = guarded_one symbol.BlankLabel blank_of _ (λ t. refl) x ts r h

pub blank_target_begins : (x : schema.Target) (ts r : Ahead Spelled) → Is blank_target_of x ts r → Next (symbol.BlankLabel ∷ []) ts
unfolding blank_target_of
blank_target_begins x ts r h = guarded_one symbol.BlankLabel blank_target_of _ (λ t. refl) x ts r h

module _ (v : Scope) where
  pub at_name_begins : (x : List ℕ) (ts r : Ahead Spelled) → Is (at_name_of false v) x ts r → Next (symbol.AtName ∷ []) ts
  unfolding at_name_of
  at_name_begins x ts r h = guarded_one symbol.AtName (at_name_of false v) (name_in false v) (λ t. refl) x ts r h

  iri_read : (x : List ℕ) (ts r : Ahead Spelled) → Is (iri_of false v) x ts r → iri v ts ≡ Ok (x, r)
  unfolding iri
  iri_read x ts r h = one_read Syntax (iri_of false v) x ts r h

  literal_read : (x : Term) (ts r : Ahead Spelled) → g.Literal v x ts r → Next after_node r → literal v ts ≡ Ok (x, r)
  unfolding literal
  literal_read x ts r h f =
      any.literal_read node_tags (string_of false) node_tagged_of (typed_of false v) refl tagged_begins x ts r h (no_next after_node node_tags r refl f) (no_symbol after_node symbol.Carets r refl f)

  resource_read : (x : Term) (ts r : Ahead Spelled) → g.Resource v x ts r → resource v ts ≡ Ok (x, r)
  unfolding resource
  resource_read x ts r (inl (i, e, h)) = rw (no_symbol iris symbol.BlankLabel ts refl (iri_begins false v i ts r h), iri_read i ts r h, e) refl
  resource_read x ts r (inr h) = rw (single symbol.BlankLabel ts ∙ blank_begins x ts r h, one_read Syntax blank_of x ts r h) refl

  resource_begins : (x : Term) (ts r : Ahead Spelled) → g.Resource v x ts r → Next resources ts
  resource_begins x ts r (inl (i, e, h)) = nexts iris resources ts refl (iri_begins false v i ts r h)
  resource_begins x ts r (inr h) = nexts (symbol.BlankLabel ∷ []) resources ts refl (blank_begins x ts r h)

  node_read : (x : Term) (ts r : Ahead Spelled) → g.Node v x ts r → Next after_node r → node v ts ≡ Ok (x, r)
  unfolding node
  node_read x ts r (inl (lex, (m, s, h))) f = rw (single symbol.Str ts ∙ any.string_begins false lex ts m s) (literal_read x ts r (lex, (m, s, h)) f)
  node_read x ts r (inr (inl h)) f =
      let n = any.shorthand_begins false x ts r h in rw (no_symbol shorthands symbol.Str ts refl n, n, one_read Syntax (shorthand_of false) x ts r h) refl
  node_read x ts r (inr (inr h)) f =
      let n = resource_begins x ts r h in rw (no_symbol resources symbol.Str ts refl n, no_next resources shorthands ts refl n) (resource_read x ts r h)

  node_begins : (x : Term) (ts r : Ahead Spelled) → g.Node v x ts r → Next simples ts
  node_begins x ts r (inl (lex, (m, s, h))) = nexts (symbol.Str ∷ []) simples ts refl (any.string_begins false lex ts m s)
  node_begins x ts r (inr (inl h)) = nexts shorthands simples ts refl (any.shorthand_begins false x ts r h)
  node_begins x ts r (inr (inr h)) = nexts resources simples ts refl (resource_begins x ts r h)

  verb_read : (p : Term) (ts r : Ahead Spelled) → g.Verb v p ts r → verb v ts ≡ Ok (p, r)
  unfolding verb
  verb_read p ts r (inl (e, (w, h))) = rw (begins symbol.A w ts r h, took symbol.A w ts r h, e) refl
  verb_read p ts r (inr (i, e, h)) = rw (no_symbol iris symbol.A ts refl (iri_begins false v i ts r h), iri_read i ts r h, e) refl

  object_read : (o : Option Term) (ts r : Ahead Spelled) → g.OrAny v (g.Node v) o ts r → Next after_node r → or_any v (node v) ts ≡ Ok (o, r)
  unfolding or_any
  object_read None ts r (w, h) f = rw (begins symbol.Underscore w ts r h, took symbol.Underscore w ts r h) refl
  object_read (Some x) ts r h f = rw (no_symbol simples symbol.Underscore ts refl (node_begins x ts r h), node_read x ts r h f) refl

  subject_read : (o : Option Term) (ts r : Ahead Spelled) → g.OrAny v (g.Resource v) o ts r → (or_any v (resource v) ts ≡ Ok (o, r)) × Next subjects ts
  unfolding or_any
  subject_read None ts r (w, h) = (rw (begins symbol.Underscore w ts r h, took symbol.Underscore w ts r h) refl, nexts (symbol.Underscore ∷ []) subjects ts refl (first symbol.Underscore w ts r h))
  subject_read (Some x) ts r h =
      let n = resource_begins x ts r h in (rw (no_symbol resources symbol.Underscore ts refl n, resource_read x ts r h) refl, nexts resources subjects ts refl n)

  subjects_read : (x : TriplePattern) (ts r : Ahead Spelled) → g.OfSubjects v x ts r → Next after_node r → of_subjects v ts ≡ Ok (x, r)
  unfolding of_subjects
  subjects_read x ts r (p, o, e, (m, (w, f), (n, h, k))) a = rw (took symbol.Focus w ts m f, verb_read p m n h, object_read o n r k a, e) refl

  objects_read : (x : TriplePattern) (ts r : Ahead Spelled) → g.OfObjects v x ts r → (of_objects v ts ≡ Ok (x, r)) × Next subjects ts
  unfolding of_objects
  objects_read x ts r (o, p, e, (m, k, (n, h, (w, f)))) = let s = subject_read o ts m k in (rw (s.0, verb_read p m n h, took symbol.Focus w n r f, e) refl, s.1)

  triples_read : (x : TriplePattern) (ts r : Ahead Spelled) → g.Triples v x ts r → triples v ts ≡ Ok (x, r)
  unfolding triples pattern
  triples_read x ts r (m, (w, o), (n, inl (p, q, e, (l, (z, f), k)), (y, c))) =
      let a = subjects_read x m n (p, q, e, (l, (z, f), k)) (nexts (symbol.CloseBrace ∷ []) after_node n refl (first symbol.CloseBrace y n r c)) in
      rw (took symbol.OpenBrace w ts m o, begins symbol.Focus z m l f, a, took symbol.CloseBrace y n r c) refl
  triples_read x ts r (m, (w, o), (n, inr h, (y, c))) =
      let a = objects_read x m n h in
      rw (took symbol.OpenBrace w ts m o, no_symbol subjects symbol.Focus m refl a.1, a.0, took symbol.CloseBrace y n r c) refl

  selector_read : (s : Selector) (ts r : Ahead Spelled) → g.Selector v s ts r → Next after_node r → selector v ts ≡ Ok (s, r)
  unfolding selector
  selector_read s ts r (inl (x, e, h)) f = rw (no_symbol simples symbol.OpenBrace ts refl (node_begins x ts r h), node_read x ts r h f, e) refl
  selector_read s ts r (inr (x, e, (m, (w, o), h))) f = rw (begins symbol.OpenBrace w ts m o, triples_read x ts r (m, (w, o), h), e) refl

  selector_begins : (s : Selector) (ts r : Ahead Spelled) → g.Selector v s ts r → Next selectors ts
  selector_begins s ts r (inl (x, e, h)) = nexts simples selectors ts refl (node_begins x ts r h)
  selector_begins s ts r (inr (x, e, (m, (w, o), h))) = nexts (symbol.OpenBrace ∷ []) selectors ts refl (first symbol.OpenBrace w ts m o)

  target_read : (t : schema.Target) (ts r : Ahead Spelled) → g.Target v t ts r → (target v ts ≡ Ok (t, r)) × Next goals ts
  unfolding target
  target_read t ts r (inl (e, (w, h))) = (rw (begins symbol.Start w ts r h, took symbol.Start w ts r h, e) refl, nexts (symbol.Start ∷ []) goals ts refl (first symbol.Start w ts r h))
  target_read t ts r (inr (inl h)) =
      let n = blank_target_begins t ts r h in
      (rw (no_symbol (symbol.BlankLabel ∷ []) symbol.Start ts refl n, single symbol.BlankLabel ts ∙ n, one_read Syntax blank_target_of t ts r h) refl, nexts (symbol.BlankLabel ∷ []) goals ts refl n)
  target_read t ts r (inr (inr (i, e, h))) =
      let n = iri_begins false v i ts r h in
      (rw (no_symbol iris symbol.Start ts refl n, no_symbol iris symbol.BlankLabel ts refl n, iri_read i ts r h, e) refl, nexts iris goals ts refl n)

  wish_read : (t : schema.Target) (b : Bool) (ts r : Ahead Spelled) → g.Wish v t b ts r → wish v ts ≡ Ok ((t, b), r)
  unfolding wish
  wish_read t b ts r (inl (e, h)) = let a = target_read t ts r h in rw (no_symbol goals symbol.Exclamation ts refl a.1, a.0, e) refl
  wish_read t b ts r (inr (e, (m, (w, x), h))) = let a = target_read t m r h in rw (begins symbol.Exclamation w ts m x, took symbol.Exclamation w ts m x, a.0, e) refl

  asked_read : (t : schema.Target) (b : Bool) (ts r : Ahead Spelled) → g.Asked v t b ts r → (asked v ts ≡ Ok ((t, b), r)) × Next aims ts
  unfolding asked
  asked_read t b ts r (inl (e, i, (w, h))) = (rw (begins symbol.AtStart w ts r h, took symbol.AtStart w ts r h, e, i) refl, nexts (symbol.AtStart ∷ []) aims ts refl (first symbol.AtStart w ts r h))
  asked_read t b ts r (inr (inl (i, e, j, h))) =
      let n = at_name_begins i ts r h in
      (rw (no_symbol (symbol.AtName ∷ []) symbol.AtStart ts refl n, single symbol.AtName ts ∙ n, one_read Syntax (at_name_of false v) i ts r h, e, j) refl, nexts (symbol.AtName ∷ []) aims ts refl n)
  asked_read t b ts r (inr (inr (m, (w, h), k))) =
      let n = first symbol.At w ts m h in
      (rw (no_symbol (symbol.At ∷ []) symbol.AtStart ts refl n, no_symbol (symbol.At ∷ []) symbol.AtName ts refl n, took symbol.At w ts m h, wish_read t b m r k) refl, nexts (symbol.At ∷ []) aims ts refl n)

module _ (nodes labels : Scope) where
  item_read : (x : Item) (ts r : Ahead Spelled) → g.Item nodes labels x ts r → item nodes labels ts ≡ Ok (x, r)
  unfolding item
  item_read x ts r (s, t, b, e, (m, h, k)) =
      let a = asked_read labels t b m r k in rw (selector_read nodes s ts m h (nexts aims after_node m refl a.1), a.0, e) refl

  added_read : (so xs : List Item) (ts r : Ahead Spelled) → g.Added nodes labels so xs ts r → added nodes labels so ts ≡ Ok (xs, r)
  unfolding added
  added_read so xs ts r (x, e, h) = rw (item_read x ts r h, e) refl

  behind_read : (so xs : List Item) (ts r : Ahead Spelled) → g.Behind nodes labels so xs ts r → Unit {0} → behind nodes labels so ts ≡ Ok (xs, r)
  unfolding behind
  behind_read so xs ts r (m, (w, c), h) f = rw (took symbol.Comma w ts m c, added_read so xs m r h) refl

  behind_begins : (so xs : List Item) (ts r : Ahead Spelled) → g.Behind nodes labels so xs ts r → next_is (is_symbol symbol.Comma) ts ≡ true
  behind_begins so xs ts r (m, (w, c), h) = begins symbol.Comma w ts m c

  added_begins : (so xs : List Item) (ts r : Ahead Spelled) → g.Added nodes labels so xs ts r → next_is is_any ts ≡ true
  added_begins so xs ts r (x, e, (s, t, b, i, (m, h, k))) = any_next selectors ts (selector_begins nodes s ts m h)

  items_read : (first xs : List Item) (ts m : Ahead Spelled) → g.Added nodes labels [] first ts m → Many (g.Behind nodes labels) first xs m finished → items nodes labels [] ts ≡ Ok (xs, finished)
  unfolding items
  items_read first xs ts m h k =
      rw (added_read [] first ts m h)
      (loop_read (is_symbol symbol.Comma) (behind nodes labels) (g.Behind nodes labels) (λ r. Unit {0}) (consumes_behind nodes labels) behind_read behind_begins (λ m n. tt) first xs m finished k tt refl)

  pub map_read : (xs : List Item) (ts : Ahead Spelled) → g.ShapeMap nodes labels xs ts → shape_map nodes labels ts ≡ Ok (xs, finished)
  unfolding shape_map all_items
  map_read xs ts (inl (e, n)) = rw (n, e) refl
  map_read xs ts (inr (first, (m, h, k))) = rw (added_begins [] first ts m h, items_read first xs ts m h k) refl
