-- The terms of a shape map can stand on one line, and no target has a line feed in its text, by the rules of its grammar.
use Rattle.std.proofs.Common.{false, ◌≡◌, ℕ, Bool, List, [], ◌∷◌, ◌++◌, Option, Some, None, subst, ◌⊎◌, inl, inr, Contains}
use Rattle.std.specs.List.{AllByRecursion}
use Rattle.std.proofs.lemmas.List.Elements.{All-contains, All-from_recursion, All-cons, All-nil}
use Rattle.rdf_cursor.specs.Ahead.{Ahead, finished, prepend}
use Rattle.rdf_cursor.specs.Phrases.{Is, Phrase}
use Rattle.rdf_terms.specs.declared.terms.Term.{Term}
use Rattle.rdf_terms.proofs.OneLine.{Plain, plain_chars, lacks_feed}
use Rattle.rdf_terms.proofs.TermLines.{PlainTerm, untagged_string, has_line}
use Rattle.rdf_terms.specs.OneLine.{HasOneLine}
use Rattle.rdf_lex.specs.Tokens.{Spelled}
use Rattle.rdf_lex.specs.declared.kinds.Mode.TheVariants.{Map}
use Rattle.rdf_cursor.specs.declared.symbols.Symbol.{Symbol}
use Rattle.rdf_cursor.specs.declared.symbols.Symbol.TheVariants as symbol
use Rattle.term_tokens.specs.Scopes.{Scope}
use Rattle.term_tokens.specs.Terms.{iri_of, iri_term}
use Rattle.term_tokens.proofs.TokenLines.{AllFine, take_fine, many_plain, fine_tokens}
use Rattle.term_tokens.proofs.NameLines.{PlainNames, iri_clean, at_name_clean, typed_plain, shorthand_plain, plain_type, names_plain}
use Rattle.schema_tree.specs.Targets.{target_text}
use Rattle.schema_tree.specs.declared.schema.Target.{Target}
use Rattle.shape_map.specs.declared.items.Item.{Item}
use Rattle.shape_map.specs.declared.items.Selector.{Selector}
use Rattle.shape_map.specs.declared.items.Selector.TheVariants.{Node, Triples}
use Rattle.shape_map.specs.declared.items.TriplePattern.{TriplePattern}
use Rattle.shape_map.specs.Selection.{written}
use Rattle.shape_map.specs.Maps.{MapHasLines}
use Rattle.shape_map.specs.Grammar as g
use Rattle.rdf_cursor.specs.Marks.{Mark}
use Rattle.shape_map.proofs.NodeLines.{blank_plain, node_tagged_plain, start_plain, iri_target_plain, blank_target_plain}

-- the text of a target has no line feed
abbrev PlainTarget : Target → Type 0
PlainTarget t = Plain (target_text t)

abbrev pub PlainSelector : Selector → Type 0
PlainSelector (Node t) = PlainTerm t
PlainSelector (Triples x) = Unit {0}

pub record PlainItem (i : Item) : Type 0 where
  pub selector : PlainSelector i.selector
  pub target : Plain (target_text i.target)

marked : (a : Symbol) (ts r : Ahead Spelled) → Mark a ts r → AllFine ts → AllFine r
marked a ts r (t, (u, e, is)) h = (take_fine ts r u e h).1

module _ (v : Scope) (names : PlainNames v) where
  iri_plain : (i : List ℕ) (x : Term) (ts r : Ahead Spelled) → iri_term i ≡ x → Is (iri_of false v) i ts r → AllFine ts → PlainTerm x × AllFine r
  iri_plain i x ts r f (t, e, is) k = let c = iri_clean false v t i names is in (subst PlainTerm f (plain_chars i c.0 c.1), (take_fine ts r t e k).1)

  literal_plain : (x : Term) (ts r : Ahead Spelled) → g.Literal v x ts r → AllFine ts → PlainTerm x × AllFine r
  literal_plain x ts r (lex, (m, (t, e, is), inl (f, n))) k = (subst PlainTerm f untagged_string, subst AllFine n (take_fine ts m t e k).1)
  literal_plain x ts r (lex, (m, (t, e, is), inr (inl (u, f, tag)))) k = let i = take_fine m r u f (take_fine ts m t e k).1 in (node_tagged_plain lex u x i.0 tag, i.1)
  literal_plain x ts r (lex, (m, (t, e, is), inr (inr (n, c, (u, f, d))))) k =
      let i = take_fine n r u f (marked symbol.Carets m n c (take_fine ts m t e k).1) in (typed_plain false v lex u x names d, i.1)

  resource_plain : (x : Term) (ts r : Ahead Spelled) → g.Resource v x ts r → AllFine ts → PlainTerm x × AllFine r
  resource_plain x ts r (inl (i, f, p)) k = iri_plain i x ts r f p k
  resource_plain x ts r (inr (t, e, is)) k = let i = take_fine ts r t e k in (blank_plain t x i.0 is, i.1)

  node_plain : (x : Term) (ts r : Ahead Spelled) → g.Node v x ts r → AllFine ts → PlainTerm x × AllFine r
  node_plain x ts r (inl p) k = literal_plain x ts r p k
  node_plain x ts r (inr (inl (t, e, is))) k = (shorthand_plain false t x is, (take_fine ts r t e k).1)
  node_plain x ts r (inr (inr p)) k = resource_plain x ts r p k

  verb_plain : (p : Term) (ts r : Ahead Spelled) → g.Verb v p ts r → AllFine ts → PlainTerm p × AllFine r
  verb_plain p ts r (inl (f, m)) k = (subst PlainTerm f plain_type, marked symbol.A ts r m k)
  verb_plain p ts r (inr (i, f, is)) k = iri_plain i p ts r f is k

  other_fine : (P : Term → Phrase Spelled) → ((x : Term) (ts r : Ahead Spelled) → P x ts r → AllFine ts → PlainTerm x × AllFine r)
      → (o : Option Term) (ts r : Ahead Spelled) → g.OrAny v P o ts r → AllFine ts → AllFine r
  other_fine P each None ts r p k = marked symbol.Underscore ts r p k
  other_fine P each (Some x) ts r p k = (each x ts r p k).1

  pattern_fine : (x : TriplePattern) (ts r : Ahead Spelled) → g.OfSubjects v x ts r ⊎ g.OfObjects v x ts r → AllFine ts → AllFine r
  pattern_fine x ts r (inl (p, o, e, (m, f, (n, verb, q)))) k = other_fine (g.Node v) node_plain o n r q (verb_plain p m n verb (marked symbol.Focus ts m f k)).1
  pattern_fine x ts r (inr (o, p, e, (m, q, (n, verb, f)))) k = marked symbol.Focus n r f (verb_plain p m n verb (other_fine (g.Resource v) resource_plain o ts m q k)).1

  selector_plain : (s : Selector) (ts r : Ahead Spelled) → g.Selector v s ts r → AllFine ts → PlainSelector s × AllFine r
  selector_plain s ts r (inl (x, e, p)) k = let i = node_plain x ts r p k in (subst PlainSelector e i.0, i.1)
  selector_plain s ts r (inr (x, e, (m, c, (n, p, d)))) k = (subst PlainSelector e tt, marked symbol.CloseBrace n r d (pattern_fine x m n p (marked symbol.OpenBrace ts m c k)))

  target_plain : (t : Target) (ts r : Ahead Spelled) → g.Target v t ts r → AllFine ts → PlainTarget t × AllFine r
  target_plain t ts r (inl (e, m)) k = (subst PlainTarget e start_plain, marked symbol.Start ts r m k)
  target_plain t ts r (inr (inl (u, f, is))) k = let i = take_fine ts r u f k in (blank_target_plain u t i.0 is, i.1)
  target_plain t ts r (inr (inr (i, e, (u, f, is)))) k = (subst PlainTarget e (iri_target_plain i (iri_clean false v u i names is)), (take_fine ts r u f k).1)

  wish_plain : (t : Target) (b : Bool) (ts r : Ahead Spelled) → g.Wish v t b ts r → AllFine ts → PlainTarget t × AllFine r
  wish_plain t b ts r (inl (e, p)) k = target_plain t ts r p k
  wish_plain t b ts r (inr (e, (m, c, p))) k = target_plain t m r p (marked symbol.Exclamation ts m c k)

  asked_plain : (t : Target) (b : Bool) (ts r : Ahead Spelled) → g.Asked v t b ts r → AllFine ts → PlainTarget t × AllFine r
  asked_plain t b ts r (inl (e, f, m)) k = (subst PlainTarget e start_plain, marked symbol.AtStart ts r m k)
  asked_plain t b ts r (inr (inl (i, e, f, (u, d, is)))) k = (subst PlainTarget e (iri_target_plain i (at_name_clean false v u i names is)), (take_fine ts r u d k).1)
  asked_plain t b ts r (inr (inr (m, c, p))) k = wish_plain t b m r p (marked symbol.At ts m c k)

all_append : (xs ys : List Item) → AllByRecursion PlainItem xs → AllByRecursion PlainItem ys → AllByRecursion PlainItem (xs ++ ys)
all_append [] ys h k = k
all_append (x ∷ xs) ys (e, h) k = (e, all_append xs ys h k)

module _ (nodes labels : Scope) (a : PlainNames nodes) (b : PlainNames labels) where
  item_plain : (x : Item) (ts r : Ahead Spelled) → g.Item nodes labels x ts r → AllFine ts → PlainItem x × AllFine r
  item_plain x ts r (s, t, w, e, (m, p, q)) k =
      let i = selector_plain nodes a s ts m p k in
      let j = asked_plain labels b t w m r q i.1 in
      (subst PlainItem e (record { selector = i.0; target = j.0 }), j.1)

  added_plain : (so xs : List Item) (ts r : Ahead Spelled) → g.Added nodes labels so xs ts r → AllByRecursion PlainItem so → AllFine ts → AllByRecursion PlainItem xs × AllFine r
  added_plain so xs ts r (x, e, p) h k = let i = item_plain x ts r p k in (subst (AllByRecursion PlainItem) e (all_append so (x ∷ []) h (i.0, tt)), i.1)

  behind_plain : (so xs : List Item) (ts r : Ahead Spelled) → g.Behind nodes labels so xs ts r → AllByRecursion PlainItem so → AllFine ts → AllByRecursion PlainItem xs × AllFine r
  behind_plain so xs ts r (m, c, p) h k = added_plain so xs m r p h (marked symbol.Comma ts m c k)

  pub items_plain : (xs : List Item) (ts : Ahead Spelled) → g.ShapeMap nodes labels xs ts → AllFine ts → AllByRecursion PlainItem xs
  items_plain xs ts (inl (e, n)) k = subst (AllByRecursion PlainItem) e tt
  items_plain xs ts (inr (first, (m, p, others))) k =
      let i = added_plain [] first ts m p tt k in (many_plain (g.Behind nodes labels) (AllByRecursion PlainItem) behind_plain others i.0 i.1).0

written_plain : (s : Selector) (t : Term) → PlainSelector s → Contains (written s) t → HasOneLine t
written_plain (Node x) t h c = has_line t (All-contains PlainTerm (x ∷ []) t (All-cons PlainTerm x [] h (All-nil PlainTerm)) c)
written_plain (Triples x) t h c = absurd (All-contains (λ y. ⊥) [] t (All-nil (λ y. ⊥)) c)

pub map_plain : MapHasLines
map_plain nodes labels bytes items a b (ts, u, tokens, spelled) i c =
    let all = items_plain nodes labels (names_plain nodes a) (names_plain labels b) items (prepend ts finished) spelled (fine_tokens Map bytes ts u tokens) in
    let p = All-contains PlainItem items i (All-from_recursion PlainItem items all) c in
    (λ t d. written_plain i.selector t p.selector d, lacks_feed (target_text i.target) p.target)
