-- The terms of Turtle can stand on one line, by the rules of its grammar.
use Rattle.std.proofs.Common.{◌≡◌, ℕ, zero, suc, true, List, subst, inl, inr, le_refl}
use Rattle.std.specs.List.{AllByRecursion}
use Rattle.std.specs.Str.{chars}
use Rattle.rdf_cursor.specs.Ahead.{Ahead, prepend, finished}
use Rattle.rdf_cursor.specs.Marks.{Mark}
use Rattle.rdf_cursor.specs.Phrases.{Is, Nothing}
use Rattle.rdf_terms.specs.declared.terms.Term.{Term}
use Rattle.rdf_terms.specs.Vocabulary.{rdf_first, rdf_rest, rdf_nil}
use Rattle.rdf_terms.proofs.OneLine.{Plain, plain_chars, Clean, clean_line, line_is}
use Rattle.rdf_terms.proofs.TermLines.{PlainTerm, untagged_string}
use Rattle.rdf_lex.specs.Tokens.{Spelled}
use Rattle.rdf_lex.specs.declared.kinds.Mode.TheVariants.{Turtle}
use Rattle.rdf_cursor.specs.declared.symbols.Symbol.{Symbol}
use Rattle.rdf_cursor.specs.declared.symbols.Symbol.TheVariants as symbol
use Rattle.term_tokens.specs.Terms.{prefix_of, iri_of, iri_term}
use Rattle.term_tokens.proofs.TokenLines.{AllFine, take_fine, many_plain, fine_tokens}
use Rattle.term_tokens.proofs.NameLines.{blank_plain, iri_ref_clean, iri_clean, typed_plain, tagged_plain, shorthand_plain, plain_type}
use Rattle.graph_index.specs.declared.loading.TermTriple.{TermTriple}
use Rattle.graph_index.proofs.LoadedLines.{PlainTriple, triples_are}
use Rattle.turtle_reader.specs.States.{names_in, DocumentScope, added, start}
use Rattle.turtle_reader.specs.Documents.{DocumentsHaveLines, inner_depth}
use Rattle.turtle_reader.specs.Grammar as g
use Rattle.turtle_reader.proofs.ScopeLines.{PlainScope, names_plain, numbered_plain, all_append, added_plain, declared_plain, rebased_plain, begun_plain, plain_first, plain_rest, plain_nil}

-- what a rule leaves: a scope and what lies ahead, and a term
abbrev Ends : DocumentScope → Ahead Spelled → Type 0
Ends w r = PlainScope w × AllFine r

abbrev Names : Term → DocumentScope → Ahead Spelled → Type 0
Names x w r = PlainTerm x × Ends w r

marked : (a : Symbol) (ts r : Ahead Spelled) → Mark a ts r → AllFine ts → AllFine r
marked a ts r (t, (u, e, is)) h = (take_fine ts r u e h).1

stay : (v w : DocumentScope) (ts r : Ahead Spelled) → v ≡ w → Nothing ts r → PlainScope v → AllFine ts → Ends w r
stay v w ts r e n h k = (subst PlainScope e h, subst AllFine n k)

iri_plain : (v : DocumentScope) (i : List ℕ) (x : Term) (ts r : Ahead Spelled) → iri_term i ≡ x → Is (iri_of true (names_in v)) i ts r → PlainScope v → AllFine ts → PlainTerm x × AllFine r
iri_plain v i x ts r f (t, e, is) h k = let c = iri_clean true (names_in v) t i (names_plain v h) is in (subst PlainTerm f (plain_chars i c.0 c.1), (take_fine ts r t e k).1)

literal_plain : (v : DocumentScope) (x : Term) (ts r : Ahead Spelled) → g.Literal true v x ts r → PlainScope v → AllFine ts → PlainTerm x × AllFine r
literal_plain v x ts r (lex, (m, (t, e, is), inl (f, n))) h k = (subst PlainTerm f untagged_string, subst AllFine n (take_fine ts m t e k).1)
literal_plain v x ts r (lex, (m, (t, e, is), inr (inl (u, f, tag)))) h k = let i = take_fine m r u f (take_fine ts m t e k).1 in (tagged_plain lex u x i.0 tag, i.1)
literal_plain v x ts r (lex, (m, (t, e, is), inr (inr (n, c, (u, f, d))))) h k =
    let i = take_fine n r u f (marked symbol.Carets m n c (take_fine ts m t e k).1) in (typed_plain true (names_in v) lex u x (names_plain v h) d, i.1)

resource_plain : (v : DocumentScope) (x : Term) (ts r : Ahead Spelled) → g.Resource true v x ts r → PlainScope v → AllFine ts → PlainTerm x × AllFine r
resource_plain v x ts r (inl (i, f, p)) h k = iri_plain v i x ts r f p h k
resource_plain v x ts r (inr (t, e, is)) h k = let i = take_fine ts r t e k in (blank_plain true t x i.0 is, i.1)

simple_plain : (v : DocumentScope) (x : Term) (ts r : Ahead Spelled) → g.Simple true v x ts r → PlainScope v → AllFine ts → PlainTerm x × AllFine r
simple_plain v x ts r (inl p) h k = literal_plain v x ts r p h k
simple_plain v x ts r (inr (inl (t, e, is))) h k = (shorthand_plain true t x is, (take_fine ts r t e k).1)
simple_plain v x ts r (inr (inr p)) h k = resource_plain v x ts r p h k

verb_plain : (v : DocumentScope) (p : List ℕ) (ts r : Ahead Spelled) → g.Verb true v p ts r → PlainScope v → AllFine ts → Plain (chars p) × AllFine r
verb_plain v p ts r (inl (f, m)) h k = (subst (λ (i : List ℕ). Plain (chars i)) f plain_type, marked symbol.A ts r m k)
verb_plain v p ts r (inr (t, e, is)) h k = let c = iri_clean true (names_in v) t p (names_plain v h) is in (plain_chars p c.0 c.1, (take_fine ts r t e k).1)

module _ (obj : g.Stands) (each : (v : DocumentScope) (x : Term) (w : DocumentScope) (ts r : Ahead Spelled) → obj v x w ts r → PlainScope v → AllFine ts → Names x w r) where
  one_plain : (s : Term) (p : List ℕ) → PlainTerm s → Plain (chars p) → (v w : DocumentScope) (ts r : Ahead Spelled) → g.OneObject true obj s p v w ts r → PlainScope v → AllFine ts → Ends w r
  one_plain s p a b v w ts r (x, u, e, o) h k = let i = each v x u ts r o h k in (subst PlainScope e (added_plain s p x u a b i.0 i.1.0), i.1.1)

  another_plain : (s : Term) (p : List ℕ) → PlainTerm s → Plain (chars p) → (v w : DocumentScope) (ts r : Ahead Spelled) → g.Another true obj s p v w ts r → PlainScope v → AllFine ts → Ends w r
  another_plain s p a b v w ts r (m, c, o) h k = one_plain s p a b v w m r o h (marked symbol.Comma ts m c k)

  objects_plain : (s : Term) (p : List ℕ) → PlainTerm s → Plain (chars p) → (v w : DocumentScope) (ts r : Ahead Spelled) → g.Objects true obj s p v w ts r → PlainScope v → AllFine ts → Ends w r
  objects_plain s p a b v w ts r (u, (m, o, others)) h k =
      let i = one_plain s p a b v u ts m o h k in many_plain (g.Another true obj s p) PlainScope (another_plain s p a b) others i.0 i.1

  pair_plain : (s : Term) → PlainTerm s → (v w : DocumentScope) (ts r : Ahead Spelled) → g.Pair true obj s v w ts r → PlainScope v → AllFine ts → Ends w r
  pair_plain s a v w ts r (p, (m, verb, o)) h k = let i = verb_plain v p ts m verb h k in objects_plain s p a i.0 v w m r o h i.1

  further_plain : (s : Term) → PlainTerm s → (v w : DocumentScope) (ts r : Ahead Spelled) → g.Further true obj s v w ts r → PlainScope v → AllFine ts → Ends w r
  further_plain s a v w ts r (m, c, inl p) h k = pair_plain s a v w m r p h (marked symbol.Semicolon ts m c k)
  further_plain s a v w ts r (m, c, inr (e, n)) h k = stay v w m r e n h (marked symbol.Semicolon ts m c k)

  predicates_plain : (s : Term) → PlainTerm s → (v w : DocumentScope) (ts r : Ahead Spelled) → g.Predicates true obj s v w ts r → PlainScope v → AllFine ts → Ends w r
  predicates_plain s a v w ts r (u, (m, p, others)) h k = let i = pair_plain s a v u ts m p h k in many_plain (g.Further true obj s) PlainScope (further_plain s a) others i.0 i.1

  inside_plain : (x : Term) → PlainTerm x → (v w : DocumentScope) (ts r : Ahead Spelled) → g.Inside true obj x v w ts r → PlainScope v → AllFine ts → Ends w r
  inside_plain x a v w ts r (inl (e, n)) h k = stay v w ts r e n h k
  inside_plain x a v w ts r (inr p) h k = predicates_plain x a v w ts r p h k

  node_plain : (v : DocumentScope) (x : Term) (w : DocumentScope) (ts r : Ahead Spelled) → g.Node true obj v x w ts r → PlainScope v → AllFine ts → Names x w r
  node_plain v x w ts r (u, n, (m, c, (q, p, d))) h k =
      let i = numbered_plain v x u h n in
      let j = inside_plain x i.0 u w m q p i.1 (marked symbol.OpenBracket ts m c k) in
      (i.0, (j.0, marked symbol.CloseBracket q r d j.1))

  cell_plain : (cell : Term) → PlainTerm cell → (v w : DocumentScope) (ts r : Ahead Spelled) → g.InCell true obj cell v w ts r → PlainScope v → AllFine ts → Ends w r
  cell_plain cell a v w ts r (y, u, e, o) h k = let i = each v y u ts r o h k in (subst PlainScope e (added_plain cell rdf_first y u a plain_first i.0 i.1.0), i.1.1)

  member_plain : (v : DocumentScope) (x : Term) (w : DocumentScope) (ts r : Ahead Spelled) → g.Member true obj v x w ts r → PlainScope v → AllFine ts → Names x w r
  member_plain v x w ts r (u, n, c) h k = let i = numbered_plain v x u h n in (i.0, cell_plain x i.0 u w ts r c i.1 k)

  following_plain : (a b : Term × DocumentScope) (ts r : Ahead Spelled) → g.Following true obj a b ts r → PlainTerm a.0 × PlainScope a.1 → AllFine ts → (PlainTerm b.0 × PlainScope b.1) × AllFine r
  following_plain a b ts r (u, n, c) h k =
      let i = numbered_plain a.1 b.0 u h.1 n in
      let j = cell_plain b.0 i.0 (added a.0 rdf_rest b.0 u) b.1 ts r c (added_plain a.0 rdf_rest b.0 u h.0 plain_rest i.0 i.1) k in
      ((i.0, j.0), j.1)

  cells_plain : (v : DocumentScope) (x : Term) (w : DocumentScope) (ts r : Ahead Spelled) → g.Cells true obj v x w ts r → PlainScope v → AllFine ts → Names x w r
  cells_plain v x w ts r (f, l, e, d, (m, first, (n, others, c))) h k =
      let i = member_plain v f.0 f.1 ts m first h k in
      let j = many_plain (g.Following true obj) (λ (a : Term × DocumentScope). PlainTerm a.0 × PlainScope a.1) following_plain others (i.0, i.1.0) i.1.1 in
      (subst PlainTerm e i.0, (subst PlainScope d (added_plain l.0 rdf_rest (iri_term rdf_nil) l.1 j.0.0 plain_rest plain_nil j.0.1), marked symbol.CloseParenthesis n r c j.1))

  members_plain : (v : DocumentScope) (x : Term) (w : DocumentScope) (ts r : Ahead Spelled) → g.Members true obj v x w ts r → PlainScope v → AllFine ts → Names x w r
  members_plain v x w ts r (inl (e, f, c)) h k = (subst PlainTerm e plain_nil, (subst PlainScope f h, marked symbol.CloseParenthesis ts r c k))
  members_plain v x w ts r (inr p) h k = cells_plain v x w ts r p h k

  collection_plain : (v : DocumentScope) (x : Term) (w : DocumentScope) (ts r : Ahead Spelled) → g.Collection true obj v x w ts r → PlainScope v → AllFine ts → Names x w r
  collection_plain v x w ts r (m, c, p) h k = members_plain v x w m r p h (marked symbol.OpenParenthesis ts m c k)

kept : (v w : DocumentScope) (x : Term) (r : Ahead Spelled) → v ≡ w → PlainScope v → PlainTerm x × AllFine r → Names x w r
kept v w x r e h k = (k.0, (subst PlainScope e h, k.1))

object_plain : (d : ℕ) (v : DocumentScope) (x : Term) (w : DocumentScope) (ts r : Ahead Spelled) → g.Object true d v x w ts r → PlainScope v → AllFine ts → Names x w r
unfolding g.Object
object_plain zero v x w ts r (e, p) h k = kept v w x r e h (simple_plain v x ts r p h k)
object_plain (suc d) v x w ts r (inl (e, p)) h k = kept v w x r e h (simple_plain v x ts r p h k)
object_plain (suc d) v x w ts r (inr (inl p)) h k = node_plain (g.Object true d) (object_plain d) v x w ts r p h k
object_plain (suc d) v x w ts r (inr (inr p)) h k = collection_plain (g.Object true d) (object_plain d) v x w ts r p h k

module _ (d : ℕ) where
  within : (s : Term) → PlainTerm s → (v w : DocumentScope) (ts r : Ahead Spelled) → g.Predicates true (g.Object true d) s v w ts r → PlainScope v → AllFine ts → Ends w r
  within s a v w ts r p h k = predicates_plain (g.Object true d) (object_plain d) s a v w ts r p h k

  outside : (s : Term) → PlainTerm s → (v w : DocumentScope) (ts r : Ahead Spelled) → g.Predicates true (g.Object true (suc d)) s v w ts r → PlainScope v → AllFine ts → Ends w r
  outside s a v w ts r p h k = predicates_plain (g.Object true (suc d)) (object_plain (suc d)) s a v w ts r p h k

  subject_plain : (v : DocumentScope) (x : Term) (w : DocumentScope) (ts r : Ahead Spelled) → g.Subject true d v x w ts r → PlainScope v → AllFine ts → Names x w r
  subject_plain v x w ts r (inl (e, p)) h k = kept v w x r e h (resource_plain v x ts r p h k)
  subject_plain v x w ts r (inr p) h k = collection_plain (g.Object true d) (object_plain d) v x w ts r p h k

  about_subject_plain : (v w : DocumentScope) (ts r : Ahead Spelled) → g.AboutSubject true d v w ts r → PlainScope v → AllFine ts → Ends w r
  about_subject_plain v w ts r (s, u, (m, p, q)) h k = let i = subject_plain v s u ts m p h k in outside s i.0 u w m r q i.1.0 i.1.1

  listed_plain : (s : Term) → PlainTerm s → (v w : DocumentScope) (ts r : Ahead Spelled) → g.Listed true d s v w ts r → PlainScope v → AllFine ts → Ends w r
  listed_plain s a v w ts r (u, (m, p, (n, c, inl q))) h k = let i = within s a v u ts m p h k in outside s a u w n r q i.0 (marked symbol.CloseBracket m n c i.1)
  listed_plain s a v w ts r (u, (m, p, (n, c, inr (e, f)))) h k = let i = within s a v u ts m p h k in stay u w n r e f i.0 (marked symbol.CloseBracket m n c i.1)

  about_node_plain : (v w : DocumentScope) (ts r : Ahead Spelled) → g.AboutNode true d v w ts r → PlainScope v → AllFine ts → Ends w r
  about_node_plain v w ts r (s, u, n, (m, c, inl (q, e, p))) h k =
      let i = numbered_plain v s u h n in outside s i.0 u w q r p i.1 (marked symbol.CloseBracket m q e (marked symbol.OpenBracket ts m c k))
  about_node_plain v w ts r (s, u, n, (m, c, inr p)) h k = let i = numbered_plain v s u h n in listed_plain s i.0 u w m r p i.1 (marked symbol.OpenBracket ts m c k)

  triples_plain : (v w : DocumentScope) (ts r : Ahead Spelled) → g.Triples true d v w ts r → PlainScope v → AllFine ts → Ends w r
  triples_plain v w ts r (inl p) h k = about_subject_plain v w ts r p h k
  triples_plain v w ts r (inr p) h k = about_node_plain v w ts r p h k

prefix_plain : (v w : DocumentScope) (ts r : Ahead Spelled) → g.PrefixDeclaration true v w ts r → PlainScope v → AllFine ts → Ends w r
prefix_plain v w ts r (t, iri, e, (m, (u, f, a), (q, i, b))) h k =
    (subst PlainScope e (declared_plain (prefix_of t) iri v (iri_ref_clean true (names_in v) q iri (names_plain v h) b) h), (take_fine m r q i (take_fine ts m u f k).1).1)

base_plain : (v w : DocumentScope) (ts r : Ahead Spelled) → g.BaseDeclaration true v w ts r → PlainScope v → AllFine ts → Ends w r
base_plain v w ts r (iri, e, (t, f, a)) h k = (subst PlainScope e (rebased_plain iri v (iri_ref_clean true (names_in v) t iri (names_plain v h) a) h), (take_fine ts r t f k).1)

directive_plain : (v w : DocumentScope) (ts r : Ahead Spelled) → g.Directive true v w ts r → PlainScope v → AllFine ts → Ends w r
directive_plain v w ts r (inl (m, c, (n, p, d))) h k = let i = prefix_plain v w m n p h (marked symbol.AtPrefix ts m c k) in (i.0, marked symbol.Dot n r d i.1)
directive_plain v w ts r (inr (inl (m, c, (n, p, d)))) h k = let i = base_plain v w m n p h (marked symbol.AtBase ts m c k) in (i.0, marked symbol.Dot n r d i.1)
directive_plain v w ts r (inr (inr (inl (m, c, p)))) h k = prefix_plain v w m r p h (marked symbol.SparqlPrefix ts m c k)
directive_plain v w ts r (inr (inr (inr (m, c, p)))) h k = base_plain v w m r p h (marked symbol.SparqlBase ts m c k)

statement_plain : (d : ℕ) (v w : DocumentScope) (ts r : Ahead Spelled) → g.Statement true d v w ts r → PlainScope v → AllFine ts → Ends w r
statement_plain d v w ts r (inl p) h k = directive_plain v w ts r p h k
statement_plain d v w ts r (inr (m, p, c)) h k = let i = triples_plain d v w ts m p h k in (i.0, marked symbol.Dot m r c i.1)

-- the scope behind some statements, and their triples
abbrev IsPlain : DocumentScope × List TermTriple → Type 0
IsPlain a = PlainScope a.0 × AllByRecursion PlainTriple a.1

behind_plain : (d : ℕ) (a b : DocumentScope × List TermTriple) (ts r : Ahead Spelled) → g.Behind true d a b ts r → IsPlain a → AllFine ts → IsPlain b × AllFine r
behind_plain d a b ts r (w, e, f, p) h k =
    let i = statement_plain d a.0 w ts r p h.0 k in
    ((subst PlainScope e (begun_plain w i.0), subst (AllByRecursion PlainTriple) f (all_append a.1 w.triples h.1 i.0.triples)), i.1)

pub document_plain : (d : ℕ) (base : List ℕ) (x : DocumentScope × List TermTriple) (ts : Ahead Spelled) → Clean base → g.Document true d (start base) x ts → AllFine ts → IsPlain x
document_plain d base x ts h p k =
    (many_plain (g.Behind true d) IsPlain (behind_plain d) p (record { base = h; prefixes = λ prefix iri e. absurd cc; from_one = le_refl 1; triples = tt }, tt) k).0

pub documents_plain : DocumentsHaveLines
documents_plain base source (scope, triples) h (ts, u, tokens, document) =
    let p = document_plain inner_depth base (scope, triples) (prepend ts finished) (clean_line base h) document (fine_tokens Turtle source ts u tokens) in (
      record { base = line_is scope.base p.0.base; prefixes = λ prefix iri f. line_is iri (p.0.prefixes prefix iri f) },
      triples_are triples p.1,
    )
