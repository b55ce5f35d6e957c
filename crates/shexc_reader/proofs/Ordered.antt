-- No minimum of what the grammar spells is above its bound: by the form of each rule.
use Rattle.std.proofs.Common.{◌≡◌, ◌≤◌, inl, inr, Bool, true, false, ℕ, zero, suc, cond, List, [], ◌∷◌, ◌++◌, Option, Some, None, Result, Ok, Err, refl, subst, ◌∙◌, arith}
use Rattle.std.specs.Prelude.{nat_le, unwrap_or}
use Rattle.std.proofs.lemmas.Bool.{leb-true}
use Rattle.rdf_cursor.specs.Ahead.{Ahead, finished}
use Rattle.rdf_cursor.specs.Phrases.{Phrase, Many, none, more}
use Rattle.rdf_cursor.specs.Symbols.{is_symbol}
use Rattle.rdf_cursor.specs.declared.symbols.Symbol.{Symbol}
use Rattle.rdf_cursor.specs.declared.symbols.Symbol.TheVariants as symbol
use Rattle.rdf_lex.specs.Tokens.{Spelled}
use Rattle.tally.specs.Span.{IsOrdered}
use Rattle.tally.specs.declared.Bound.{Bound}
use Rattle.schema_documents.specs.declared.label.Label.{Label}
use Rattle.schema_documents.specs.Tree.{ShapeExpr, MaybeShapeExpr, TripleExpr, Declaration, triple, each, exprs, triples}
use Rattle.term_tokens.specs.Scopes.{Scope}
use Rattle.shexc_constraints.specs.declared.faults.Fault.{Fault}
use Rattle.shexc_constraints.specs.declared.faults.Fault.TheVariants.{Syntax}
use Rattle.shexc_constraints.specs.Grammar as low
use Rattle.shexc_constraints.specs.Meanings.{count_of, limit_from, limit_of}
use Rattle.shexc_reader.specs.Documents.{max_depth, at_first}
use Rattle.shexc_reader.specs.Grammar as g
use Rattle.shexc_reader.specs.Laws.{DocumentsAreOrdered}
use Rattle.schema_documents.specs.Ordered.{IsOrderedExpr, AreOrderedExprs, IsOrderedValue, IsOrderedTriple, AreOrderedTriples, IsOrderedExpression, IsOrderedBody, AreOrderedDecls, IsOrderedDocument}
use Rattle.shexc_reader.specs.States.{State, document_in}
use Rattle.shexc_reader.specs.Trees.{all_of, any_of, each_of, one_of, once, with, Cardinality, is_bare, body_in, bracketed}

-- what a step keeps, all steps keep
pub many_keep : {S : Type 0} (P : S → Type 0) (One : S → S → Phrase Spelled) → ((s x : S) (ts m : Ahead Spelled) → One s x ts m → P s → P x) →
    (s y : S) (ts r : Ahead Spelled) → Many One s y ts r → P s → P y
many_keep P One keeps s y ts r none p = p
many_keep P One keeps s y ts r (more {x = x} {mid = m} o rest) p = many_keep P One keeps x y m r rest (keeps s x ts m o p)

-- a maximum is not below its minimum
no_err : (x : ℕ) → Path (Result ℕ Fault) (Err Syntax) (Ok x) → ⊥
no_err x e = cc

same_ok : (x y : ℕ) → Path (Result ℕ Fault) (Ok x) (Ok y) → x ≡ y
same_ok x y e = cc

below_by : (least n m : ℕ) (b : Bool) → nat_le least n ≡ b → cond b (Ok n) (Err Syntax) ≡ Ok m → least ≤ m
below_by least n m true is e = subst (λ (x : ℕ). least ≤ x) (same_ok n m e) (leb-true least n is)
below_by least n m false is e = absurd (no_err m e)

below_from : (least : ℕ) (o : Option ℕ) (m : ℕ) → limit_from least o ≡ Ok m → least ≤ m
below_from least None m e = absurd (no_err m e)
below_from least (Some n) m e = below_by least n m (nat_le least n) refl e

below_test : (least : ℕ) (o : Option ℕ) (m : ℕ) (b : Bool) → cond b (limit_from least o) (Err Syntax) ≡ Ok m → least ≤ m
below_test least o m true e = below_from least o m e
below_test least o m false e = absurd (no_err m e)

not_below : (least m : ℕ) (t : Spelled) → limit_of least t ≡ Ok m → least ≤ m
unfolding limit_of
not_below least m t e = below_test least (count_of t.text) m (is_symbol symbol.Integer t) e

-- lists of expressions
expr_more : (xs : List ShapeExpr) (x : ShapeExpr) → AreOrderedExprs (exprs xs) → IsOrderedExpr x → AreOrderedExprs (exprs (xs ++ x ∷ []))
expr_more [] x h k = (k, tt)
expr_more (y ∷ ys) x (h, hs) k = (h, expr_more ys x hs k)

triple_more : (xs : List TripleExpr) (x : TripleExpr) → AreOrderedTriples (triples xs) → IsOrderedTriple x → AreOrderedTriples (triples (xs ++ x ∷ []))
triple_more [] x h k = (k, tt)
triple_more (y ∷ ys) x (h, hs) k = (h, triple_more ys x hs k)

decl_more : (xs : List Declaration) (x : Declaration) → AreOrderedDecls xs → IsOrderedExpr x.expr → AreOrderedDecls (xs ++ x ∷ [])
decl_more [] x h k = (k, tt)
decl_more (y ∷ ys) x (h, hs) k = (h, decl_more ys x hs k)

all_ordered : (es : List ShapeExpr) → AreOrderedExprs (exprs es) → IsOrderedExpr (all_of es)
all_ordered [] h = tt
all_ordered (e ∷ []) h = h.0
all_ordered (e ∷ f ∷ es) h = h

any_ordered : (es : List ShapeExpr) → AreOrderedExprs (exprs es) → IsOrderedExpr (any_of es)
any_ordered [] h = tt
any_ordered (e ∷ []) h = h.0
any_ordered (e ∷ f ∷ es) h = h

at_once : 1 ≤ 1
at_once = omega arith

each_ordered : (us : List TripleExpr) → AreOrderedTriples (triples us) → IsOrderedTriple (each_of us)
each_ordered [] h = (at_once, tt)
each_ordered (t ∷ []) h = h.0
each_ordered (t ∷ u ∷ us) h = (at_once, h)

one_ordered : (us : List TripleExpr) → AreOrderedTriples (triples us) → IsOrderedTriple (one_of us)
one_ordered [] h = (at_once, tt)
one_ordered (t ∷ []) h = h.0
one_ordered (t ∷ u ∷ us) h = (at_once, h)

-- members with a mark between them
exprs_separated : (a : Symbol) (One : ShapeExpr → Phrase Spelled) → ((x : ShapeExpr) (ts r : Ahead Spelled) → One x ts r → IsOrderedExpr x) →
    (es : List ShapeExpr) (ts r : Ahead Spelled) → g.Separated a One es ts r → AreOrderedExprs (exprs es)
exprs_separated a One every es ts r (xs, (m, (x, e, h), others)) =
    many_keep (λ (ys : List ShapeExpr). AreOrderedExprs (exprs ys)) _ (λ s y ts m o p. subst (λ (zs : List ShapeExpr). AreOrderedExprs (exprs zs)) o.2.1 (expr_more s o.2.0 p (every o.2.0 o.0 m o.2.2))) xs es m r others
    (subst (λ (zs : List ShapeExpr). AreOrderedExprs (exprs zs)) e (every x ts m h, tt))

triples_separated : (a : Symbol) (One : TripleExpr → Phrase Spelled) → ((x : TripleExpr) (ts r : Ahead Spelled) → One x ts r → IsOrderedTriple x) →
    (es : List TripleExpr) (ts r : Ahead Spelled) → g.Separated a One es ts r → AreOrderedTriples (triples es)
triples_separated a One every es ts r (xs, (m, (x, e, h), others)) =
    many_keep (λ (ys : List TripleExpr). AreOrderedTriples (triples ys)) _ (λ s y ts m o p. subst (λ (zs : List TripleExpr). AreOrderedTriples (triples zs)) o.2.1 (triple_more s o.2.0 p (every o.2.0 o.0 m o.2.2))) xs es m r others
    (subst (λ (zs : List TripleExpr). AreOrderedTriples (triples zs)) e (every x ts m h, tt))

-- a triple expression in brackets
body_ordered : (t : TripleExpr) → IsOrderedTriple t → IsOrderedBody (body_in t)
body_ordered (triple l least most body) h = h.1

labelled_by : (b : Bool) (l : Option Label) (c : Cardinality) (t : TripleExpr) → IsOrdered c.0 c.1 → IsOrderedTriple t →
    IsOrderedTriple (cond b (with l c (body_in t)) (with l c (each (triples (t ∷ [])))))
labelled_by true l c t h k = (h, body_ordered t k)
labelled_by false l c t h k = (h, (k, tt))

bracketed_ordered : (l : Option Label) (o : Option Cardinality) (t : TripleExpr) → ((c : Cardinality) → o ≡ Some c → IsOrdered c.0 c.1) → IsOrderedTriple t → IsOrderedTriple (bracketed l o t)
bracketed_ordered None None t h k = k
bracketed_ordered (Some l) None t h k = labelled_by (is_bare t) (Some l) once t at_once k
bracketed_ordered None (Some c) t h k = labelled_by (is_bare t) None c t (h c refl) k
bracketed_ordered (Some l) (Some c) t h k = labelled_by (is_bare t) (Some l) c t (h c refl) k

or_once : (o : Option Cardinality) → ((c : Cardinality) → o ≡ Some c → IsOrdered c.0 c.1) → IsOrdered (unwrap_or o once).0 (unwrap_or o once).1
or_once None h = at_once
or_once (Some c) h = h c refl

-- constraints and references have none
module _ (bounded : Bool) (v : Scope) where
  non_literal_ordered : (e : ShapeExpr) (ts r : Ahead Spelled) → low.NonLiteral bounded v e ts r → IsOrderedExpr e
  non_literal_ordered e ts r (inl (s, fs, is, h)) = subst IsOrderedExpr is tt
  non_literal_ordered e ts r (inr (fs, gs, is, h)) = subst IsOrderedExpr is tt

  literal_ordered : (e : ShapeExpr) (ts r : Ahead Spelled) → low.LiteralConstraint bounded v e ts r → IsOrderedExpr e
  literal_ordered e ts r (inl (fs, is, h)) = subst IsOrderedExpr is tt
  literal_ordered e ts r (inr (inl (i, fs, is, h))) = subst IsOrderedExpr is tt
  literal_ordered e ts r (inr (inr (inl (xs, fs, is, h)))) = subst IsOrderedExpr is tt
  literal_ordered e ts r (inr (inr (inr (fs, gs, is, h)))) = subst IsOrderedExpr is tt

  reference_ordered : (e : ShapeExpr) (ts r : Ahead Spelled) → low.Reference v e ts r → IsOrderedExpr e
  reference_ordered e ts r (l, is, h) = subst IsOrderedExpr is tt

-- what stands in brackets
pub record AreOrdered (inside : g.Inside) : Type 0 where
  pub expr : (e : ShapeExpr) (ts r : Ahead Spelled) → inside.expr e ts r → IsOrderedExpr e
  pub triple_expr : (t : TripleExpr) (ts r : Ahead Spelled) → inside.triple_expr t ts r → IsOrderedTriple t

module _ (bounded : Bool) (v : Scope) (n : ℕ) (inside : g.Inside) (inner : AreOrdered inside) where
  a_shape_ordered : (whole : Bool) (e : ShapeExpr) (ts r : Ahead Spelled) → g.AShape bounded v n inside whole e ts r → IsOrderedExpr e
  a_shape_ordered whole e ts r (q, t, is, (m, qs, (k, (a, o, (b, inl (absent, h), close)), notes))) = subst IsOrderedExpr is (subst IsOrderedExpression absent tt)
  a_shape_ordered whole e ts r (q, t, is, (m, qs, (k, (a, o, (b, inr (u, one, h), close)), notes))) = subst IsOrderedExpr is (subst IsOrderedExpression one (inner.triple_expr u a b h))

  shape_ordered : (whole : Bool) (e : ShapeExpr) (ts r : Ahead Spelled) → g.ShapeOrReference bounded v n inside whole e ts r → IsOrderedExpr e
  shape_ordered whole e ts r (inl h) = a_shape_ordered whole e ts r h
  shape_ordered whole e ts r (inr h) = reference_ordered bounded v e ts r h

  atom_ordered : (whole : Bool) (e : ShapeExpr) (ts r : Ahead Spelled) → g.Atom bounded v n inside whole e ts r → IsOrderedExpr e
  atom_ordered whole e ts r (inl (inl (m, h, i))) = non_literal_ordered bounded v e ts m h
  atom_ordered whole e ts r (inl (inr (a, b, is, (m, h, (k, i, j))))) = subst IsOrderedExpr is (non_literal_ordered bounded v a ts m h, (shape_ordered whole b k r j, tt))
  atom_ordered whole e ts r (inr (inl (m, h, i))) = literal_ordered bounded v e ts m h
  atom_ordered whole e ts r (inr (inr (inl (inl h)))) = shape_ordered whole e ts r h
  atom_ordered whole e ts r (inr (inr (inl (inr (a, b, is, (m, h, (k, i, j))))))) = subst IsOrderedExpr is (shape_ordered whole a ts m h, (non_literal_ordered bounded v b m k i, tt))
  atom_ordered whole e ts r (inr (inr (inr (inl (m, o, (k, h, c)))))) = inner.expr e m k h
  atom_ordered whole e ts r (inr (inr (inr (inr (is, h))))) = subst IsOrderedExpr is tt

  negated_ordered : (whole : Bool) (e : ShapeExpr) (ts r : Ahead Spelled) → g.Negated bounded v n inside whole e ts r → IsOrderedExpr e
  negated_ordered whole e ts r (inl h) = atom_ordered whole e ts r h
  negated_ordered whole e ts r (inr (a, is, (m, w, h))) = subst IsOrderedExpr is (atom_ordered whole a m r h)

  conjunction_ordered : (whole : Bool) (e : ShapeExpr) (ts r : Ahead Spelled) → g.Conjunction bounded v n inside whole e ts r → IsOrderedExpr e
  conjunction_ordered whole e ts r (es, is, h) = subst IsOrderedExpr is (all_ordered es (exprs_separated symbol.And (g.Negated bounded v n inside whole) (negated_ordered whole) es ts r h))

  expression_ordered : (whole : Bool) (e : ShapeExpr) (ts r : Ahead Spelled) → g.Expression bounded v n inside whole e ts r → IsOrderedExpr e
  expression_ordered whole e ts r (es, is, h) = subst IsOrderedExpr is (any_ordered es (exprs_separated symbol.Or (g.Conjunction bounded v n inside whole) (conjunction_ordered whole) es ts r h))

  -- cardinalities
  most_ordered : (least : ℕ) (b : Bound) (ts r : Ahead Spelled) → g.Most bounded v n inside least b ts r → IsOrdered least b
  most_ordered least b ts r (inl (is, h)) = subst (IsOrdered least) is (omega arith)
  most_ordered least b ts r (inr (inl (is, h))) = subst (IsOrdered least) is tt
  most_ordered least b ts r (inr (inr (inl (is, h)))) = subst (IsOrdered least) is tt
  most_ordered least b ts r (inr (inr (inr (most, is, (m, c, (t, e, h)))))) = subst (IsOrdered least) is (not_below least most t h)

  cardinality_ordered : (c : Cardinality) (ts r : Ahead Spelled) → g.ACardinality bounded v n inside c ts r → IsOrdered c.0 c.1
  cardinality_ordered c ts r (inl (is, h)) = subst (λ (d : Cardinality). IsOrdered d.0 d.1) is tt
  cardinality_ordered c ts r (inr (inl (is, h))) = subst (λ (d : Cardinality). IsOrdered d.0 d.1) is tt
  cardinality_ordered c ts r (inr (inr (inl (is, h)))) = subst (λ (d : Cardinality). IsOrdered d.0 d.1) is (omega arith)
  cardinality_ordered c ts r (inr (inr (inr (m, o, (k, least, (l, most, close)))))) = most_ordered c.0 c.1 k l most

  some_is : (c d : Cardinality) → Path (Option Cardinality) (Some c) (Some d) → c ≡ d
  some_is c d e = cc

  none_is : (d : Cardinality) → Path (Option Cardinality) None (Some d) → ⊥
  none_is d e = cc

  maybe_ordered : (o : Option Cardinality) (ts r : Ahead Spelled) → g.MaybeCardinality bounded v n inside o ts r → (c : Cardinality) → o ≡ Some c → IsOrdered c.0 c.1
  maybe_ordered o ts r (inl (is, h)) c e = absurd (none_is c (is ∙ e))
  maybe_ordered o ts r (inr (d, is, h)) c e = subst (λ (x : Cardinality). IsOrdered x.0 x.1) (some_is d c (is ∙ e)) (cardinality_ordered d ts r h)

  value_ordered : (o : MaybeShapeExpr) (ts r : Ahead Spelled) → g.ArcValue bounded v n inside o ts r → IsOrderedValue o
  value_ordered o ts r (inl (is, h)) = subst IsOrderedValue is tt
  value_ordered o ts r (inr (e, is, apart, h)) = subst IsOrderedValue is (expression_ordered false e ts r h)

  arc_ordered : (l : Option Label) (t : TripleExpr) (ts r : Ahead Spelled) → g.Arc bounded v n inside l t ts r → IsOrderedTriple t
  arc_ordered l t ts r (inverse, p, value, o, is, (a, d, (b, e, (c, h, (k, i, j))))) = subst IsOrderedTriple is (or_once o (maybe_ordered o c k i), value_ordered value b c h)

  group_in : (l : Option Label) (t : TripleExpr) (ts r : Ahead Spelled) → g.Bracketed bounded v n inside l t ts r → IsOrderedTriple t
  group_in l t ts r (u, o, is, (a, b, (c, h, (d, e, (k, i, j))))) = subst IsOrderedTriple is (bracketed_ordered l o u (maybe_ordered o d k i) (inner.triple_expr u a c h))

  unary_ordered : (t : TripleExpr) (ts r : Ahead Spelled) → g.Unary bounded v n inside t ts r → IsOrderedTriple t
  unary_ordered t ts r (inl (o, (m, h, inl i))) = arc_ordered o t m r i
  unary_ordered t ts r (inl (o, (m, h, inr i))) = group_in o t m r i
  unary_ordered t ts r (inr (l, is, h)) = subst IsOrderedTriple is (at_once, tt)

  group_ordered : (t : TripleExpr) (ts r : Ahead Spelled) → g.Group bounded v n inside t ts r → IsOrderedTriple t
  group_ordered t ts r (us, is, (m, h, last)) = subst IsOrderedTriple is (each_ordered us (triples_separated symbol.Semicolon (g.Unary bounded v n inside) unary_ordered us ts m h))

  alternatives_ordered : (t : TripleExpr) (ts r : Ahead Spelled) → g.Alternatives bounded v n inside t ts r → IsOrderedTriple t
  alternatives_ordered t ts r (us, is, h) = subst IsOrderedTriple is (one_ordered us (triples_separated symbol.Bar (g.Group bounded v n inside) group_ordered us ts r h))

level_ordered : (bounded : Bool) (v : Scope) (d : ℕ) → AreOrdered (g.Level bounded v d)
unfolding g.Level
level_ordered bounded v zero = record { expr = λ e ts r h. absurd h; triple_expr = λ t ts r h. absurd h }
level_ordered bounded v (suc d) = record {
  expr = expression_ordered bounded v d (g.Level bounded v d) (level_ordered bounded v d) true;
  triple_expr = alternatives_ordered bounded v d (g.Level bounded v d) (level_ordered bounded v d);
}

-- statements keep that the document so far is ordered
abbrev IsFine : State → Type 0
IsFine a = IsOrderedDocument (document_in a)

statement_ordered : (bounded : Bool) (d : ℕ) (a b : State) (ts r : Ahead Spelled) → g.Statement bounded d a b ts r → IsFine a → IsFine b
statement_ordered bounded d a b ts r (inl (i, is, h)) p = subst IsFine is (record { start = p.start; decls = p.decls })
statement_ordered bounded d a b ts r (inr (inl (t, i, is, h))) p = subst IsFine is (record { start = p.start; decls = p.decls })
statement_ordered bounded d a b ts r (inr (inr (inl (i, is, h)))) p = subst IsFine is (record { start = p.start; decls = p.decls })
statement_ordered bounded d a b ts r (inr (inr (inr (inl (e, fresh, is, (m, w, (k, q, h))))))) p =
    subst IsFine is (record { start = (level_ordered bounded a.scope (suc d)).expr e k r h; decls = p.decls })
statement_ordered bounded d a b ts r (inr (inr (inr (inr (l, e, is, (m, h, i)))))) p =
    subst IsFine is (record { start = p.start; decls = decl_more a.decls (record { label = l; expr = e }) p.decls ((level_ordered bounded a.scope (suc d)).expr e m r i) })

pub documents_ordered : DocumentsAreOrdered
documents_ordered base source x (ts, utf8, tokens, h) =
    many_keep IsFine (g.Statement true max_depth) (λ s y m k o p. statement_ordered true max_depth s y m k o p) (at_first base) x _ finished h (record { start = tt; decls = tt })
