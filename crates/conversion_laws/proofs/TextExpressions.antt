-- The parts of the expressions of ShExC are those that the types of a program allow: by the form of each rule.
use Rattle.std.proofs.Common.{◌≡◌, inl, inr, Bool, true, false, ℕ, zero, suc, ◌<◌, ◌^◌, cond, List, [], ◌∷◌, ◌++◌, Option, Some, None, Ok, Err, refl, subst, arith}
use Rattle.std.specs.Prelude.{nat_le, unwrap_or}
use Rattle.std.specs.Str.{chars}
use Rattle.lists.proofs.Quantifiers.{all_append}
use Rattle.node_constraint.specs.declared.Kind4.TheVariants as kinds
use Rattle.rdf_cursor.specs.Ahead.{Ahead}
use Rattle.rdf_cursor.specs.Phrases.{Phrase}
use Rattle.rdf_cursor.specs.Symbols.{is_symbol}
use Rattle.rdf_cursor.specs.declared.symbols.Symbol.{Symbol}
use Rattle.rdf_cursor.specs.declared.symbols.Symbol.TheVariants as symbol
use Rattle.rdf_lex.specs.Tokens.{Spelled}
use Rattle.tally.specs.declared.Bound.{Bound}
use Rattle.schema_documents.specs.Labels.{IsTextLabel}
use Rattle.schema_documents.specs.declared.label.Label.{Label}
use Rattle.schema_documents.specs.Tree.{Declaration, MaybeShapeExpr, MaybeTripleExpr, ShapeExpr, TripleBody, TripleExpr, arc, each, exprs, include, one, triple, triples}
use Rattle.term_tokens.specs.Scopes.{Scope}
use Rattle.term_tokens.proofs.NameLines.{chosen, err_is_not_ok, ok_same}
use Rattle.shexc_constraints.specs.declared.faults.Fault.TheVariants.{Syntax}
use Rattle.shexc_constraints.specs.Grammar as low
use Rattle.shexc_constraints.specs.Meanings.{count_of, kind_by, limit_from, limit_of}
use Rattle.shexc_constraints.specs.Symbols.{Mark, node_kinds, of_word}
use Rattle.shexc_reader.specs.Grammar as g
use Rattle.shexc_reader.specs.Trees.{Cardinality, all_of, any_of, body_in, bracketed, each_of, is_bare, once, one_of, with}
use Rattle.shexj_writer.specs.Held.{AreHeldDecls, AreHeldExprs, AreHeldTriples, AreTexts, IsBound, IsHeldBody, IsHeldExpr, IsHeldExpression, IsHeldTriple, IsHeldValueExpr, IsLabelIfAny, IsText}
use Rattle.conversion_laws.proofs.TextFacets.{constraint_held, count_small, facets_held, number_held, numbers_held, text_held, texts_held}
use Rattle.conversion_laws.proofs.TextTokens.{AreTextNames, AreTextTokens, annotations_behind, at_name_text, iri_held, is_behind, label_held, many_texts, mark_behind, notes_behind, predicate_held}
use Rattle.conversion_laws.proofs.TextValues.{values_held}

-- ---- lists

expr_more : (xs : List ShapeExpr) (x : ShapeExpr) → AreHeldExprs (exprs xs) → IsHeldExpr x → AreHeldExprs (exprs (xs ++ x ∷ []))
expr_more [] x h k = (k, tt)
expr_more (y ∷ ys) x (h, hs) k = (h, expr_more ys x hs k)

triple_more : (xs : List TripleExpr) (x : TripleExpr) → AreHeldTriples (triples xs) → IsHeldTriple x → AreHeldTriples (triples (xs ++ x ∷ []))
triple_more [] x h k = (k, tt)
triple_more (y ∷ ys) x (h, hs) k = (h, triple_more ys x hs k)

pub decl_more : (xs : List Declaration) (x : Declaration) → AreHeldDecls xs → IsTextLabel x.label → IsHeldExpr x.expr → AreHeldDecls (xs ++ x ∷ [])
decl_more [] x h l k = ((l, k), tt)
decl_more (y ∷ ys) x (h, hs) l k = (h, decl_more ys x hs l k)

-- members with a mark between them
marked : {X : Type 0} (a : Symbol) (One : X → Phrase Spelled) (Good : List X → Type 0) →
    ((xs ys : List X) (ts r : Ahead Spelled) → low.Adds One xs ys ts r → Good xs → AreTextTokens ts → Good ys × AreTextTokens r)
    → Good [] → (ys : List X) (ts r : Ahead Spelled) → g.Separated a One ys ts r → AreTextTokens ts → Good ys × AreTextTokens r
marked a One Good added start ys ts r (xs, (m, h, others)) u =
    let w = added [] xs ts m h start u in
    many_texts _ Good (λ s y k l o p q. added s y o.0 l o.2 p (mark_behind a k o.0 o.1 q)) xs ys m r others w.0 w.1

abbrev AreExprs : List ShapeExpr → Type 0
AreExprs es = AreHeldExprs (exprs es)

abbrev AreParts : List TripleExpr → Type 0
AreParts es = AreHeldTriples (triples es)

expr_added : (One : ShapeExpr → Phrase Spelled) → ((x : ShapeExpr) (ts r : Ahead Spelled) → One x ts r → AreTextTokens ts → IsHeldExpr x × AreTextTokens r)
    → (xs ys : List ShapeExpr) (ts r : Ahead Spelled) → low.Adds One xs ys ts r → AreExprs xs → AreTextTokens ts → AreExprs ys × AreTextTokens r
expr_added One every xs ys ts r (x, is, k) p u = let w = every x ts r k u in (subst AreExprs is (expr_more xs x p w.0), w.1)

triple_added : (One : TripleExpr → Phrase Spelled) → ((x : TripleExpr) (ts r : Ahead Spelled) → One x ts r → AreTextTokens ts → IsHeldTriple x × AreTextTokens r)
    → (xs ys : List TripleExpr) (ts r : Ahead Spelled) → low.Adds One xs ys ts r → AreParts xs → AreTextTokens ts → AreParts ys × AreTextTokens r
triple_added One every xs ys ts r (x, is, k) p u = let w = every x ts r k u in (subst AreParts is (triple_more xs x p w.0), w.1)

exprs_separated : (a : Symbol) (One : ShapeExpr → Phrase Spelled) → ((x : ShapeExpr) (ts r : Ahead Spelled) → One x ts r → AreTextTokens ts → IsHeldExpr x × AreTextTokens r)
    → (es : List ShapeExpr) (ts r : Ahead Spelled) → g.Separated a One es ts r → AreTextTokens ts → AreExprs es × AreTextTokens r
exprs_separated a One every es ts r h u = marked a One AreExprs (expr_added One every) tt es ts r h u

triples_separated : (a : Symbol) (One : TripleExpr → Phrase Spelled) → ((x : TripleExpr) (ts r : Ahead Spelled) → One x ts r → AreTextTokens ts → IsHeldTriple x × AreTextTokens r)
    → (es : List TripleExpr) (ts r : Ahead Spelled) → g.Separated a One es ts r → AreTextTokens ts → AreParts es × AreTextTokens r
triples_separated a One every es ts r h u = marked a One AreParts (triple_added One every) tt es ts r h u

-- ---- trees

all_held : (es : List ShapeExpr) → AreExprs es → IsHeldExpr (all_of es)
all_held [] h = tt
all_held (e ∷ []) h = h.0
all_held (e ∷ f ∷ es) h = h

any_held : (es : List ShapeExpr) → AreExprs es → IsHeldExpr (any_of es)
any_held [] h = tt
any_held (e ∷ []) h = h.0
any_held (e ∷ f ∷ es) h = h

one_is_small : 1 < 2 ^ 32
one_is_small = omega arith

none_is_small : 0 < 2 ^ 32
none_is_small = omega arith

each_held : (us : List TripleExpr) → AreParts us → IsHeldTriple (each_of us)
each_held [] h = (tt, (one_is_small, (one_is_small, tt)))
each_held (t ∷ []) h = h.0
each_held (t ∷ u ∷ us) h = (tt, (one_is_small, (one_is_small, h)))

one_held : (us : List TripleExpr) → AreParts us → IsHeldTriple (one_of us)
one_held [] h = (tt, (one_is_small, (one_is_small, tt)))
one_held (t ∷ []) h = h.0
one_held (t ∷ u ∷ us) h = (tt, (one_is_small, (one_is_small, h)))

-- a cardinality
abbrev IsSmall : Cardinality → Type 0
IsSmall c = (c.0 < 2 ^ 32) × IsBound c.1

abbrev IsSmallIfAny : Option Cardinality → Type 0
IsSmallIfAny None = Unit {0}
IsSmallIfAny (Some c) = IsSmall c

or_once : (o : Option Cardinality) → IsSmallIfAny o → IsSmall (unwrap_or o once)
or_once None h = (one_is_small, one_is_small)
or_once (Some c) h = h

-- a triple expression in brackets
body_again : (b : TripleBody) (name l : Option Label) (low : ℕ) (high : Bound) (c : Cardinality) → IsLabelIfAny l → IsSmall c → IsHeldBody b name low high → IsHeldBody b l c.0 c.1
body_again (each ts) name l low high c named few h = (named, (few.0, (few.1, h.1.1.1)))
body_again (one ts) name l low high c named few h = (named, (few.0, (few.1, h.1.1.1)))
body_again (arc inverse p value) name l low high c named few h = (named, (few.0, (few.1, h.1.1.1)))
body_again (include target) name l low high c named few h = h

bare_held : (l : Option Label) (c : Cardinality) (t : TripleExpr) → IsLabelIfAny l → IsSmall c → IsHeldTriple t → IsHeldTriple (with l c (body_in t))
bare_held l c (triple name least most b) named few h = body_again b name l least most c named few h

labelled_by : (b : Bool) (l : Option Label) (c : Cardinality) (t : TripleExpr) → IsLabelIfAny l → IsSmall c → IsHeldTriple t →
    IsHeldTriple (cond b (with l c (body_in t)) (with l c (each (triples (t ∷ [])))))
labelled_by true l c t named few h = bare_held l c t named few h
labelled_by false l c t named few h = (named, (few.0, (few.1, (h, tt))))

bracketed_held : (l : Option Label) (o : Option Cardinality) (t : TripleExpr) → IsLabelIfAny l → IsSmallIfAny o → IsHeldTriple t → IsHeldTriple (bracketed l o t)
bracketed_held None None t named few h = h
bracketed_held (Some l) None t named few h = labelled_by (is_bare t) (Some l) once t named (one_is_small, one_is_small) h
bracketed_held None (Some c) t named few h = labelled_by (is_bare t) None c t named few h
bracketed_held (Some l) (Some c) t named few h = labelled_by (is_bare t) (Some l) c t named few h

-- a number of a cardinality
limit_by : (b : Bool) (n m : ℕ) → n < 2 ^ 32 → cond b (Ok n) (Err Syntax) ≡ Ok m → m < 2 ^ 32
limit_by true n m h e = subst (λ (k : ℕ). k < 2 ^ 32) (ok_same n m e) h
limit_by false n m h e = absurd (err_is_not_ok Syntax m e)

limit_in : (least : ℕ) (o : Option ℕ) (m : ℕ) → ((n : ℕ) → o ≡ Some n → n < 2 ^ 32) → limit_from least o ≡ Ok m → m < 2 ^ 32
limit_in least None m h e = absurd (err_is_not_ok Syntax m e)
limit_in least (Some n) m h e = limit_by (nat_le least n) n m (h n refl) e

limit_small : (least m : ℕ) (t : Spelled) → limit_of least t ≡ Ok m → m < 2 ^ 32
unfolding limit_of
limit_small least m t e = limit_in least (count_of t.text) m (λ n f. count_small t.text n f) (chosen (is_symbol symbol.Integer t) Syntax (limit_from least (count_of t.text)) m e).1

-- constraints and references
module _ (v : Scope) (p : AreTextNames v) where
  non_literal_held : (e : ShapeExpr) (ts r : Ahead Spelled) → low.NonLiteral true v e ts r → AreTextTokens ts → IsHeldExpr e × AreTextTokens r
  non_literal_held e ts r (inl (s, fs, is, (m, w, k))) u =
      let z = texts_held None [] fs m r k tt (is_behind (of_word node_kinds) s ts m w u) in
      (subst IsHeldExpr is (constraint_held (Some (kind_by s)) None fs None tt z.0 tt), z.1)
  non_literal_held e ts r (inr (fs, gs, is, (m, w, k))) u =
      let y = text_held None [] fs ts m w tt u in
      let z = texts_held None fs gs m r k y.0 y.1 in
      (subst IsHeldExpr is (constraint_held None None gs None tt z.0 tt), z.1)

  literal_constraint_held : (e : ShapeExpr) (ts r : Ahead Spelled) → low.LiteralConstraint true v e ts r → AreTextTokens ts → IsHeldExpr e × AreTextTokens r
  literal_constraint_held e ts r (inl (fs, is, (m, w, k))) u =
      let z = facets_held None [] fs m r k tt (mark_behind symbol.Literal ts m w u) in
      (subst IsHeldExpr is (constraint_held (Some kinds.Literal) None fs None tt z.0 tt), z.1)
  literal_constraint_held e ts r (inr (inl (i, fs, is, (m, w, k)))) u =
      let y = iri_held v p i ts m w u in
      let z = facets_held (Some (chars i)) [] fs m r k tt y.1 in
      (subst IsHeldExpr is (constraint_held None (Some (chars i)) fs None y.0 z.0 tt), z.1)
  literal_constraint_held e ts r (inr (inr (inl (xs, fs, is, (m, w, k))))) u =
      let y = values_held v p xs ts m w u in
      let z = facets_held None [] fs m r k tt y.1 in
      (subst IsHeldExpr is (constraint_held None None fs (Some xs) tt z.0 y.0), z.1)
  literal_constraint_held e ts r (inr (inr (inr (fs, gs, is, (m, w, k))))) u =
      let y = number_held None [] fs ts m w tt u in
      let z = numbers_held None fs gs m r k y.0 y.1 in
      (subst IsHeldExpr is (constraint_held None None gs None tt z.0 tt), z.1)

  reference_held : (e : ShapeExpr) (ts r : Ahead Spelled) → low.Reference v e ts r → AreTextTokens ts → IsHeldExpr e × AreTextTokens r
  reference_held e ts r (l, is, inl (m, a, k)) u = let w = label_held v p l m r k (mark_behind symbol.At ts m a u) in (subst IsHeldExpr is w.0, w.1)
  reference_held e ts r (l, is, inr (i, same, (t, at, k))) u = let w = subst AreTextTokens at u in (subst IsHeldExpr is (subst IsTextLabel same (at_name_text v p t i k)), w.1)

  -- EXTRA and its predicates
  predicate_text : (q : List ℕ) (ts r : Ahead Spelled) → g.PredicateText v q ts r → AreTextTokens ts → IsText q × AreTextTokens r
  predicate_text q ts r (i, is, h) u = let w = predicate_held v p i ts r h u in (subst IsText is w.0, w.1)

  predicate_added : (xs ys : List (List ℕ)) (ts r : Ahead Spelled) → low.Adds (g.PredicateText v) xs ys ts r → AreTexts xs → AreTextTokens ts → AreTexts ys × AreTextTokens r
  predicate_added xs ys ts r (x, is, k) q u = let w = predicate_text x ts r k u in (subst AreTexts is (all_append IsText xs (x ∷ []) q (w.0, tt)), w.1)

  qualifier_held : (a b : Bool × List (List ℕ)) (ts r : Ahead Spelled) → g.Qualifier v a b ts r → AreTexts a.1 → AreTextTokens ts → AreTexts b.1 × AreTextTokens r
  qualifier_held a b ts r (inl (ps, is, (m, c, (ys, (n, h, others))))) q u =
      let w = predicate_added a.1 ys m n h q (mark_behind symbol.Extra ts m c u) in
      let z = many_texts (low.Adds (g.PredicateText v)) AreTexts predicate_added ys ps n r others w.0 w.1 in
      (subst (λ (x : Bool × List (List ℕ)). AreTexts x.1) is z.0, z.1)
  qualifier_held a b ts r (inr (is, c)) q u = (subst (λ (x : Bool × List (List ℕ)). AreTexts x.1) is q, mark_behind symbol.Closed ts r c u)

-- what stands in brackets
pub record HaveParts (inside : g.Inside) : Type 0 where
  pub expr : (e : ShapeExpr) (ts r : Ahead Spelled) → inside.expr e ts r → AreTextTokens ts → IsHeldExpr e × AreTextTokens r
  pub triple_expr : (t : TripleExpr) (ts r : Ahead Spelled) → inside.triple_expr t ts r → AreTextTokens ts → IsHeldTriple t × AreTextTokens r

module _ (v : Scope) (names : AreTextNames v) (n : ℕ) (inside : g.Inside) (inner : HaveParts inside) where
  -- a triple expression in braces, if there is one
  braces_held : (t : MaybeTripleExpr) (ts r : Ahead Spelled) → g.Braces true v n inside t ts r → AreTextTokens ts → IsHeldExpression t × AreTextTokens r
  braces_held t ts r (a, o, (b, inl (absent, h), close)) u =
      (subst IsHeldExpression absent tt, mark_behind symbol.CloseBrace b r close (subst AreTextTokens h (mark_behind symbol.OpenBrace ts a o.1 u)))
  braces_held t ts r (a, o, (b, inr (w, is, h), close)) u =
      let z = inner.triple_expr w a b h (mark_behind symbol.OpenBrace ts a o.1 u) in
      (subst IsHeldExpression is z.0, mark_behind symbol.CloseBrace b r close z.1)

  a_shape_held : (whole : Bool) (e : ShapeExpr) (ts r : Ahead Spelled) → g.AShape true v n inside whole e ts r → AreTextTokens ts → IsHeldExpr e × AreTextTokens r
  a_shape_held whole e ts r (q, t, is, (m, qs, (k, h, notes))) u =
      let y = many_texts (g.Qualifier v) (λ (x : Bool × List (List ℕ)). AreTexts x.1) (qualifier_held v names) (false, []) q ts m qs tt u in
      let z = braces_held t m k h y.1 in
      (subst IsHeldExpr is (y.0, z.0), notes_behind v names whole k r notes z.1)

  shape_held : (whole : Bool) (e : ShapeExpr) (ts r : Ahead Spelled) → g.ShapeOrReference true v n inside whole e ts r → AreTextTokens ts → IsHeldExpr e × AreTextTokens r
  shape_held whole e ts r (inl h) u = a_shape_held whole e ts r h u
  shape_held whole e ts r (inr h) u = reference_held v names e ts r h u

  atom_held : (whole : Bool) (e : ShapeExpr) (ts r : Ahead Spelled) → g.Atom true v n inside whole e ts r → AreTextTokens ts → IsHeldExpr e × AreTextTokens r
  atom_held whole e ts r (inl (inl (m, h, i))) u = let w = non_literal_held v names e ts m h u in (w.0, notes_behind v names whole m r i w.1)
  atom_held whole e ts r (inl (inr (a, b, is, (m, h, (k, i, j))))) u =
      let w = non_literal_held v names a ts m h u in
      let z = shape_held whole b k r j (notes_behind v names whole m k i w.1) in
      (subst IsHeldExpr is (w.0, (z.0, tt)), z.1)
  atom_held whole e ts r (inr (inl (m, h, i))) u = let w = literal_constraint_held v names e ts m h u in (w.0, notes_behind v names whole m r i w.1)
  atom_held whole e ts r (inr (inr (inl (inl h)))) u = shape_held whole e ts r h u
  atom_held whole e ts r (inr (inr (inl (inr (a, b, is, (m, h, (k, i, j))))))) u =
      let w = shape_held whole a ts m h u in
      let z = non_literal_held v names b m k i w.1 in
      (subst IsHeldExpr is (w.0, (z.0, tt)), notes_behind v names whole k r j z.1)
  atom_held whole e ts r (inr (inr (inr (inl (m, o, (k, h, c)))))) u =
      let w = inner.expr e m k h (mark_behind symbol.OpenParenthesis ts m o.1 u) in
      (w.0, mark_behind symbol.CloseParenthesis k r c w.1)
  atom_held whole e ts r (inr (inr (inr (inr (is, h))))) u = (subst IsHeldExpr is (tt, tt), mark_behind symbol.Dot ts r h u)

  negated_held : (whole : Bool) (e : ShapeExpr) (ts r : Ahead Spelled) → g.Negated true v n inside whole e ts r → AreTextTokens ts → IsHeldExpr e × AreTextTokens r
  negated_held whole e ts r (inl h) u = atom_held whole e ts r h u
  negated_held whole e ts r (inr (a, is, (m, w, h))) u = let z = atom_held whole a m r h (mark_behind symbol.Not ts m w u) in (subst IsHeldExpr is z.0, z.1)

  conjunction_held : (whole : Bool) (e : ShapeExpr) (ts r : Ahead Spelled) → g.Conjunction true v n inside whole e ts r → AreTextTokens ts → IsHeldExpr e × AreTextTokens r
  conjunction_held whole e ts r (es, is, h) u =
      let z = exprs_separated symbol.And (g.Negated true v n inside whole) (negated_held whole) es ts r h u in
      (subst IsHeldExpr is (all_held es z.0), z.1)

  expression_held : (whole : Bool) (e : ShapeExpr) (ts r : Ahead Spelled) → g.Expression true v n inside whole e ts r → AreTextTokens ts → IsHeldExpr e × AreTextTokens r
  expression_held whole e ts r (es, is, h) u =
      let z = exprs_separated symbol.Or (g.Conjunction true v n inside whole) (conjunction_held whole) es ts r h u in
      (subst IsHeldExpr is (any_held es z.0), z.1)

  -- cardinalities
  most_held : (least : ℕ) (b : Bound) (ts r : Ahead Spelled) → least < 2 ^ 32 → g.Most true v n inside least b ts r → AreTextTokens ts → IsBound b × AreTextTokens r
  most_held least b ts r few (inl (is, h)) u = (subst IsBound is few, subst AreTextTokens h u)
  most_held least b ts r few (inr (inl (is, h))) u = (subst IsBound is tt, mark_behind symbol.Comma ts r h u)
  most_held least b ts r few (inr (inr (inl (is, (m, c, h))))) u = (subst IsBound is tt, mark_behind symbol.Star m r h (mark_behind symbol.Comma ts m c u))
  most_held least b ts r few (inr (inr (inr (most, is, (m, c, (t, e, h)))))) u =
      (subst IsBound is (limit_small least most t h), is_behind (limit_of least) most m r (t, e, h) (mark_behind symbol.Comma ts m c u))

  cardinality_held : (c : Cardinality) (ts r : Ahead Spelled) → g.ACardinality true v n inside c ts r → AreTextTokens ts → IsSmall c × AreTextTokens r
  cardinality_held c ts r (inl (is, h)) u = (subst IsSmall is (none_is_small, tt), mark_behind symbol.Star ts r h u)
  cardinality_held c ts r (inr (inl (is, h))) u = (subst IsSmall is (one_is_small, tt), mark_behind symbol.Plus ts r h u)
  cardinality_held c ts r (inr (inr (inl (is, h)))) u = (subst IsSmall is (none_is_small, one_is_small), mark_behind symbol.Question ts r h u)
  cardinality_held c ts r (inr (inr (inr (m, o, (k, (t, e, h), (l, most, close)))))) u =
      let few = limit_small 0 c.0 t h in
      let z = most_held c.0 c.1 k l few most (is_behind (limit_of 0) c.0 m k (t, e, h) (mark_behind symbol.OpenBrace ts m o.1 u)) in
      ((few, z.0), mark_behind symbol.CloseBrace l r close z.1)

  maybe_held : (o : Option Cardinality) (ts r : Ahead Spelled) → g.MaybeCardinality true v n inside o ts r → AreTextTokens ts → IsSmallIfAny o × AreTextTokens r
  maybe_held o ts r (inl (is, h)) u = (subst IsSmallIfAny is tt, subst AreTextTokens h u)
  maybe_held o ts r (inr (c, is, h)) u = let z = cardinality_held c ts r h u in (subst IsSmallIfAny is z.0, z.1)

  -- triple expressions
  value_expr_held : (o : MaybeShapeExpr) (ts r : Ahead Spelled) → g.ArcValue true v n inside o ts r → AreTextTokens ts → IsHeldValueExpr o × AreTextTokens r
  value_expr_held o ts r (inl (is, h)) u = (subst IsHeldValueExpr is tt, mark_behind symbol.Dot ts r h u)
  value_expr_held o ts r (inr (e, is, apart, h)) u = let z = expression_held false e ts r h u in (subst IsHeldValueExpr is z.0, z.1)

  maybe_label_held : (o : Option Label) (ts r : Ahead Spelled) → g.MaybeLabel true v n inside o ts r → AreTextTokens ts → IsLabelIfAny o × AreTextTokens r
  maybe_label_held o ts r (inl (is, h)) u = (subst IsLabelIfAny is tt, subst AreTextTokens h u)
  maybe_label_held o ts r (inr (l, is, (m, d, h))) u = let z = label_held v names l m r h (mark_behind symbol.Dollar ts m d u) in (subst IsLabelIfAny is z.0, z.1)

  direction_behind : (inverse : Bool) (ts r : Ahead Spelled) → g.Direction true v n inside inverse ts r → AreTextTokens ts → AreTextTokens r
  direction_behind inverse ts r (inl (is, h)) u = mark_behind symbol.Caret ts r h u
  direction_behind inverse ts r (inr (is, h)) u = subst AreTextTokens h u

  arc_held : (l : Option Label) (t : TripleExpr) (ts r : Ahead Spelled) → IsLabelIfAny l → g.Arc true v n inside l t ts r → AreTextTokens ts → IsHeldTriple t × AreTextTokens r
  arc_held l t ts r named (inverse, p, value, o, is, (a, d, (b, e, (c, h, (k, i, j))))) u =
      let w = predicate_held v names p a b e (direction_behind inverse ts a d u) in
      let x = value_expr_held value b c h w.1 in
      let y = maybe_held o c k i x.1 in
      let few = or_once o y.0 in
      (subst IsHeldTriple is (named, (few.0, (few.1, (w.0, x.0)))), annotations_behind v names k r j y.1)

  group_in : (l : Option Label) (t : TripleExpr) (ts r : Ahead Spelled) → IsLabelIfAny l → g.Bracketed true v n inside l t ts r → AreTextTokens ts → IsHeldTriple t × AreTextTokens r
  group_in l t ts r named (w, o, is, (a, b, (c, h, (d, e, (k, i, j))))) u =
      let x = inner.triple_expr w a c h (mark_behind symbol.OpenParenthesis ts a b.1 u) in
      let y = maybe_held o d k i (mark_behind symbol.CloseParenthesis c d e x.1) in
      (subst IsHeldTriple is (bracketed_held l o w named y.0 x.0), annotations_behind v names k r j y.1)

  unary_held : (t : TripleExpr) (ts r : Ahead Spelled) → g.Unary true v n inside t ts r → AreTextTokens ts → IsHeldTriple t × AreTextTokens r
  unary_held t ts r (inl (o, (m, h, inl i))) u = let w = maybe_label_held o ts m h u in arc_held o t m r w.0 i w.1
  unary_held t ts r (inl (o, (m, h, inr i))) u = let w = maybe_label_held o ts m h u in group_in o t m r w.0 i w.1
  unary_held t ts r (inr (l, is, (m, a, k))) u = let w = label_held v names l m r k (mark_behind symbol.Ampersand ts m a u) in (subst IsHeldTriple is w.0, w.1)

  last_behind : (ts r : Ahead Spelled) → g.Maybe (Mark symbol.Semicolon) ts r → AreTextTokens ts → AreTextTokens r
  last_behind ts r (inl h) u = mark_behind symbol.Semicolon ts r h u
  last_behind ts r (inr h) u = subst AreTextTokens h u

  group_held : (t : TripleExpr) (ts r : Ahead Spelled) → g.Group true v n inside t ts r → AreTextTokens ts → IsHeldTriple t × AreTextTokens r
  group_held t ts r (us, is, (m, h, last)) u =
      let z = triples_separated symbol.Semicolon (g.Unary true v n inside) unary_held us ts m h u in
      (subst IsHeldTriple is (each_held us z.0), last_behind m r last z.1)

  alternatives_held : (t : TripleExpr) (ts r : Ahead Spelled) → g.Alternatives true v n inside t ts r → AreTextTokens ts → IsHeldTriple t × AreTextTokens r
  alternatives_held t ts r (us, is, h) u =
      let z = triples_separated symbol.Bar (g.Group true v n inside) group_held us ts r h u in
      (subst IsHeldTriple is (one_held us z.0), z.1)

pub level_held : (v : Scope) → AreTextNames v → (d : ℕ) → HaveParts (g.Level true v d)
unfolding g.Level
level_held v p zero = record { expr = λ e ts r k. absurd k; triple_expr = λ t ts r k. absurd k }
level_held v p (suc d) = record {
  expr = expression_held v p d (g.Level true v d) (level_held v p d) true;
  triple_expr = alternatives_held v p d (g.Level true v d) (level_held v p d);
}
