-- What is read from the front of a list of tokens: one small definition for each rule of the grammar.
use Rattle.std.specs.Prelude.{Bool, true, false, ℕ, zero, suc, List, [], ◌∷◌, ◌++◌, Option, Some, None, unwrap_or}
use Rattle.std.specs.Str.{chars}
use Rattle.rdf_cursor.specs.Readers.{◌>>=◌, give, refuse, one, either, loop, finish}
use Rattle.rdf_cursor.specs.Symbols.{is_symbol, is_among, is_any}
use Rattle.rdf_cursor.specs.declared.symbols.Symbol.{Symbol}
use Rattle.rdf_cursor.specs.declared.symbols.Symbol.TheVariants as symbol
use Rattle.tally.specs.declared.Bound.{Bound}
use Rattle.tally.specs.declared.Bound.TheVariants as bound
use Rattle.schema_documents.specs.declared.label.Label.{Label}
use Rattle.schema_documents.specs.Tree.{ShapeExpr, MaybeShapeExpr, TripleExpr, MaybeTripleExpr, neg, shape, no_expr, one_expr, no_triple, one_triple, arc, include}
use Rattle.term_tokens.specs.Scopes.{Scope}
use Rattle.term_tokens.specs.Terms.{prefix_of}
use Rattle.shexc_constraints.specs.declared.faults.Fault.TheVariants.{Syntax, Deep, External}
use Rattle.shexc_constraints.specs.Meanings.{iri_ref_of, limit_of}
use Rattle.shexc_constraints.specs.Reading.{iri, predicate, label, annotations, notes, reference, non_literal, literal_constraint}
use Rattle.shexc_constraints.specs.Stops.{R}
use Rattle.shexc_constraints.specs.Symbols.{mark, of_word, predicates, references, non_literals, literal_constraints}
use Rattle.shexc_reader.specs.States.{State, declared, rebased, imported, started, added}
use Rattle.shexc_reader.specs.Symbols.{qualifiers, unbraced, shapes_or_references, connectives, units, starts}
use Rattle.shexc_reader.specs.Trees.{empty_shape, both, all_of, any_of, Cardinality, once, with, each_of, one_of, bracketed}

-- the base and the prefixes in force
module _ (v : Scope) where
  -- what stands before the brace of a Shape
  unfoldable pub extra_behind : List (List ℕ) → R (List (List ℕ))
  extra_behind ps = predicate v >>= λ p. give (ps ++ chars p ∷ [])

  unfoldable pub extras : List (List ℕ) → R (List (List ℕ))
  extras ps = mark symbol.Extra >>= λ _. extra_behind ps >>= loop (is_among predicates) extra_behind

  unfoldable pub qualifier : Bool × List (List ℕ) → R (Bool × List (List ℕ))
  qualifier q = either (is_symbol symbol.Extra) (extras q.1 >>= λ ps. give (q.0, ps)) (mark symbol.Closed >>= λ _. give (true, q.1))

  unfoldable pub all_qualifiers : R (Bool × List (List ℕ))
  all_qualifiers = loop (is_among qualifiers) qualifier (false, [])

-- Readers of what stands in brackets. An expression comes with a flag: behind it `{` was taken as the start of a cardinality.
pub record Inside : Type 0 where
  pub expr : R (ShapeExpr × Bool)
  pub triple_expr : R TripleExpr

-- a bracket that opens, where so many may open
unfoldable pub opens : Symbol → ℕ → R Unit
opens a zero = either (is_symbol a) (refuse Deep) (refuse Syntax)
opens a (suc n) = mark a >>= λ _. give tt

module _ (bounded : Bool) (v : Scope) (n : ℕ) (inside : Inside) where
  -- behind the brace of a Shape
  unfoldable pub maybe_triple : R MaybeTripleExpr
  maybe_triple = either (is_symbol symbol.CloseBrace) (give no_triple) (inside.triple_expr >>= λ t. give (one_triple t))

  unfoldable pub shape_behind : Bool × List (List ℕ) → R ShapeExpr
  shape_behind q = maybe_triple >>= λ t. mark symbol.CloseBrace >>= λ _. give (shape q.0 q.1 t)

  unfoldable pub a_shape : Bool → R ShapeExpr
  a_shape whole = do
    q ← all_qualifiers v
    _ ← opens symbol.OpenBrace n
    s ← shape_behind q
    _ ← notes v whole
    give s

  unfoldable pub shape_or_reference : Bool → R ShapeExpr
  shape_or_reference whole = either (is_among references) (reference v) (a_shape whole)

  -- a Shape or a reference behind a constraint; in an arc a brace before a number begins a cardinality
  unfoldable pub braced : ShapeExpr → R (ShapeExpr × Bool)
  braced c = opens symbol.OpenBrace n >>= λ _. either (is_symbol symbol.Integer) (give (c, true)) (shape_behind (false, []) >>= λ s. give (both c s, false))

  unfoldable pub joined_with : Bool → ShapeExpr → R (ShapeExpr × Bool)
  joined_with whole c = shape_or_reference whole >>= λ s. give (both c s, false)

  unfoldable pub behind_constraint : Bool → ShapeExpr → R (ShapeExpr × Bool)
  behind_constraint true c = either (is_among shapes_or_references) (joined_with true c) (give (c, false))
  behind_constraint false c = either (is_symbol symbol.OpenBrace) (braced c) (either (is_among unbraced) (joined_with false c) (give (c, false)))

  unfoldable pub constraint_first : Bool → R (ShapeExpr × Bool)
  constraint_first whole = non_literal bounded v >>= λ c. notes v whole >>= λ _. behind_constraint whole c

  unfoldable pub literal_only : Bool → R (ShapeExpr × Bool)
  literal_only whole = literal_constraint bounded v >>= λ c. notes v whole >>= λ _. give (c, false)

  unfoldable pub constraint_behind : Bool → ShapeExpr → R (ShapeExpr × Bool)
  constraint_behind whole s = non_literal bounded v >>= λ c. notes v whole >>= λ _. give (both s c, false)

  unfoldable pub shape_first : Bool → R (ShapeExpr × Bool)
  shape_first whole = shape_or_reference whole >>= λ s. either (is_among non_literals) (constraint_behind whole s) (give (s, false))

  unfoldable pub parenthesised : R (ShapeExpr × Bool)
  parenthesised = do
    _ ← opens symbol.OpenParenthesis n
    e ← inside.expr
    _ ← mark symbol.CloseParenthesis
    give (e.0, false)

  unfoldable pub dot : R (ShapeExpr × Bool)
  dot = mark symbol.Dot >>= λ _. give (empty_shape, false)

  unfoldable pub atom : Bool → R (ShapeExpr × Bool)
  atom whole = either (is_among non_literals) (constraint_first whole) (either (is_among literal_constraints) (literal_only whole)
      (either (is_among shapes_or_references) (shape_first whole) (either (is_symbol symbol.OpenParenthesis) parenthesised dot)))

  unfoldable pub negated : Bool → R (ShapeExpr × Bool)
  negated whole = either (is_symbol symbol.Not) (mark symbol.Not >>= λ _. atom whole >>= λ x. give (neg x.0, x.1)) (atom whole)

  -- members that go behind others
  unfoldable pub and_behind : Bool → List ShapeExpr × Bool → R (List ShapeExpr × Bool)
  and_behind whole a = mark symbol.And >>= λ _. negated whole >>= λ x. give (a.0 ++ x.0 ∷ [], x.1)

  unfoldable pub conjunction_from : Bool → ShapeExpr × Bool → R (ShapeExpr × Bool)
  conjunction_from whole x = loop (is_symbol symbol.And) (and_behind whole) (x.0 ∷ [], x.1) >>= λ a. give (all_of a.0, a.1)

  unfoldable pub conjunction : Bool → R (ShapeExpr × Bool)
  conjunction whole = negated whole >>= conjunction_from whole

  unfoldable pub or_behind : Bool → List ShapeExpr × Bool → R (List ShapeExpr × Bool)
  or_behind whole a = mark symbol.Or >>= λ _. conjunction whole >>= λ x. give (a.0 ++ x.0 ∷ [], x.1)

  unfoldable pub disjunction_from : Bool → ShapeExpr × Bool → R (ShapeExpr × Bool)
  disjunction_from whole x = loop (is_symbol symbol.Or) (or_behind whole) (x.0 ∷ [], x.1) >>= λ a. give (any_of a.0, a.1)

  unfoldable pub expression : Bool → R (ShapeExpr × Bool)
  expression whole = conjunction whole >>= disjunction_from whole

  -- a cardinality, behind its brace, and with it
  unfoldable pub most : ℕ → R Bound
  most least = mark symbol.Comma >>= λ _. either (is_symbol symbol.Star) (mark symbol.Star >>= λ _. give bound.Free)
      (either (is_symbol symbol.Integer) (one Syntax (limit_of least) >>= λ m. give (bound.Upto m)) (give bound.Free))

  unfoldable pub limits : R Cardinality
  limits = do
    least ← one Syntax (limit_of 0)
    b ← either (is_symbol symbol.Comma) (most least) (give (bound.Upto least))
    _ ← mark symbol.CloseBrace
    give (least, b)

  unfoldable pub short : Symbol → Cardinality → R (Option Cardinality)
  short a c = mark a >>= λ _. give (Some c)

  unfoldable pub cardinality : R (Option Cardinality)
  cardinality = either (is_symbol symbol.Star) (short symbol.Star (0, bound.Free)) (either (is_symbol symbol.Plus) (short symbol.Plus (1, bound.Free))
      (either (is_symbol symbol.Question) (short symbol.Question (0, bound.Upto 1)) (either (is_symbol symbol.OpenBrace) (opens symbol.OpenBrace n >>= λ _. limits >>= λ c. give (Some c)) (give None))))

  -- the value of an arc; `.` alone is none
  unfoldable pub further_from : ShapeExpr × Bool → R (ShapeExpr × Bool)
  further_from x = conjunction_from false x >>= disjunction_from false

  unfoldable pub further : ShapeExpr × Bool → R (MaybeShapeExpr × Bool)
  further x = further_from x >>= λ y. give (one_expr y.0, y.1)

  unfoldable pub dot_value : R (MaybeShapeExpr × Bool)
  dot_value = mark symbol.Dot >>= λ _. either (is_among connectives) (further (empty_shape, false)) (give (no_expr, false))

  unfoldable pub arc_value : R (MaybeShapeExpr × Bool)
  arc_value = either (is_symbol symbol.Dot) dot_value (expression false >>= λ y. give (one_expr y.0, y.1))

  unfoldable pub cardinality_behind : Bool → R (Option Cardinality)
  cardinality_behind true = limits >>= λ c. give (Some c)
  cardinality_behind false = cardinality

  unfoldable pub direction : R Bool
  direction = either (is_symbol symbol.Caret) (mark symbol.Caret >>= λ _. give true) (give false)

  unfoldable pub an_arc : Option Label → R TripleExpr
  an_arc l = do
    inverse ← direction
    p ← predicate v
    x ← arc_value
    c ← cardinality_behind x.1
    _ ← annotations v
    give (with l (unwrap_or c once) (arc inverse (chars p) x.0))

  unfoldable pub grouped : Option Label → R TripleExpr
  grouped l = do
    _ ← opens symbol.OpenParenthesis n
    t ← inside.triple_expr
    _ ← mark symbol.CloseParenthesis
    c ← cardinality
    _ ← annotations v
    give (bracketed l c t)

  unfoldable pub unlabelled : Option Label → R TripleExpr
  unlabelled l = either (is_symbol symbol.OpenParenthesis) (grouped l) (an_arc l)

  unfoldable pub inclusion : R TripleExpr
  inclusion = mark symbol.Ampersand >>= λ _. label v >>= λ l. give (with None once (include l))

  unfoldable pub unary : R TripleExpr
  unary = either (is_symbol symbol.Ampersand) inclusion (either (is_symbol symbol.Dollar) (mark symbol.Dollar >>= λ _. label v >>= λ l. unlabelled (Some l)) (unlabelled None))

  -- a member that goes behind others, and whether a `;` was the end
  unfoldable pub semicolon : List TripleExpr × Bool → R (List TripleExpr × Bool)
  semicolon (us, true) = refuse Syntax
  semicolon (us, false) = mark symbol.Semicolon >>= λ _. either (is_among units) (unary >>= λ t. give (us ++ t ∷ [], false)) (give (us, true))

  unfoldable pub group : R TripleExpr
  group = unary >>= λ t. loop (is_symbol symbol.Semicolon) semicolon (t ∷ [], false) >>= λ a. give (each_of a.0)

  unfoldable pub bar : List TripleExpr → R (List TripleExpr)
  bar us = mark symbol.Bar >>= λ _. group >>= λ t. give (us ++ t ∷ [])

  unfoldable pub alternatives : R TripleExpr
  alternatives = group >>= λ t. loop (is_symbol symbol.Bar) bar (t ∷ []) >>= λ us. give (one_of us)

-- expressions in which so many brackets may open at most
abbrev pub closed : Inside
closed = record { expr = refuse Deep; triple_expr = refuse Deep }

abbrev pub here : Bool → Scope → ℕ → Inside → Inside
here bounded v n inside = record { expr = expression bounded v n inside true; triple_expr = alternatives bounded v n inside }

unfoldable pub level : Bool → Scope → ℕ → Inside
level bounded v zero = closed
level bounded v (suc d) = here bounded v d (level bounded v d)

module _ (bounded : Bool) (d : ℕ) where
  unfoldable pub whole : Scope → R ShapeExpr
  whole v = (level bounded v (suc d)).expr >>= λ x. give x.0

  unfoldable pub base_directive : State → R State
  base_directive a = mark symbol.SparqlBase >>= λ _. one Syntax (iri_ref_of a.scope) >>= λ i. give (rebased i a)

  unfoldable pub prefix_directive : State → R State
  prefix_directive a = mark symbol.SparqlPrefix >>= λ _. mark symbol.PnameNs >>= λ t. one Syntax (iri_ref_of a.scope) >>= λ i. give (declared (prefix_of t) i a)

  unfoldable pub import_directive : State → R State
  import_directive a = mark symbol.Import >>= λ _. iri a.scope >>= λ i. give (imported (chars i) a)

  unfoldable pub first_start : MaybeShapeExpr → R Symbol
  first_start no_expr = one Syntax (of_word starts)
  first_start (one_expr e) = refuse Syntax

  unfoldable pub start_directive : State → R State
  start_directive a = first_start a.start >>= λ _. mark symbol.Equals >>= λ _. whole a.scope >>= λ e. give (started e a)

  unfoldable pub body : Scope → R ShapeExpr
  body v = either (is_symbol symbol.External) (refuse External) (whole v)

  unfoldable pub declaration : State → R State
  declaration a = label a.scope >>= λ l. body a.scope >>= λ e. give (added l e a)

  unfoldable pub statement : State → R State
  statement a = either (is_symbol symbol.SparqlBase) (base_directive a) (either (is_symbol symbol.SparqlPrefix) (prefix_directive a)
      (either (is_symbol symbol.Import) (import_directive a) (either (is_among starts) (start_directive a) (declaration a))))

  unfoldable pub document : State → R State
  document a = loop is_any statement a >>= finish Syntax
