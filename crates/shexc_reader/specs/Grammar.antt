-- The grammar of ShExC with the trees that its rules stand for (ShEx 2.1, section 6; a profile of it). A rule relates what lies ahead before and
-- behind its tokens. With the flag patterns are within their limits.
use Rattle.std.specs.Prelude.{◌≡◌, ◌<◌, ◌⊎◌, unwrap_or, Bool, true, false, ℕ, zero, suc, List, [], Option, Some, None}
use Rattle.std.specs.Str.{chars}
use Rattle.rdf_cursor.specs.Ahead.{Ahead, finished, next_is}
use Rattle.rdf_cursor.specs.Phrases.{Phrase, Is, Nothing, ◌⨾◌, Many}
use Rattle.rdf_cursor.specs.Symbols.{is_among}
use Rattle.rdf_cursor.specs.declared.symbols.Symbol.{Symbol}
use Rattle.rdf_cursor.specs.declared.symbols.Symbol.TheVariants as symbol
use Rattle.rdf_lex.specs.Tokens.{Spelled}
use Rattle.tally.specs.declared.Bound.{Bound}
use Rattle.tally.specs.declared.Bound.TheVariants as bound
use Rattle.schema_documents.specs.declared.label.Label.{Label}
use Rattle.schema_documents.specs.Tree.{ShapeExpr, MaybeShapeExpr, TripleExpr, MaybeTripleExpr, neg, shape, no_expr, one_expr, no_triple, one_triple, arc, include}
use Rattle.term_tokens.specs.Scopes.{Scope}
use Rattle.term_tokens.specs.Terms.{prefix_of}
use Rattle.shexc_constraints.specs.Grammar.{Each, Adds, Iri, Predicate, AnyLabel, Annotation, Notes, Reference, NonLiteral, LiteralConstraint}
use Rattle.shexc_constraints.specs.Meanings.{iri_ref_of, limit_of}
use Rattle.shexc_constraints.specs.Symbols.{Mark, of_symbol, of_word}
use Rattle.shexc_reader.specs.States.{State, declared, rebased, imported, started, added}
use Rattle.shexc_reader.specs.Symbols.{connectives, starts}
use Rattle.shexc_reader.specs.Trees.{empty_shape, both, all_of, any_of, Cardinality, once, with, each_of, one_of, bracketed}

-- one phrase that may be left out
abbrev pub Maybe : Phrase Spelled → Phrase Spelled
Maybe P ts r = P ts r ⊎ Nothing ts r

-- one or more, behind others
abbrev pub MoreOf : {A : Type 0} → (A → Phrase Spelled) → List A → List A → Phrase Spelled
MoreOf {A = A} One xs zs ts r = (ys : List A) × (Adds One xs ys ⨾ Many (Adds One) ys zs) ts r

-- one phrase, or more with a mark between them
abbrev pub Separated : {A : Type 0} → Symbol → (A → Phrase Spelled) → List A → Phrase Spelled
Separated {A = A} a One ys ts r = (xs : List A) × (Adds One [] xs ⨾ Many (λ xs ys. Mark a ⨾ Adds One xs ys) xs ys) ts r

-- a token that is one of these symbols
abbrev pub Word : List Symbol → Phrase Spelled
Word words ts r = (s : Symbol) × Is (of_word words) s ts r

-- the base and the prefixes in force
module _ (v : Scope) where
  -- EXTRA and predicates, or CLOSED, before the brace of a Shape
  abbrev pub PredicateText : List ℕ → Phrase Spelled
  PredicateText p ts r = (i : List ℕ) × (chars i ≡ p) × Predicate v i ts r

  abbrev pub Qualifier : Bool × List (List ℕ) → Bool × List (List ℕ) → Phrase Spelled
  Qualifier a b ts r = ((ps : List (List ℕ)) × ((a.0, ps) ≡ b) × (Mark symbol.Extra ⨾ MoreOf PredicateText a.1 ps) ts r) ⊎ (((true, a.1) ≡ b) × Mark symbol.Closed ts r)

-- what stands in brackets: shape expressions and triple expressions
pub record Inside : Type 1 where
  pub expr : ShapeExpr → Phrase Spelled
  pub triple_expr : TripleExpr → Phrase Spelled

-- With so many brackets that may still open, and what stands in them.
module _ (bounded : Bool) (v : Scope) (n : ℕ) (inside : Inside) where
  -- a bracket that opens
  abbrev pub Opens : Symbol → Phrase Spelled
  Opens a ts r = (0 < n) × Mark a ts r

  -- the braces of a Shape, with a triple expression or without one
  abbrev pub Braces : MaybeTripleExpr → Phrase Spelled
  Braces t = Opens symbol.OpenBrace ⨾ (λ ts r. ((no_triple ≡ t) × Nothing ts r) ⊎ ((u : TripleExpr) × (one_triple u ≡ t) × inside.triple_expr u ts r)) ⨾ Mark symbol.CloseBrace

  -- shapeDefinition, with its annotations where they may stand
  abbrev pub AShape : Bool → ShapeExpr → Phrase Spelled
  AShape whole e ts r = (q : Bool × List (List ℕ)) × (t : MaybeTripleExpr) × (shape q.0 q.1 t ≡ e) × (Many (Qualifier v) (false, []) q ⨾ Braces t ⨾ Notes v whole) ts r

  abbrev pub ShapeOrReference : Bool → ShapeExpr → Phrase Spelled
  ShapeOrReference whole e ts r = AShape whole e ts r ⊎ Reference v e ts r

  -- shapeAtom: a constraint, a Shape or a reference, both, brackets, or `.`
  abbrev pub Atom : Bool → ShapeExpr → Phrase Spelled
  Atom whole e ts r =
      ((NonLiteral bounded v e ⨾ Notes v whole) ts r
      ⊎ ((a : ShapeExpr) × (b : ShapeExpr) × (both a b ≡ e) × (NonLiteral bounded v a ⨾ Notes v whole ⨾ ShapeOrReference whole b) ts r))
      ⊎ ((LiteralConstraint bounded v e ⨾ Notes v whole) ts r
      ⊎ ((ShapeOrReference whole e ts r
      ⊎ ((a : ShapeExpr) × (b : ShapeExpr) × (both a b ≡ e) × (ShapeOrReference whole a ⨾ NonLiteral bounded v b ⨾ Notes v whole) ts r))
      ⊎ ((Opens symbol.OpenParenthesis ⨾ inside.expr e ⨾ Mark symbol.CloseParenthesis) ts r
      ⊎ ((empty_shape ≡ e) × Mark symbol.Dot ts r))))

  -- shapeNot
  abbrev pub Negated : Bool → ShapeExpr → Phrase Spelled
  Negated whole e ts r = Atom whole e ts r ⊎ ((a : ShapeExpr) × (neg a ≡ e) × (Mark symbol.Not ⨾ Atom whole a) ts r)

  -- shapeAnd
  abbrev pub Conjunction : Bool → ShapeExpr → Phrase Spelled
  Conjunction whole e ts r = (es : List ShapeExpr) × (all_of es ≡ e) × Separated symbol.And (Negated whole) es ts r

  -- shapeOr
  abbrev pub Expression : Bool → ShapeExpr → Phrase Spelled
  Expression whole e ts r = (es : List ShapeExpr) × (any_of es ≡ e) × Separated symbol.Or (Conjunction whole) es ts r

  -- cardinality
  abbrev pub Most : ℕ → Bound → Phrase Spelled
  Most least b ts r =
      ((bound.Upto least ≡ b) × Nothing ts r) ⊎ (((bound.Free ≡ b) × Mark symbol.Comma ts r) ⊎ (((bound.Free ≡ b) × (Mark symbol.Comma ⨾ Mark symbol.Star) ts r)
      ⊎ ((most : ℕ) × (bound.Upto most ≡ b) × (Mark symbol.Comma ⨾ Is (limit_of least) most) ts r)))

  abbrev pub ACardinality : Cardinality → Phrase Spelled
  ACardinality c ts r =
      (((0, bound.Free) ≡ c) × Mark symbol.Star ts r) ⊎ ((((1, bound.Free) ≡ c) × Mark symbol.Plus ts r) ⊎ ((((0, bound.Upto 1) ≡ c) × Mark symbol.Question ts r)
      ⊎ ((Opens symbol.OpenBrace ⨾ Is (limit_of 0) c.0 ⨾ Most c.0 c.1 ⨾ Mark symbol.CloseBrace) ts r)))

  abbrev pub MaybeCardinality : Option Cardinality → Phrase Spelled
  MaybeCardinality o ts r = ((None ≡ o) × Nothing ts r) ⊎ ((c : Cardinality) × (Some c ≡ o) × ACardinality c ts r)

  -- the value of an arc: `.` is none, unless AND or OR goes on behind it
  abbrev pub ArcValue : MaybeShapeExpr → Phrase Spelled
  ArcValue o ts r = ((no_expr ≡ o) × Mark symbol.Dot ts r)
      ⊎ ((e : ShapeExpr) × (one_expr e ≡ o) × ((m : Ahead Spelled) → Mark symbol.Dot ts m → next_is (is_among connectives) m ≡ true) × Expression false e ts r)

  abbrev pub Direction : Bool → Phrase Spelled
  Direction inverse ts r = ((true ≡ inverse) × Mark symbol.Caret ts r) ⊎ ((false ≡ inverse) × Nothing ts r)

  -- tripleConstraint
  abbrev pub Arc : Option Label → TripleExpr → Phrase Spelled
  Arc l t ts r = (inverse : Bool) × (p : List ℕ) × (value : MaybeShapeExpr) × (o : Option Cardinality) × (with l (unwrap_or o once) (arc inverse (chars p) value) ≡ t)
      × (Direction inverse ⨾ Predicate v p ⨾ ArcValue value ⨾ MaybeCardinality o ⨾ Each (Annotation v)) ts r

  -- bracketedTripleExpr
  abbrev pub Bracketed : Option Label → TripleExpr → Phrase Spelled
  Bracketed l t ts r = (u : TripleExpr) × (o : Option Cardinality) × (bracketed l o u ≡ t)
      × (Opens symbol.OpenParenthesis ⨾ inside.triple_expr u ⨾ Mark symbol.CloseParenthesis ⨾ MaybeCardinality o ⨾ Each (Annotation v)) ts r

  -- unaryTripleExpr
  abbrev pub MaybeLabel : Option Label → Phrase Spelled
  MaybeLabel o ts r = ((None ≡ o) × Nothing ts r) ⊎ ((l : Label) × (Some l ≡ o) × (Mark symbol.Dollar ⨾ AnyLabel v l) ts r)

  abbrev pub Unary : TripleExpr → Phrase Spelled
  Unary t ts r = ((o : Option Label) × (MaybeLabel o ⨾ (λ m q. Arc o t m q ⊎ Bracketed o t m q)) ts r)
      ⊎ ((l : Label) × (with None once (include l) ≡ t) × (Mark symbol.Ampersand ⨾ AnyLabel v l) ts r)

  -- groupTripleExpr: `;` between its members and perhaps behind the last
  abbrev pub Group : TripleExpr → Phrase Spelled
  Group t ts r = (us : List TripleExpr) × (each_of us ≡ t) × (Separated symbol.Semicolon Unary us ⨾ Maybe (Mark symbol.Semicolon)) ts r

  -- oneOfTripleExpr
  abbrev pub Alternatives : TripleExpr → Phrase Spelled
  Alternatives t ts r = (us : List TripleExpr) × (one_of us ≡ t) × Separated symbol.Bar Group us ts r

-- expressions in which brackets nest so deep at most
abbrev pub nothing_inside : Inside
nothing_inside = record { expr = λ e ts r. ⊥; triple_expr = λ t ts r. ⊥ }

abbrev pub here : Bool → Scope → ℕ → Inside → Inside
here bounded v n inside = record { expr = Expression bounded v n inside true; triple_expr = Alternatives bounded v n inside }

unfoldable pub Level : Bool → Scope → ℕ → Inside
Level bounded v zero = nothing_inside
Level bounded v (suc d) = here bounded v d (Level bounded v d)

-- statements, from state to state
module _ (bounded : Bool) (d : ℕ) where
  abbrev pub Whole : Scope → ShapeExpr → Phrase Spelled
  Whole v = (Level bounded v (suc d)).expr

  abbrev pub BaseDirective : State → State → Phrase Spelled
  BaseDirective a b ts r = (i : List ℕ) × (rebased i a ≡ b) × (Mark symbol.SparqlBase ⨾ Is (iri_ref_of a.scope) i) ts r

  abbrev pub PrefixDirective : State → State → Phrase Spelled
  PrefixDirective a b ts r = (t : Spelled) × (i : List ℕ) × (declared (prefix_of t) i a ≡ b) × (Mark symbol.SparqlPrefix ⨾ Is (of_symbol symbol.PnameNs) t ⨾ Is (iri_ref_of a.scope) i) ts r

  abbrev pub ImportDirective : State → State → Phrase Spelled
  ImportDirective a b ts r = (i : List ℕ) × (imported (chars i) a ≡ b) × (Mark symbol.Import ⨾ Iri a.scope i) ts r

  -- a second start is none
  abbrev pub StartDirective : State → State → Phrase Spelled
  StartDirective a b ts r = (e : ShapeExpr) × (a.start ≡ no_expr) × (started e a ≡ b) × (Word starts ⨾ Mark symbol.Equals ⨾ Whole a.scope e) ts r

  abbrev pub LabelledExpression : State → State → Phrase Spelled
  LabelledExpression a b ts r = (l : Label) × (e : ShapeExpr) × (added l e a ≡ b) × (AnyLabel a.scope l ⨾ Whole a.scope e) ts r

  abbrev pub Statement : State → State → Phrase Spelled
  Statement a b ts r = BaseDirective a b ts r ⊎ (PrefixDirective a b ts r ⊎ (ImportDirective a b ts r ⊎ (StartDirective a b ts r ⊎ LabelledExpression a b ts r)))

  -- shexDoc
  abbrev pub ShExC : State → State → Ahead Spelled → Type 0
  ShExC a b ts = Many Statement a b ts finished
