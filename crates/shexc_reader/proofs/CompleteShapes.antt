-- What is spelled is read: Shapes and references.
use Rattle.std.proofs.Common.{◌≡◌, ◌<◌, ◌⊎◌, Bool, true, false, ℕ, zero, suc, List, [], ◌∷◌, ◌++◌, Ok, refl, inl, inr, arith, ◌∙◌}
use Rattle.rdf_cursor.specs.Ahead.{Ahead}
use Rattle.rdf_cursor.specs.Phrases.{Phrase, Many, none, more, ◌⨾◌, Nothing}
use Rattle.rdf_cursor.specs.Symbols.{is_among}
use Rattle.shexc_constraints.specs.Symbols.{predicates, references, Mark}
use Rattle.shexc_reader.specs.Symbols.{qualifiers, shapes_or_references, units}
use Rattle.term_tokens.specs.Scopes.{Scope}
use Rattle.shexc_reader.specs.Reading.{Inside, extra_behind, extras, qualifier, all_qualifiers, opens, maybe_triple, shape_behind, a_shape, shape_or_reference}
use Rattle.shexc_constraints.specs.Reading.{notes}
use Rattle.term_tokens.proofs.Nexts.{Next, nexts, no_next, no_symbol, single}
use Rattle.shexc_constraints.proofs.Nexts.{Never, fewer, never, begins, first, took}
use Rattle.shexc_reader.proofs.Places.{consumes_extra_behind, consumes_qualifier}
use Rattle.shexc_constraints.proofs.Complete.{noting, predicate_read, reference_read, annotations_read}
use Rattle.rdf_cursor.proofs.Completeness.{loop_read}
use Rattle.rdf_lex.specs.Tokens.{Spelled}
use Rattle.schema_documents.specs.Tree.{ShapeExpr, TripleExpr, MaybeTripleExpr, no_triple, one_triple, shape}
use Rattle.rdf_cursor.specs.declared.symbols.Symbol.{Symbol}
use Rattle.rdf_cursor.specs.declared.symbols.Symbol.TheVariants as symbol
use Rattle.shexc_reader.specs.Grammar as g
use Rattle.shexc_constraints.specs.Grammar as low

-- a bracket
pub opens_read : (a : Symbol) (n : ℕ) (ts r : Ahead Spelled) → 0 < n → Mark a ts r → opens a n ts ≡ Ok (tt, r)
unfolding opens
opens_read a zero ts r h c = absurd (omega (arith, h))
opens_read a (suc n) ts r h (w, c) = rw (took a w ts r c) refl

-- what does not follow the words before a brace
abbrev pub qualifying : List Symbol
qualifying = qualifiers ++ predicates

-- what a Shape begins with
abbrev pub shapes : List Symbol
shapes = symbol.OpenBrace ∷ qualifiers

-- behind what stands in brackets
abbrev pub closers : List Symbol
closers = symbol.CloseBrace ∷ symbol.CloseParenthesis ∷ []

module _ (v : Scope) where
  pub maybe_notes_read : (whole : Bool) (ts r : Ahead Spelled) → low.Notes v whole ts r → (whole ≡ true → Never noting r) → notes v whole ts ≡ Ok (tt, r)
  unfolding notes
  maybe_notes_read true ts r h f = annotations_read v ts r h (f refl)
  maybe_notes_read false ts r h f = rw h refl

  extra_read : (ps qs : List (List ℕ)) (ts r : Ahead Spelled) → low.Adds (g.PredicateText v) ps qs ts r → (extra_behind v ps ts ≡ Ok (qs, r)) × Next predicates ts
  unfolding extra_behind
  extra_read ps qs ts r (p, e, (i, q, h)) = let a = predicate_read v i ts r h in (rw (a.0, q, e) refl, a.1)

  abbrev Anything : Ahead Spelled → Type 0
  Anything ts = Unit {0}

  extras_read : (ps qs : List (List ℕ)) (ts r : Ahead Spelled) → (Mark symbol.Extra ⨾ g.MoreOf (g.PredicateText v) ps qs) ts r → Never predicates r → extras v ps ts ≡ Ok (qs, r)
  unfolding extras
  extras_read ps qs ts r (m, (w, c), (xs, (n, h, i))) f =
      rw (took symbol.Extra w ts m c, (extra_read ps xs m n h).0)
      (loop_read (is_among predicates) (extra_behind v) (low.Adds (g.PredicateText v)) Anything (consumes_extra_behind v) (λ a b ts m o k. (extra_read a b ts m o).0) (λ a b ts m o. (extra_read a b ts m o).1) (λ m n. tt)
      xs qs n r i tt f)

  qualifier_read : (a b : Bool × List (List ℕ)) (ts r : Ahead Spelled) → g.Qualifier v a b ts r → Never predicates r → qualifier v a ts ≡ Ok (b, r)
  unfolding qualifier
  qualifier_read a b ts r (inl (ps, e, (m, (w, c), h))) f = rw (begins symbol.Extra w ts m c, extras_read a.1 ps ts r (m, (w, c), h) f, e) refl
  qualifier_read a b ts r (inr (e, (w, c))) f = rw (no_symbol (symbol.Closed ∷ []) symbol.Extra ts refl (first symbol.Closed w ts r c), took symbol.Closed w ts r c, e) refl

  qualifier_begins : (a b : Bool × List (List ℕ)) (ts r : Ahead Spelled) → g.Qualifier v a b ts r → Next qualifiers ts
  qualifier_begins a b ts r (inl (ps, e, (m, (w, c), h))) = nexts (symbol.Extra ∷ []) qualifiers ts refl (first symbol.Extra w ts m c)
  qualifier_begins a b ts r (inr (e, (w, c))) = nexts (symbol.Closed ∷ []) qualifiers ts refl (first symbol.Closed w ts r c)

  qualifiers_read : (q : Bool × List (List ℕ)) (ts r : Ahead Spelled) → Many (g.Qualifier v) (false, []) q ts r → Never qualifying r → all_qualifiers v ts ≡ Ok (q, r)
  unfolding all_qualifiers
  qualifiers_read q ts r h f =
      loop_read (is_among qualifiers) (qualifier v) (g.Qualifier v) (Never predicates)
      (consumes_qualifier v) qualifier_read qualifier_begins (λ m n. never qualifiers predicates m refl n) (false, []) q ts r h
      (fewer predicates qualifying r refl f) (fewer qualifiers qualifying r refl f)

  pub qualified_begins : (a b : Bool × List (List ℕ)) (ts r : Ahead Spelled) → Many (g.Qualifier v) a b ts r → Next (symbol.OpenBrace ∷ []) r → Next shapes ts
  qualified_begins a b ts r none f = nexts (symbol.OpenBrace ∷ []) shapes ts refl f
  qualified_begins a b ts r (more {x = x} {mid = m} o rest) f = nexts qualifiers shapes ts refl (qualifier_begins a x ts m o)

-- what is spelled in brackets is read, and no brace is taken behind it
pub record AreComplete (inside : Inside) (spelled : g.Inside) : Type 0 where
  pub expr : (e : ShapeExpr) (ts r : Ahead Spelled) → spelled.expr e ts r → Next (symbol.CloseParenthesis ∷ []) r → inside.expr ts ≡ Ok ((e, false), r)
  pub triple_expr : (t : TripleExpr) (ts r : Ahead Spelled) → spelled.triple_expr t ts r → Next closers r → inside.triple_expr ts ≡ Ok (t, r)
  pub triple_begins : (t : TripleExpr) (ts r : Ahead Spelled) → spelled.triple_expr t ts r → Next units ts

module _ (bounded : Bool) (v : Scope) (n : ℕ) (inside : Inside) (spelled : g.Inside) (complete : AreComplete inside spelled) where
  abbrev pub InBraces : MaybeTripleExpr → Phrase Spelled
  InBraces t ts r = ((no_triple ≡ t) × Nothing ts r) ⊎ ((u : TripleExpr) × (one_triple u ≡ t) × spelled.triple_expr u ts r)

  maybe_triple_read : (t : MaybeTripleExpr) (ts r : Ahead Spelled) → InBraces t ts r → Next (symbol.CloseBrace ∷ []) r → maybe_triple bounded v n inside ts ≡ Ok (t, r)
  unfolding maybe_triple
  maybe_triple_read t ts r (inl (e, same)) f = rw (same, single symbol.CloseBrace r ∙ f, e) refl
  maybe_triple_read t ts r (inr (u, e, h)) f =
      rw (no_symbol units symbol.CloseBrace ts refl (complete.triple_begins u ts r h), complete.triple_expr u ts r h (nexts (symbol.CloseBrace ∷ []) closers r refl f), e) refl

  pub shape_behind_read : (q : Bool × List (List ℕ)) (t : MaybeTripleExpr) (e : ShapeExpr) (ts r : Ahead Spelled) → shape q.0 q.1 t ≡ e →
      (InBraces t ⨾ Mark symbol.CloseBrace) ts r → shape_behind bounded v n inside q ts ≡ Ok (e, r)
  unfolding shape_behind
  shape_behind_read q t e ts r is (m, h, (w, c)) = rw (maybe_triple_read t ts m h (first symbol.CloseBrace w m r c), took symbol.CloseBrace w m r c, is) refl

  a_shape_read : (whole : Bool) (e : ShapeExpr) (ts r : Ahead Spelled) → g.AShape bounded v n spelled whole e ts r → (whole ≡ true → Never noting r) →
      (a_shape bounded v n inside whole ts ≡ Ok (e, r)) × Next shapes ts
  unfolding a_shape
  a_shape_read whole e ts r (q, t, is, (m, h, (l, (k, (o, (w, c)), b), i))) f =
      let brace = first symbol.OpenBrace w m k c in (
        rw (
          qualifiers_read v q ts m h (never (symbol.OpenBrace ∷ []) qualifying m refl brace),
          opens_read symbol.OpenBrace n m k o (w, c),
          shape_behind_read q t e k l is b,
          maybe_notes_read v whole l r i f,
        ) refl,
        qualified_begins v (false, []) q ts m h brace,
      )

  pub shape_or_reference_read : (whole : Bool) (e : ShapeExpr) (ts r : Ahead Spelled) → g.ShapeOrReference bounded v n spelled whole e ts r → (whole ≡ true → Never noting r)
      → (shape_or_reference bounded v n inside whole ts ≡ Ok (e, r)) × Next shapes_or_references ts
  unfolding shape_or_reference
  shape_or_reference_read whole e ts r (inl h) f = let a = a_shape_read whole e ts r h f in (rw (no_next shapes references ts refl a.1) a.0, nexts shapes shapes_or_references ts refl a.1)
  shape_or_reference_read whole e ts r (inr h) f = let a = reference_read v e ts r h in (rw a.1 a.0, nexts references shapes_or_references ts refl a.1)
