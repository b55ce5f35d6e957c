-- What is spelled is read: cardinalities, values of arcs, arcs.
use Rattle.std.proofs.Common.{◌≡◌, ◌<◌, Bool, true, false, ℕ, List, [], ◌∷◌, ◌++◌, Option, Ok, refl, sym, subst, inl, inr, ◌∙◌, true≢false}
use Rattle.rdf_cursor.specs.Ahead.{Ahead, token, next_is}
use Rattle.rdf_cursor.specs.Phrases.{Is, ◌⨾◌}
use Rattle.rdf_cursor.specs.Symbols.{is_symbol}
use Rattle.shexc_constraints.specs.Symbols.{predicates, Mark}
use Rattle.term_tokens.specs.Scopes.{Scope}
use Rattle.shexc_constraints.specs.Meanings.{limit_of}
use Rattle.shexc_reader.specs.Trees.{Cardinality}
use Rattle.shexc_reader.specs.Reading.{Inside, most, limits, short, cardinality, cardinality_behind, direction}
use Rattle.term_tokens.proofs.Nexts.{Next, nexts, no_symbol, first_of, single, outside}
use Rattle.shexc_constraints.proofs.Nexts.{never, begins, first, guarded_one, took}
use Rattle.shexc_reader.proofs.CompleteShapes.{AreComplete, opens_read}
use Rattle.shexc_reader.proofs.CompleteAtoms.{Ready, After, extending}
use Rattle.rdf_cursor.proofs.Completeness.{one_read, many_follows}
use Rattle.rdf_lex.specs.Tokens.{Spelled}
use Rattle.rdf_cursor.specs.declared.symbols.Symbol.{Symbol}
use Rattle.rdf_cursor.specs.declared.symbols.Symbol.TheVariants as symbol
use Rattle.shexc_constraints.specs.declared.faults.Fault.TheVariants.{Syntax}
use Rattle.shexc_reader.specs.Grammar as g
use Rattle.shexc_constraints.specs.Grammar as low

-- what a cardinality begins with; what stands behind a triple expression without `;`; and behind an arc's value
abbrev pub cards : List Symbol
cards = symbol.Star ∷ symbol.Plus ∷ symbol.Question ∷ symbol.OpenBrace ∷ []

abbrev pub ends : List Symbol
ends = symbol.Semicolon ∷ symbol.Bar ∷ symbol.CloseBrace ∷ symbol.CloseParenthesis ∷ []

abbrev pub noted : List Symbol
noted = symbol.Slashes ∷ ends

abbrev pub valued : List Symbol
valued = cards ++ noted

minimum_begins : (x : ℕ) (ts r : Ahead Spelled) → Is (limit_of 0) x ts r → Next (symbol.Integer ∷ []) ts
unfolding limit_of
minimum_begins x ts r h = guarded_one symbol.Integer (limit_of 0) _ (λ t. refl) x ts r h

maximum_begins : (least x : ℕ) (ts r : Ahead Spelled) → Is (limit_of least) x ts r → Next (symbol.Integer ∷ []) ts
unfolding limit_of
maximum_begins least x ts r h = guarded_one symbol.Integer (limit_of least) _ (λ t. refl) x ts r h

one_behind : (t u : Spelled) (ts m k : Ahead Spelled) → ts ≡ token t m → ts ≡ token u k → m ≡ k
one_behind t u ts m k e f = cc

pub annotated : (v : Scope) (ts r : Ahead Spelled) → low.Each (low.Annotation v) ts r → Next ends r → Next noted ts
annotated v ts r h f =
    many_follows (is_symbol symbol.Slashes) (λ (a b : Unit {0}) ts r. low.Annotation v ts r) (Next noted) (λ s x ts m (p, y, (k, (w, c), i)). begins symbol.Slashes w ts k c)
    (λ m n. nexts (symbol.Slashes ∷ []) noted m refl (first_of symbol.Slashes m n)) tt tt ts r h (nexts ends noted r refl f)

module _ (bounded : Bool) (v : Scope) (n : ℕ) (inside : Inside) (spelled : g.Inside) (complete : AreComplete inside spelled) where
  limits_read : (c : Cardinality) (ts r : Ahead Spelled) → (Is (limit_of 0) c.0 ⨾ g.Most bounded v n spelled c.0 c.1 ⨾ Mark symbol.CloseBrace) ts r → limits bounded v n inside ts ≡ Ok (c, r)
  unfolding limits most
  limits_read c ts r (m, l, (k, inl (e, same), (w, d))) =
      rw (one_read Syntax (limit_of 0) c.0 ts m l, same, no_symbol (symbol.CloseBrace ∷ []) symbol.Comma k refl (first symbol.CloseBrace w k r d), took symbol.CloseBrace w k r d, e) refl
  limits_read c ts r (m, l, (k, inr (inl (e, (u, h))), (w, d))) =
      let last = first symbol.CloseBrace w k r d in
      rw (
        one_read Syntax (limit_of 0) c.0 ts m l,
        begins symbol.Comma u m k h,
        took symbol.Comma u m k h,
        no_symbol (symbol.CloseBrace ∷ []) symbol.Star k refl last,
        no_symbol (symbol.CloseBrace ∷ []) symbol.Integer k refl last,
        took symbol.CloseBrace w k r d,
        e,
      ) refl
  limits_read c ts r (m, l, (k, inr (inr (inl (e, (j, (u, h), (x, i))))), (w, d))) =
      rw (
        one_read Syntax (limit_of 0) c.0 ts m l,
        begins symbol.Comma u m j h,
        took symbol.Comma u m j h,
        begins symbol.Star x j k i,
        took symbol.Star x j k i,
        took symbol.CloseBrace w k r d,
        e,
      ) refl
  limits_read c ts r (m, l, (k, inr (inr (inr (x, e, (j, (u, h), i)))), (w, d))) =
      let number = maximum_begins c.0 x j k i in
      rw (
        one_read Syntax (limit_of 0) c.0 ts m l,
        begins symbol.Comma u m j h,
        took symbol.Comma u m j h,
        no_symbol (symbol.Integer ∷ []) symbol.Star j refl number,
        single symbol.Integer j ∙ number,
        one_read Syntax (limit_of c.0) x j k i,
        took symbol.CloseBrace w k r d,
        e,
      ) refl

  pub cardinality_read : (o : Option Cardinality) (ts r : Ahead Spelled) → g.MaybeCardinality bounded v n spelled o ts r → Next noted r → cardinality bounded v n inside ts ≡ Ok (o, r)
  unfolding cardinality short
  cardinality_read o ts r (inl (e, same)) f =
      rw (same, no_symbol noted symbol.Star r refl f, no_symbol noted symbol.Plus r refl f, no_symbol noted symbol.Question r refl f, no_symbol noted symbol.OpenBrace r refl f, e) refl
  cardinality_read o ts r (inr (c, is, inl (e, (w, h)))) f = rw (begins symbol.Star w ts r h, took symbol.Star w ts r h, e, is) refl
  cardinality_read o ts r (inr (c, is, inr (inl (e, (w, h))))) f =
      let n = first symbol.Plus w ts r h in rw (no_symbol (symbol.Plus ∷ []) symbol.Star ts refl n, begins symbol.Plus w ts r h, took symbol.Plus w ts r h, e, is) refl
  cardinality_read o ts r (inr (c, is, inr (inr (inl (e, (w, h)))))) f =
      let n = first symbol.Question w ts r h in
      rw (no_symbol (symbol.Question ∷ []) symbol.Star ts refl n, no_symbol (symbol.Question ∷ []) symbol.Plus ts refl n, begins symbol.Question w ts r h, took symbol.Question w ts r h, e, is) refl
  cardinality_read o ts r (inr (c, is, inr (inr (inr (m, (z, (w, h)), i))))) f =
      let k = first symbol.OpenBrace w ts m h in
      rw (
        no_symbol (symbol.OpenBrace ∷ []) symbol.Star ts refl k,
        no_symbol (symbol.OpenBrace ∷ []) symbol.Plus ts refl k,
        no_symbol (symbol.OpenBrace ∷ []) symbol.Question ts refl k,
        begins symbol.OpenBrace w ts m h,
        opens_read symbol.OpenBrace n ts m z (w, h),
        limits_read c m r i,
        is,
      ) refl

  -- no brace, where another symbol is next
  no_brace : (ks : List Symbol) (c q : Ahead Spelled) → outside ks (symbol.OpenBrace ∷ []) ≡ true → Next ks c → Mark symbol.OpenBrace c q → ⊥
  no_brace ks c q out h (w, d) = true≢false (sym (begins symbol.OpenBrace w c q d) ∙ no_symbol ks symbol.OpenBrace c out h)

  -- behind a value, whose brace may be taken
  pub cardinality_behind_read : (b : Bool) (o : Option Cardinality) (c q k : Ahead Spelled) → After bounded v n inside spelled complete false b c q →
      g.MaybeCardinality bounded v n spelled o c k → Next noted k → cardinality_behind bounded v n inside b q ≡ Ok (o, k)
  unfolding cardinality_behind
  cardinality_behind_read false o c q k same h f = rw (← same) (cardinality_read o c k h f)
  cardinality_behind_read true o c q k ((z, d), i) (inl (e, same)) f = absurd (no_brace noted c q refl (subst (Next noted) (sym same) f) d)
  cardinality_behind_read true o c q k ((z, d), i) (inr (l, is, inl (e, (w, h)))) f = absurd (no_brace (symbol.Star ∷ []) c q refl (first symbol.Star w c k h) d)
  cardinality_behind_read true o c q k ((z, d), i) (inr (l, is, inr (inl (e, (w, h))))) f = absurd (no_brace (symbol.Plus ∷ []) c q refl (first symbol.Plus w c k h) d)
  cardinality_behind_read true o c q k ((z, d), i) (inr (l, is, inr (inr (inl (e, (w, h)))))) f = absurd (no_brace (symbol.Question ∷ []) c q refl (first symbol.Question w c k h) d)
  cardinality_behind_read true o c q k ((z, d), i) (inr (l, is, inr (inr (inr (m, (y, (w, h)), j))))) f =
      rw (limits_read l q k (subst (λ (s : Ahead Spelled). (Is (limit_of 0) l.0 ⨾ g.Most bounded v n spelled l.0 l.1 ⨾ Mark symbol.CloseBrace) s k) (one_behind h.0 d.1.0 c m q h.1 d.1.1) j), is) refl

  -- where an arc's value ends
  pub value_ends : (o : Option Cardinality) (c k : Ahead Spelled) → g.MaybeCardinality bounded v n spelled o c k → Next noted k → Next valued c
  value_ends o c k (inl (e, same)) f = nexts noted valued c refl (subst (Next noted) (sym same) f)
  value_ends o c k (inr (l, is, inl (e, (w, h)))) f = nexts (symbol.Star ∷ []) valued c refl (first symbol.Star w c k h)
  value_ends o c k (inr (l, is, inr (inl (e, (w, h))))) f = nexts (symbol.Plus ∷ []) valued c refl (first symbol.Plus w c k h)
  value_ends o c k (inr (l, is, inr (inr (inl (e, (w, h)))))) f = nexts (symbol.Question ∷ []) valued c refl (first symbol.Question w c k h)
  value_ends o c k (inr (l, is, inr (inr (inr (m, (y, (w, h)), j))))) f = nexts (symbol.OpenBrace ∷ []) valued c refl (first symbol.OpenBrace w c m h)

  counts : (o : Option Cardinality) (c k : Ahead Spelled) → g.MaybeCardinality bounded v n spelled o c k → Next noted k → (q : Ahead Spelled) →
      Mark symbol.OpenBrace c q → (0 < n) × (next_is (is_symbol symbol.Integer) q ≡ true)
  counts o c k (inl (e, same)) f q d = absurd (no_brace noted c q refl (subst (Next noted) (sym same) f) d)
  counts o c k (inr (l, is, inl (e, (w, h)))) f q d = absurd (no_brace (symbol.Star ∷ []) c q refl (first symbol.Star w c k h) d)
  counts o c k (inr (l, is, inr (inl (e, (w, h))))) f q d = absurd (no_brace (symbol.Plus ∷ []) c q refl (first symbol.Plus w c k h) d)
  counts o c k (inr (l, is, inr (inr (inl (e, (w, h)))))) f q d = absurd (no_brace (symbol.Question ∷ []) c q refl (first symbol.Question w c k h) d)
  counts o c k (inr (l, is, inr (inr (inr (m, (y, (w, h)), j))))) f q d =
      (y, subst (λ (s : Ahead Spelled). next_is (is_symbol symbol.Integer) s ≡ true) (one_behind h.0 d.1.0 c m q h.1 d.1.1) (single symbol.Integer m ∙ minimum_begins l.0 m j.0 j.1))

  pub value_ready : (o : Option Cardinality) (c k : Ahead Spelled) → g.MaybeCardinality bounded v n spelled o c k → Next noted k → Ready bounded v n inside spelled complete false c
  value_ready o c k h f = (never valued extending c refl (value_ends o c k h f), counts o c k h f)

  pub direction_read : (inverse : Bool) (ts r : Ahead Spelled) → g.Direction bounded v n spelled inverse ts r → Next predicates r → direction bounded v n inside ts ≡ Ok (inverse, r)
  unfolding direction
  direction_read inverse ts r (inl (e, (w, h))) f = rw (begins symbol.Caret w ts r h, took symbol.Caret w ts r h, e) refl
  direction_read inverse ts r (inr (e, same)) f = rw (same, no_symbol predicates symbol.Caret r refl f, e) refl
