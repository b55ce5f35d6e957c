-- What is spelled is read: atoms and negations.
use Rattle.std.proofs.Common.{◌≡◌, ◌<◌, Bool, true, false, cond, ℕ, List, [], ◌∷◌, ◌++◌, Ok, Err, refl, sym, subst, inl, inr, ◌∙◌}
use Rattle.rdf_cursor.specs.Ahead.{Ahead, finished, broken, token, next_is}
use Rattle.rdf_cursor.specs.Phrases.{none, more, ◌⨾◌}
use Rattle.rdf_cursor.specs.Symbols.{is_symbol, is_among}
use Rattle.shexc_constraints.specs.Symbols.{text_facets, all_facets, node_kinds, non_literals, literal_constraints, references, Mark}
use Rattle.shexc_reader.specs.Symbols.{qualifiers, unbraced, shapes_or_references, units}
use Rattle.term_tokens.specs.Scopes.{Scope}
use Rattle.shexc_reader.specs.Trees.{both}
use Rattle.shexc_constraints.specs.Stops.{R}
use Rattle.shexc_reader.specs.Reading.{Inside, braced, joined_with, behind_constraint, constraint_first, literal_only, constraint_behind, shape_first, parenthesised, dot, atom}
use Rattle.term_tokens.proofs.Nexts.{Next, nexts, no_next, no_symbol, first_of, single}
use Rattle.shexc_constraints.proofs.Nexts.{Never, fewer, never, begins, first, took}
use Rattle.shexc_constraints.proofs.Complete.{noting, reference_read}
use Rattle.shexc_constraints.proofs.CompleteValues.{non_literal_read, literal_constraint_read}
use Rattle.shexc_reader.proofs.CompleteShapes.{opens_read, maybe_notes_read, AreComplete, InBraces, shape_behind_read, shape_or_reference_read}
use Rattle.rdf_cursor.proofs.Completeness.{many_follows}
use Rattle.rdf_lex.specs.Tokens.{Spelled}
use Rattle.schema_documents.specs.Tree.{ShapeExpr, MaybeTripleExpr}
use Rattle.rdf_cursor.specs.declared.symbols.Symbol.{Symbol}
use Rattle.rdf_cursor.specs.declared.symbols.Symbol.TheVariants as symbol
use Rattle.shexc_constraints.specs.declared.faults.Fault.{Fault}
use Rattle.shexc_constraints.specs.declared.faults.Fault.TheVariants.{Syntax}
use Rattle.shexc_reader.specs.Grammar as g
use Rattle.shexc_constraints.specs.Grammar as low

-- the next token as a mark
given : (b : Bool) (t : Spelled) (f : Fault) → b ≡ true → cond b (Ok t) (Err f) ≡ Ok t
given true t f e = refl
given false t f e = absurd cc

pub marked : (a : Symbol) (ts : Ahead Spelled) → next_is (is_symbol a) ts ≡ true → (m : Ahead Spelled) × Mark a ts m
marked a (token t ts) e = (ts, (t, (t, refl, given (is_symbol a t) t Syntax e)))
marked a finished e = absurd cc
marked a broken e = absurd cc

-- what goes on with an atom, braces and annotations aside; and with a whole one
abbrev pub extending : List Symbol
extending = unbraced ++ node_kinds ++ all_facets

abbrev pub extending_whole : List Symbol
extending_whole = symbol.OpenBrace ∷ noting ++ extending

-- what stands before annotations
pub before_notes : (v : Scope) (whole : Bool) (ks : List Symbol) (m r : Ahead Spelled) → ((ts : Ahead Spelled) → Next (symbol.Slashes ∷ []) ts → Never ks ts) →
    low.Notes v whole m r → Never ks r → Never ks m
before_notes v true ks m r out h f =
    many_follows (is_symbol symbol.Slashes) (λ (a b : Unit {0}) ts r. low.Annotation v ts r) (Never ks)
    (λ s x ts m (p, y, (k, (w, c), i)). begins symbol.Slashes w ts k c) (λ m n. out m (first_of symbol.Slashes m n)) tt tt m r h f
before_notes v false ks m r out h f = subst (Never ks) (sym h) f

module _ (bounded : Bool) (v : Scope) (n : ℕ) (inside : Inside) (spelled : g.Inside) (complete : AreComplete inside spelled) where
  -- where an atom ends: in an arc a brace may follow, before a number
  abbrev pub Ready : Bool → Ahead Spelled → Type 0
  Ready true r = Never extending_whole r
  Ready false r = Never extending r × ((m : Ahead Spelled) → Mark symbol.OpenBrace r m → (0 < n) × (next_is (is_symbol symbol.Integer) m ≡ true))

  -- what is left behind: in an arc the brace may be taken
  abbrev pub After : Bool → Bool → Ahead Spelled → Ahead Spelled → Type 0
  After whole false r q = r ≡ q
  After true true r q = ⊥
  After false true r q = g.Opens bounded v n spelled symbol.OpenBrace r q × (next_is (is_symbol symbol.Integer) q ≡ true)

  abbrev pub Reads : Bool → R (ShapeExpr × Bool) → ShapeExpr → Ahead Spelled → Ahead Spelled → Type 0
  Reads whole p e ts r = (b : Bool) × (q : Ahead Spelled) × (p ts ≡ Ok ((e, b), q)) × After whole b r q

  unextended : (whole : Bool) (r : Ahead Spelled) → Ready whole r → Never extending r
  unextended true r f = fewer extending extending_whole r refl f
  unextended false r f = f.0

  unnoted : (whole : Bool) (r : Ahead Spelled) → Ready whole r → whole ≡ true → Never noting r
  unnoted true r f e = fewer noting extending_whole r refl f
  unnoted false r f e = absurd cc

  -- behind a constraint
  alone_by : (c : ShapeExpr) (r : Ahead Spelled) (b : Bool) → next_is (is_symbol symbol.OpenBrace) r ≡ b → Ready false r → Reads false (behind_constraint bounded v n inside false c) c r r
  unfolding behind_constraint braced
  alone_by c r true e (f, counts) =
      let m = marked symbol.OpenBrace r e in
      let k = counts m.0 m.1 in
      (true, m.0, rw (e, opens_read symbol.OpenBrace n r m.0 k.0 m.1, k.1) refl, ((k.0, m.1), k.1))
  alone_by c r false e (f, counts) = (false, r, rw (e, fewer unbraced extending r refl f) refl, refl)

  alone_read : (whole : Bool) (c : ShapeExpr) (r : Ahead Spelled) → Ready whole r → Reads whole (behind_constraint bounded v n inside whole c) c r r
  unfolding behind_constraint
  alone_read true c r f = (false, r, rw (fewer shapes_or_references extending_whole r refl f) refl, refl)
  alone_read false c r f = alone_by c r (next_is (is_symbol symbol.OpenBrace) r) refl f

  -- no number begins what stands in braces
  no_number : (t : MaybeTripleExpr) (ts r : Ahead Spelled) → (InBraces bounded v n inside spelled complete t ⨾ Mark symbol.CloseBrace) ts r → next_is (is_symbol symbol.Integer) ts ≡ false
  no_number t ts r (m, inl (e, same), (w, c)) = rw same (no_symbol (symbol.CloseBrace ∷ []) symbol.Integer m refl (first symbol.CloseBrace w m r c))
  no_number t ts r (m, inr (u, e, h), c) = no_symbol units symbol.Integer ts refl (complete.triple_begins u ts m h)

  joined_read : (c b : ShapeExpr) (k r : Ahead Spelled) → g.ShapeOrReference bounded v n spelled false b k r → next_is (is_symbol symbol.OpenBrace) k ≡ false → next_is (is_among unbraced) k ≡ true
      → behind_constraint bounded v n inside false c k ≡ Ok ((both c b, false), r)
  unfolding behind_constraint joined_with
  joined_read c b k r h e g1 = rw (e, g1, (shape_or_reference_read bounded v n inside spelled complete false b k r h (λ i. absurd cc)).0) refl

  joins : (whole : Bool) (c b : ShapeExpr) (k r : Ahead Spelled) → g.ShapeOrReference bounded v n spelled whole b k r → Ready whole r →
      behind_constraint bounded v n inside whole c k ≡ Ok ((both c b, false), r)
  unfolding behind_constraint joined_with braced
  joins true c b k r h f = let a = shape_or_reference_read bounded v n inside spelled complete true b k r h (unnoted true r f) in rw (a.1, a.0) refl
  joins false c b k r (inr h) f =
      let a = reference_read v b k r h in joined_read c b k r (inr h) (no_symbol references symbol.OpenBrace k refl a.1) (nexts references unbraced k refl a.1)
  joins false c b k r (inl (q, t, is, (m, more {x = x} {mid = l} o others, h))) f =
      let a = qualified x k l o in joined_read c b k r (inl (q, t, is, (m, more o others, h))) (no_symbol qualifiers symbol.OpenBrace k refl a) (nexts qualifiers unbraced k refl a)
    where
      qualified : (x : Bool × List (List ℕ)) (k l : Ahead Spelled) → g.Qualifier v (false, []) x k l → Next qualifiers k
      qualified x k l (inl (ps, e, (m, (w, c), h))) = nexts (symbol.Extra ∷ []) qualifiers k refl (first symbol.Extra w k m c)
      qualified x k l (inr (e, (w, c))) = nexts (symbol.Closed ∷ []) qualifiers k refl (first symbol.Closed w k l c)
  joins false c b k r (inl (q, t, is, (m, none, (l, (j, (o, (w, d)), i), same)))) f =
      rw (begins symbol.OpenBrace w k j d, opens_read symbol.OpenBrace n k j o (w, d), no_number t j l i, shape_behind_read bounded v n inside spelled complete (false, []) t b j l is i, same) refl

  -- an atom, by what it begins with
  by_non_literal : (whole : Bool) (ts : Ahead Spelled) → Next non_literals ts → atom bounded v n inside whole ts ≡ constraint_first bounded v n inside whole ts
  unfolding atom
  by_non_literal whole ts e = rw e refl

  by_literal : (whole : Bool) (ts : Ahead Spelled) → Next literal_constraints ts → atom bounded v n inside whole ts ≡ literal_only bounded v n inside whole ts
  unfolding atom
  by_literal whole ts e = rw (no_next literal_constraints non_literals ts refl e, e) refl

  by_shape : (whole : Bool) (ts : Ahead Spelled) → Next shapes_or_references ts → atom bounded v n inside whole ts ≡ shape_first bounded v n inside whole ts
  unfolding atom
  by_shape whole ts e = rw (no_next shapes_or_references non_literals ts refl e, no_next shapes_or_references literal_constraints ts refl e, e) refl

  by_parenthesis : (whole : Bool) (ts : Ahead Spelled) → Next (symbol.OpenParenthesis ∷ []) ts → atom bounded v n inside whole ts ≡ parenthesised bounded v n inside ts
  unfolding atom
  by_parenthesis whole ts e =
      rw (
        no_next (symbol.OpenParenthesis ∷ []) non_literals ts refl e,
        no_next (symbol.OpenParenthesis ∷ []) literal_constraints ts refl e,
        no_next (symbol.OpenParenthesis ∷ []) shapes_or_references ts refl e,
        single symbol.OpenParenthesis ts ∙ e,
      ) refl

  by_dot : (whole : Bool) (ts : Ahead Spelled) → Next (symbol.Dot ∷ []) ts → atom bounded v n inside whole ts ≡ dot bounded v n inside ts
  unfolding atom
  by_dot whole ts e =
      rw (
        no_next (symbol.Dot ∷ []) non_literals ts refl e,
        no_next (symbol.Dot ∷ []) literal_constraints ts refl e,
        no_next (symbol.Dot ∷ []) shapes_or_references ts refl e,
        no_symbol (symbol.Dot ∷ []) symbol.OpenParenthesis ts refl e,
      ) refl

  first_read : (whole : Bool) (c e : ShapeExpr) (ts m k r : Ahead Spelled) → low.NonLiteral bounded v c ts m → low.Notes v whole m k → Never text_facets k → (whole ≡ true → Never noting k)
      → Reads whole (behind_constraint bounded v n inside whole c) e k r → Reads whole (atom bounded v n inside whole) e ts r
  unfolding constraint_first
  first_read whole c e ts m k r h i f o (b, q, is, after) =
      let a = non_literal_read bounded v c ts m h (before_notes v whole text_facets m k (λ us s. never (symbol.Slashes ∷ []) text_facets us refl s) i f) in
      (b, q, by_non_literal whole ts a.1 ∙ rw (a.0, maybe_notes_read v whole m k i o) is, after)

  -- what atoms begin with
  abbrev pub atoms : List Symbol
  atoms = symbol.OpenParenthesis ∷ symbol.Dot ∷ shapes_or_references ++ non_literals ++ literal_constraints

  pub atom_read : (whole : Bool) (e : ShapeExpr) (ts r : Ahead Spelled) → g.Atom bounded v n spelled whole e ts r → Ready whole r → Reads whole (atom bounded v n inside whole) e ts r
  unfolding literal_only shape_first constraint_behind parenthesised dot
  atom_read whole e ts r (inl (inl (m, h, i))) f = first_read whole e e ts m r r h i (fewer text_facets extending r refl (unextended whole r f)) (unnoted whole r f) (alone_read whole e r f)
  atom_read whole e ts r (inl (inr (a, b, is, (m, h, (k, i, j))))) f =
      let s = shape_or_reference_read bounded v n inside spelled complete whole b k r j (unnoted whole r f) in
      first_read whole a e ts m k r h i (never shapes_or_references text_facets k refl s.1) (λ w. never shapes_or_references noting k refl s.1) (false, r, joins whole a b k r j f ∙ rw is refl, refl)
  atom_read whole e ts r (inr (inl (m, h, i))) f =
      let a = literal_constraint_read bounded v e ts m h (before_notes v whole all_facets m r (λ us s. never (symbol.Slashes ∷ []) all_facets us refl s) i (fewer all_facets extending r refl (unextended whole r f))) in
      (false, r, by_literal whole ts a.1 ∙ rw (a.0, maybe_notes_read v whole m r i (unnoted whole r f)) refl, refl)
  atom_read whole e ts r (inr (inr (inl (inl h)))) f =
      let a = shape_or_reference_read bounded v n inside spelled complete whole e ts r h (unnoted whole r f) in
      (false, r, by_shape whole ts a.1 ∙ rw (a.0, fewer non_literals extending r refl (unextended whole r f)) refl, refl)
  atom_read whole e ts r (inr (inr (inl (inr (a, b, is, (m, h, (k, i, j))))))) f =
      let c = non_literal_read bounded v b m k i (before_notes v whole text_facets k r (λ us s. never (symbol.Slashes ∷ []) text_facets us refl s) j (fewer text_facets extending r refl (unextended whole r f))) in
      let s = shape_or_reference_read bounded v n inside spelled complete whole a ts m h (λ w. never non_literals noting m refl c.1) in
      (false, r, by_shape whole ts s.1 ∙ rw (s.0, c.1, c.0, maybe_notes_read v whole k r j (unnoted whole r f), is) refl, refl)
  atom_read whole e ts r (inr (inr (inr (inl (m, (o, (w, c)), (k, h, (u, d))))))) f = (
    false,
    r,
    by_parenthesis whole ts (first symbol.OpenParenthesis w ts m c)
        ∙ rw (opens_read symbol.OpenParenthesis n ts m o (w, c), complete.expr e m k h (first symbol.CloseParenthesis u k r d), took symbol.CloseParenthesis u k r d) refl,
    refl,
  )
  atom_read whole e ts r (inr (inr (inr (inr (is, (w, c)))))) f = (false, r, by_dot whole ts (first symbol.Dot w ts r c) ∙ rw (took symbol.Dot w ts r c, is) refl, refl)
