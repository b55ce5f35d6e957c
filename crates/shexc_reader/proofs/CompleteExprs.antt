-- What is spelled is read: negations, conjunctions and whole expressions.
use Rattle.std.proofs.Common.{None, ◌≡◌, Bool, true, false, ℕ, List, [], ◌∷◌, Ok, refl, sym, ap, subst, inl, inr, ◌∙◌, true≢false}
use Rattle.rdf_cursor.specs.Ahead.{Ahead, next_is}
use Rattle.rdf_cursor.specs.Phrases.{Phrase, Many, none, more, ◌⨾◌}
use Rattle.rdf_cursor.specs.Properties.{Consumes}
use Rattle.rdf_cursor.specs.Readers.{Answer, loop}
use Rattle.rdf_cursor.specs.Symbols.{is_symbol}
use Rattle.shexc_constraints.specs.Symbols.{text_facets, number_facets, node_kinds, non_literals, literal_constraints, references, iris, Mark}
use Rattle.shexc_reader.specs.Symbols.{shapes_or_references}
use Rattle.term_tokens.specs.Scopes.{Scope}
use Rattle.shexc_constraints.specs.Stops.{R}
use Rattle.shexc_reader.specs.Reading.{Inside, negated, and_behind, conjunction_from, conjunction, or_behind, disjunction_from, expression}
use Rattle.shexc_reader.proofs.Places.{AreLocal, consumes_and_behind, consumes_or_behind}
use Rattle.term_tokens.proofs.Nexts.{Next, nexts, no_symbol, first_of, outside}
use Rattle.shexc_constraints.proofs.Nexts.{never, begins, first, took}
use Rattle.shexc_constraints.proofs.Complete.{iri_begins, word_begins, text_facet_read, number_facet_read, reference_read}
use Rattle.shexc_reader.proofs.CompleteShapes.{AreComplete, shapes, qualified_begins}
use Rattle.shexc_reader.proofs.CompleteAtoms.{Ready, After, Reads, atoms, extending, extending_whole, atom_read}
use Rattle.rdf_cursor.proofs.Loops.{loop_more, loop_stop}
use Rattle.rdf_lex.specs.Tokens.{Spelled}
use Rattle.schema_documents.specs.Tree.{ShapeExpr}
use Rattle.rdf_cursor.specs.declared.symbols.Symbol.{Symbol}
use Rattle.rdf_cursor.specs.declared.symbols.Symbol.TheVariants as symbol
use Rattle.shexc_constraints.specs.declared.faults.Fault.{Fault}
use Rattle.shexc_reader.specs.Grammar as g
use Rattle.shexc_constraints.specs.Grammar as low

module _ (bounded : Bool) (v : Scope) where
  non_literal_begins : (e : ShapeExpr) (ts r : Ahead Spelled) → low.NonLiteral bounded v e ts r → Next non_literals ts
  non_literal_begins e ts r (inl (s, fs, k, (m, c, h))) = nexts node_kinds non_literals ts refl (word_begins node_kinds s ts m c)
  non_literal_begins e ts r (inr (fs, gs, k, (m, h, i))) = nexts text_facets non_literals ts refl (text_facet_read bounded None [] fs ts m h).1

  literal_constraint_begins : (e : ShapeExpr) (ts r : Ahead Spelled) → low.LiteralConstraint bounded v e ts r → Next literal_constraints ts
  literal_constraint_begins e ts r (inl (fs, k, (m, (w, c), h))) = nexts (symbol.Literal ∷ []) literal_constraints ts refl (first symbol.Literal w ts m c)
  literal_constraint_begins e ts r (inr (inl (i, fs, k, (m, c, h)))) = nexts iris literal_constraints ts refl (iri_begins v i ts m c)
  literal_constraint_begins e ts r (inr (inr (inl (xs, fs, k, (m, (l, (w, c), i), h))))) = nexts (symbol.OpenBracket ∷ []) literal_constraints ts refl (first symbol.OpenBracket w ts l c)
  literal_constraint_begins e ts r (inr (inr (inr (fs, gs, k, (m, h, i))))) = nexts number_facets literal_constraints ts refl (number_facet_read bounded None [] fs ts m h).1

-- an answer whose brace is not taken
plain : {A : Type 0} (x : Answer Spelled Fault (A × Bool)) (z : A) (b : Bool) (m q : Ahead Spelled) → x ≡ Ok ((z, b), q) → b ≡ false → m ≡ q → x ≡ Ok ((z, false), m)
plain {A = A} x z b m q e p same = e ∙ ap (λ (c : Bool). Ok ((z, c), q)) p ∙ ap (λ (w : Ahead Spelled). Ok ((z, false), w)) (sym same)

module _ (bounded : Bool) (v : Scope) (n : ℕ) (inside : Inside) (spelled : g.Inside) (complete : AreComplete inside spelled) where
  shape_begins : (whole : Bool) (e : ShapeExpr) (ts r : Ahead Spelled) → g.ShapeOrReference bounded v n spelled whole e ts r → Next shapes_or_references ts
  shape_begins whole e ts r (inl (q, t, is, (m, h, (l, (k, (o, (w, c)), b), i)))) = nexts shapes shapes_or_references ts refl (qualified_begins v (false, []) q ts m h (first symbol.OpenBrace w m k c))
  shape_begins whole e ts r (inr h) = nexts references shapes_or_references ts refl (reference_read v e ts r h).1

  pub atom_begins : (whole : Bool) (e : ShapeExpr) (ts r : Ahead Spelled) → g.Atom bounded v n spelled whole e ts r → Next (atoms bounded v n inside spelled complete) ts
  atom_begins whole e ts r (inl (inl (m, h, i))) = nexts non_literals (atoms bounded v n inside spelled complete) ts refl (non_literal_begins bounded v e ts m h)
  atom_begins whole e ts r (inl (inr (a, b, is, (m, h, i)))) = nexts non_literals (atoms bounded v n inside spelled complete) ts refl (non_literal_begins bounded v a ts m h)
  atom_begins whole e ts r (inr (inl (m, h, i))) = nexts literal_constraints (atoms bounded v n inside spelled complete) ts refl (literal_constraint_begins bounded v e ts m h)
  atom_begins whole e ts r (inr (inr (inl (inl h)))) = nexts shapes_or_references (atoms bounded v n inside spelled complete) ts refl (shape_begins whole e ts r h)
  atom_begins whole e ts r (inr (inr (inl (inr (a, b, is, (m, h, i)))))) = nexts shapes_or_references (atoms bounded v n inside spelled complete) ts refl (shape_begins whole a ts m h)
  atom_begins whole e ts r (inr (inr (inr (inl (m, (o, (w, c)), h))))) = nexts (symbol.OpenParenthesis ∷ []) (atoms bounded v n inside spelled complete) ts refl (first symbol.OpenParenthesis w ts m c)
  atom_begins whole e ts r (inr (inr (inr (inr (is, (w, c)))))) = nexts (symbol.Dot ∷ []) (atoms bounded v n inside spelled complete) ts refl (first symbol.Dot w ts r c)

  pub negated_read : (whole : Bool) (e : ShapeExpr) (ts r : Ahead Spelled) → g.Negated bounded v n spelled whole e ts r →
      Ready bounded v n inside spelled complete whole r → Reads bounded v n inside spelled complete whole (negated bounded v n inside whole) e ts r
  unfolding negated
  negated_read whole e ts r (inl h) f =
      let (b, q, is, after) = atom_read bounded v n inside spelled complete whole e ts r h f in
      (b, q, rw (no_symbol (atoms bounded v n inside spelled complete) symbol.Not ts refl (atom_begins whole e ts r h), is) refl, after)
  negated_read whole e ts r (inr (a, same, (m, (w, c), h))) f =
      let (b, q, is, after) = atom_read bounded v n inside spelled complete whole a m r h f in
      (b, q, rw (begins symbol.Not w ts m c, took symbol.Not w ts m c, is, same) refl, after)

  -- members with a mark between them
  module _ (whole : Bool) (a : Symbol) (no_brace : outside (a ∷ []) (symbol.OpenBrace ∷ []) ≡ true) (no_number : outside (symbol.Integer ∷ []) (a ∷ []) ≡ true) (Member : ShapeExpr → Phrase Spelled)
      (step : List ShapeExpr × Bool → R (List ShapeExpr × Bool)) (consumes : (s : List ShapeExpr × Bool) → Consumes (step s)) (Follow : Ahead Spelled → Type 0)
      (goes : (ts : Ahead Spelled) → next_is (is_symbol a) ts ≡ true → Follow ts) where
    abbrev One : List ShapeExpr → List ShapeExpr → Phrase Spelled
    One xs ys = Mark a ⨾ low.Adds Member xs ys

    abbrev Gives : List ShapeExpr × Bool → Ahead Spelled → List ShapeExpr → Ahead Spelled → Type 0
    Gives s ts ys r = (b : Bool) × (q : Ahead Spelled) × (loop (is_symbol a) step s ts ≡ Ok ((ys, b), q)) × After bounded v n inside spelled complete whole b r q

    starts : (xs ys : List ShapeExpr) (ts r : Ahead Spelled) → One xs ys ts r → next_is (is_symbol a) ts ≡ true
    starts xs ys ts r (m, (w, c), h) = begins a w ts m c

    -- before the mark no brace is taken, and behind a brace that was taken the mark is not next
    untaken : (w b : Bool) (m q : Ahead Spelled) → After bounded v n inside spelled complete w b m q → next_is (is_symbol a) m ≡ true → (b ≡ false) × (m ≡ q)
    untaken w false m q h e = (refl, h)
    untaken true true m q h e = absurd h
    untaken false true m q ((o, (u, c)), i) e = absurd (true≢false (sym (begins symbol.OpenBrace u m q c) ∙ no_symbol (a ∷ []) symbol.OpenBrace m no_brace (first_of a m e)))

    ended : (w b : Bool) (r q : Ahead Spelled) → After bounded v n inside spelled complete w b r q → next_is (is_symbol a) r ≡ false → next_is (is_symbol a) q ≡ false
    ended w false r q h e = subst (λ (z : Ahead Spelled). next_is (is_symbol a) z ≡ false) h e
    ended true true r q h e = absurd h
    ended false true r q (o, i) e = no_symbol (symbol.Integer ∷ []) a q no_number (first_of symbol.Integer q i)

    module _ (each : (xs zs : List ShapeExpr) (ts r : Ahead Spelled) → One xs zs ts r → Follow r → (b : Bool) × (q : Ahead Spelled) ×
        (step (xs, false) ts ≡ Ok ((zs, b), q)) × After bounded v n inside spelled complete whole b r q) where
      all_read : (xs ys : List ShapeExpr) (ts r : Ahead Spelled) → Many One xs ys ts r → Follow r → next_is (is_symbol a) r ≡ false → Gives (xs, false) ts ys r
      all_read xs ys ts r none f e = (false, r, loop_stop (is_symbol a) step consumes (xs, false) ts e, refl)
      all_read xs ys ts r (more o none) f e =
          let (b, q, is, after) = each xs ys ts r o f in
          (b, q, loop_more (is_symbol a) step consumes (xs, false) ts (starts xs ys ts r o) ∙ rw is (loop_stop (is_symbol a) step consumes (ys, b) q (ended whole b r q after e)), after)
      all_read xs ys ts r (more {x = zs} {mid = m} o (more {x = us} {mid = l} p rest)) f e =
          let next = starts zs us m l p in
          let (b, q, is, after) = each xs zs ts m o (goes m next) in
          let (not_taken, same) = untaken whole b m q after next in
          let (d, k, all, last) = all_read zs ys m r (more p rest) f e in
          (d, k, loop_more (is_symbol a) step consumes (xs, false) ts (starts xs zs ts m o) ∙ rw (plain (step (xs, false) ts) zs b m q is not_taken same) all, last)

      -- the first member, and the others behind it
      pub separated_read : (p : R (ShapeExpr × Bool)) (x : ShapeExpr) (ys : List ShapeExpr) (ts m r : Ahead Spelled) →
          (Follow m → Reads bounded v n inside spelled complete whole p x ts m) → Many One (x ∷ []) ys m r → Follow r
          → next_is (is_symbol a) r ≡ false → (b : Bool) × (q : Ahead Spelled) × (p ts ≡ Ok ((x, b), q)) × Gives (x ∷ [], b) q ys r
      separated_read p x ys ts m r h none f e = let (b, q, is, after) = h f in (b, q, is, (b, q, loop_stop (is_symbol a) step consumes (x ∷ [], b) q (ended whole b r q after e), after))
      separated_read p x ys ts m r h (more {x = zs} {mid = l} o rest) f e =
          let next = starts (x ∷ []) zs m l o in
          let (b, q, is, after) = h (goes m next) in
          let (not_taken, same) = untaken whole b m q after next in
          (false, m, plain (p ts) x b m q is not_taken same, all_read (x ∷ []) ys m r (more o rest) f e)

  -- a mark that joins is no brace and goes on with no atom
  marked_ready : (whole : Bool) (a : Symbol) (ts : Ahead Spelled) → outside (a ∷ []) extending_whole ≡ true → outside (a ∷ []) extending ≡ true →
      outside (a ∷ []) (symbol.OpenBrace ∷ []) ≡ true → next_is (is_symbol a) ts ≡ true
      → Ready bounded v n inside spelled complete whole ts
  marked_ready true a ts h k i e = never (a ∷ []) extending_whole ts h (first_of a ts e)
  marked_ready false a ts h k i e =
      (never (a ∷ []) extending ts k (first_of a ts e), λ m (w, c). absurd (true≢false (sym (begins symbol.OpenBrace w ts m c) ∙ no_symbol (a ∷ []) symbol.OpenBrace ts i (first_of a ts e))))

  module _ (local : AreLocal inside) (whole : Bool) where
    and_read : (xs zs : List ShapeExpr) (ts r : Ahead Spelled) → (Mark symbol.And ⨾ low.Adds (g.Negated bounded v n spelled whole) xs zs) ts r → Ready bounded v n inside spelled complete whole r
        → (b : Bool) × (q : Ahead Spelled) × (and_behind bounded v n inside whole (xs, false) ts ≡ Ok ((zs, b), q)) × After bounded v n inside spelled complete whole b r q
    unfolding and_behind
    and_read xs zs ts r (m, (w, c), (x, e, h)) f = let (b, q, is, after) = negated_read whole x m r h f in (b, q, rw (took symbol.And w ts m c, is, e) refl, after)

    -- where a conjunction ends
    abbrev pub Joined : Ahead Spelled → Type 0
    Joined r = Ready bounded v n inside spelled complete whole r × (next_is (is_symbol symbol.And) r ≡ false)

    pub conjunction_read : (e : ShapeExpr) (ts r : Ahead Spelled) → g.Conjunction bounded v n spelled whole e ts r → Joined r →
        Reads bounded v n inside spelled complete whole (conjunction bounded v n inside whole) e ts r
    unfolding conjunction conjunction_from
    conjunction_read e ts r (es, same, (xs, (m, (x, one, h), i))) f =
        let (b, q, is, (d, k, all, after)) = separated_read whole symbol.And refl refl (g.Negated bounded v n spelled whole)
        (and_behind bounded v n inside whole) (consumes_and_behind bounded v n inside local whole) (Ready bounded v n inside spelled complete whole)
        (λ us next. marked_ready whole symbol.And us refl refl refl next) and_read (negated bounded v n inside whole) x es ts m r (λ ready. negated_read whole x ts m h ready)
        (subst (λ (z : List ShapeExpr). Many (λ xs ys. Mark symbol.And ⨾ low.Adds (g.Negated bounded v n spelled whole) xs ys) z es m r) (sym one) i) f.0 f.1 in
        (d, k, rw (is, all, same) refl, after)

    or_read : (xs zs : List ShapeExpr) (ts r : Ahead Spelled) → (Mark symbol.Or ⨾ low.Adds (g.Conjunction bounded v n spelled whole) xs zs) ts r → Joined r
        → (b : Bool) × (q : Ahead Spelled) × (or_behind bounded v n inside whole (xs, false) ts ≡ Ok ((zs, b), q)) × After bounded v n inside spelled complete whole b r q
    unfolding or_behind
    or_read xs zs ts r (m, (w, c), (x, e, h)) f = let (b, q, is, after) = conjunction_read x m r h f in (b, q, rw (took symbol.Or w ts m c, is, e) refl, after)

    pub expression_read : (e : ShapeExpr) (ts r : Ahead Spelled) → g.Expression bounded v n spelled whole e ts r → Joined r →
        next_is (is_symbol symbol.Or) r ≡ false → Reads bounded v n inside spelled complete whole (expression bounded v n inside whole) e ts r
    unfolding expression disjunction_from
    expression_read e ts r (es, same, (xs, (m, (x, one, h), i))) f alone =
        let (b, q, is, (d, k, all, after)) = separated_read whole symbol.Or refl refl (g.Conjunction bounded v n spelled whole)
        (or_behind bounded v n inside whole) (consumes_or_behind bounded v n inside local whole) Joined
        (λ us next. (marked_ready whole symbol.Or us refl refl refl next, no_symbol (symbol.Or ∷ []) symbol.And us refl (first_of symbol.Or us next))) or_read (conjunction bounded v n inside whole) x es ts m r (λ ready. conjunction_read x ts m h ready)
        (subst (λ (z : List ShapeExpr). Many (λ xs ys. Mark symbol.Or ⨾ low.Adds (g.Conjunction bounded v n spelled whole) xs ys) z es m r) (sym one) i) f alone in
        (d, k, rw (is, all, same) refl, after)
