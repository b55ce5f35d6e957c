-- What is read is spelled so: conjunctions and whole expressions.
use Rattle.std.proofs.Common.{◌≡◌, inl, inr, Bool, true, false, ℕ, List, [], ◌∷◌, Ok, refl, sym, subst, ◌∙◌, arith, nat_eq}
use Rattle.std.proofs.lemmas.Bool.{eqb-true}
use Rattle.rdf_cursor.specs.Ahead.{Ahead, finished, broken, token, next_is}
use Rattle.rdf_cursor.specs.Phrases.{Phrase, Many, none, more, ◌⨾◌}
use Rattle.rdf_cursor.specs.Properties.{Consumes}
use Rattle.rdf_cursor.specs.Readers.{loop}
use Rattle.rdf_cursor.specs.Symbols.{is_symbol, number, symbol_of}
use Rattle.term_tokens.specs.Scopes.{Scope}
use Rattle.shexc_reader.specs.Trees.{all_of, any_of}
use Rattle.shexc_constraints.specs.Stops.{R}
use Rattle.shexc_reader.specs.Reading.{Inside, negated, and_behind, conjunction_from, conjunction, or_behind, disjunction_from, expression}
use Rattle.shexc_reader.proofs.Places.{AreLocal, consumes_and_behind, consumes_or_behind}
use Rattle.shexc_reader.proofs.SoundShapes.{AreSound, Flagged, atom_meets}
use Rattle.rdf_cursor.proofs.Loops.{loop_rule}
use Rattle.rdf_cursor.proofs.Soundness.{Meets, meets_give, meets_one, meets_bind, meets_either, meets_rule}
use Rattle.rdf_lex.specs.Tokens.{Spelled}
use Rattle.schema_documents.specs.Tree.{ShapeExpr, neg}
use Rattle.rdf_cursor.specs.declared.symbols.Symbol.{Symbol}
use Rattle.rdf_cursor.specs.declared.symbols.Symbol.TheVariants as symbol
use Rattle.shexc_reader.specs.Grammar as g
use Rattle.shexc_constraints.specs.Grammar as low
use Rattle.shexc_constraints.specs.Symbols.{Mark}

-- two symbols are not both next
two_numbers : (k a b : ℕ) → nat_eq k a ≡ true → nat_eq k b ≡ true → a ≡ b
two_numbers k a b e f = sym (eqb-true k a e) ∙ eqb-true k b f

apart : (a b : Symbol) → (number a ≡ number b → ⊥) → (ts : Ahead Spelled) → next_is (is_symbol a) ts ≡ true → next_is (is_symbol b) ts ≡ true → ⊥
unfolding is_symbol
apart a b n (token t ts) e f = n (two_numbers (number (symbol_of t.kind t.text)) (number a) (number b) e f)
apart a b n finished e f = absurd cc
apart a b n broken e f = absurd cc

and_apart : (ts : Ahead Spelled) → next_is (is_symbol symbol.And) ts ≡ true → next_is (is_symbol symbol.Integer) ts ≡ true → ⊥
and_apart ts e f = apart symbol.And symbol.Integer (λ is. omega (arith, is)) ts e f

or_apart : (ts : Ahead Spelled) → next_is (is_symbol symbol.Or) ts ≡ true → next_is (is_symbol symbol.Integer) ts ≡ true → ⊥
or_apart ts e f = apart symbol.Or symbol.Integer (λ is. omega (arith, is)) ts e f

module _ (bounded : Bool) (v : Scope) (n : ℕ) (inside : Inside) (spelled : g.Inside) (sound : AreSound inside spelled) where
  -- what a flagged phrase gives, another gives that has all of it
  pub mapped : (whole b : Bool) (P Q : Phrase Spelled) (ts us r : Ahead Spelled) → ((m : Ahead Spelled) → P ts m → Q us m) →
      Flagged bounded v n inside spelled sound whole P b ts r → Flagged bounded v n inside spelled sound whole Q b us r
  mapped whole false P Q ts us r f h = f r h
  mapped true true P Q ts us r f h = absurd h
  mapped false true P Q ts us r f (m, h, o, e) = (m, f m h, o, e)

  module _ (whole : Bool) (a : Symbol) (alone : (ts : Ahead Spelled) → next_is (is_symbol a) ts ≡ true → next_is (is_symbol symbol.Integer) ts ≡ true → ⊥) (Member : ShapeExpr → Phrase Spelled)
      (step : List ShapeExpr × Bool → R (List ShapeExpr × Bool)) (consumes : (s : List ShapeExpr × Bool) → Consumes (step s)) where
    abbrev One : List ShapeExpr → List ShapeExpr → Phrase Spelled
    One xs ys = Mark a ⨾ low.Adds Member xs ys

    abbrev Comes : (List ShapeExpr × Bool) × Ahead Spelled → List ShapeExpr × Bool → Ahead Spelled → Type 0
    Comes y (xs, false) ts = Flagged bounded v n inside spelled sound whole (Many One xs y.0.0) y.0.1 ts y.1
    Comes y (xs, true) ts = next_is (is_symbol symbol.Integer) ts ≡ true → (xs ≡ y.0.0) × (y.0.1 ≡ true) × (ts ≡ y.1)

    stops : (y : (List ShapeExpr × Bool) × Ahead Spelled) (s : List ShapeExpr × Bool) (ts : Ahead Spelled) → (s, ts) ≡ y → Comes y s ts
    stops y (xs, false) ts e = subst (λ (z : (List ShapeExpr × Bool) × Ahead Spelled). Flagged bounded v n inside spelled sound whole (Many One xs z.0.0) z.0.1 ts z.1) e none
    stops y (xs, true) ts e = λ int. subst (λ (z : (List ShapeExpr × Bool) × Ahead Spelled). (xs ≡ z.0.0) × (z.0.1 ≡ true) × (ts ≡ z.1)) e (refl, refl, refl)

    onward : (w : Bool) (y : (List ShapeExpr × Bool) × Ahead Spelled) (xs : List ShapeExpr) (x : List ShapeExpr × Bool) (ts r : Ahead Spelled) → w ≡ whole →
        Flagged bounded v n inside spelled sound w (One xs x.0) x.1 ts r → Comes y x r → Comes y (xs, false) ts
    onward w y xs (zs, false) ts r same h p = mapped whole y.0.1 (Many One zs y.0.0) (Many One xs y.0.0) r ts y.1 (λ m k. more h k) p
    onward true y xs (zs, true) ts r same h p = absurd h
    onward false y xs (zs, true) ts r same (m, h, o, e) p =
        let (a, b, c) = p e in
        let k : Many One xs y.0.0 ts m = more h (subst (λ (z : List ShapeExpr). Many One zs z m m) a none) in
        subst (λ (f : Bool). Flagged bounded v n inside spelled sound whole (Many One xs y.0.0) f ts y.1) (sym b)
        (subst (λ (q : Bool). Flagged bounded v n inside spelled sound q (Many One xs y.0.0) true ts y.1) same
        (subst (λ (q : Ahead Spelled). Flagged bounded v n inside spelled sound false (Many One xs y.0.0) true ts q) c (m, k, o, e)))

    module _ (each : (s : List ShapeExpr × Bool) (ts : Ahead Spelled) → Meets (step s) (λ b r. Flagged bounded v n inside spelled sound whole (One s.0 b.0) b.1 ts r) ts) where
      goes : (y : (List ShapeExpr × Bool) × Ahead Spelled) (s : List ShapeExpr × Bool) (ts : Ahead Spelled) (x : List ShapeExpr × Bool) (r : Ahead Spelled) →
          next_is (is_symbol a) ts ≡ true → step s ts ≡ Ok (x, r) → Comes y x r → Comes y s ts
      goes y (xs, false) ts x r e is p = onward whole y xs x ts r refl ((each (xs, false) ts).holds (x, r) is) p
      goes y (xs, true) ts x r e is p = λ int. absurd (alone ts e int)

      all_come : (s : List ShapeExpr × Bool) (ts : Ahead Spelled) (y : (List ShapeExpr × Bool) × Ahead Spelled) → loop (is_symbol a) step s ts ≡ Ok y → Comes y s ts
      all_come s ts y is = loop_rule (is_symbol a) step consumes (Comes y) y s ts (λ s ts e k. stops y s ts k) (λ s ts x r e k p. goes y s ts x r e k p) is

      -- behind the first member
      first : (w : Bool) (x : ShapeExpr × Bool) (ts m : Ahead Spelled) (y : (List ShapeExpr × Bool) × Ahead Spelled) → w ≡ whole →
          Flagged bounded v n inside spelled sound w (Member x.0) x.1 ts m → Comes y (x.0 ∷ [], x.1) m
          → Flagged bounded v n inside spelled sound whole (g.Separated a Member y.0.0) y.0.1 ts y.1
      first w (x, false) ts m y same h p = mapped whole y.0.1 (Many One (x ∷ []) y.0.0) (g.Separated a Member y.0.0) m ts y.1 (λ r k. (x ∷ [], (m, (x, refl, h), k))) p
      first true (x, true) ts m y same h p = absurd h
      first false (x, true) ts m y same (k, h, o, e) p =
          let (a1, b, c) = p e in
          let all : g.Separated a Member y.0.0 ts k = (x ∷ [], (k, (x, refl, h), subst (λ (z : List ShapeExpr). Many One (x ∷ []) z k k) a1 none)) in
          subst (λ (f : Bool). Flagged bounded v n inside spelled sound whole (g.Separated a Member y.0.0) f ts y.1) (sym b)
          (subst (λ (q : Bool). Flagged bounded v n inside spelled sound q (g.Separated a Member y.0.0) true ts y.1) same
          (subst (λ (q : Ahead Spelled). Flagged bounded v n inside spelled sound false (g.Separated a Member y.0.0) true ts q) c (k, all, o, e)))

      pub separated_meets : (x : ShapeExpr × Bool) (ts m : Ahead Spelled) → Flagged bounded v n inside spelled sound whole (Member x.0) x.1 ts m
          → Meets (loop (is_symbol a) step (x.0 ∷ [], x.1)) (λ b r. Flagged bounded v n inside spelled sound whole (g.Separated a Member b.0) b.1 ts r) m
      separated_meets x ts m h = record { holds = λ y is. first whole x ts m y refl h (all_come (x.0 ∷ [], x.1) m y is) }

  module _ (local : AreLocal inside) where
    negated_meets : (whole : Bool) (ts : Ahead Spelled) →
        Meets (negated bounded v n inside whole) (λ x r. Flagged bounded v n inside spelled sound whole (g.Negated bounded v n spelled whole x.0) x.1 ts r) ts
    unfolding negated
    negated_meets whole ts = meets_either
        (meets_bind (meets_one (λ t m c. meets_bind (meets_rule (atom_meets bounded v n inside spelled sound whole m) (λ x r h.
        meets_give (mapped whole x.1 (g.Atom bounded v n spelled whole x.0) (g.Negated bounded v n spelled whole (neg x.0)) m ts r (λ q k. inr (x.0, refl, (m, (t, c), k))) h))))))
        (meets_rule (atom_meets bounded v n inside spelled sound whole ts) (λ x r h. mapped whole x.1 (g.Atom bounded v n spelled whole x.0) (g.Negated bounded v n spelled whole x.0) ts ts r (λ q k. inl k) h))

    and_meets : (whole : Bool) (s : List ShapeExpr × Bool) (ts : Ahead Spelled)
        → Meets (and_behind bounded v n inside whole s) (λ b r. Flagged bounded v n inside spelled sound whole (Mark symbol.And ⨾ low.Adds (g.Negated bounded v n spelled whole) s.0 b.0) b.1 ts r) ts
    unfolding and_behind
    and_meets whole s ts = meets_bind (meets_one (λ t m c. meets_bind (meets_rule (negated_meets whole m) (λ x r h.
        meets_give (mapped whole x.1 (g.Negated bounded v n spelled whole x.0) _ m ts r (λ q k. (m, (t, c), (x.0, refl, k))) h)))))

    pub conjunction_from_meets : (whole : Bool) (x : ShapeExpr × Bool) (ts m : Ahead Spelled) → Flagged bounded v n inside spelled sound whole (g.Negated bounded v n spelled whole x.0) x.1 ts m
        → Meets (conjunction_from bounded v n inside whole x) (λ y r. Flagged bounded v n inside spelled sound whole (g.Conjunction bounded v n spelled whole y.0) y.1 ts r) m
    unfolding conjunction_from
    conjunction_from_meets whole x ts m h =
        meets_bind (meets_rule (separated_meets whole symbol.And and_apart (g.Negated bounded v n spelled whole) (and_behind bounded v n inside whole) (consumes_and_behind bounded v n inside local whole) (and_meets whole) x ts m h)
        (λ b r k. meets_give (mapped whole b.1 (g.Separated symbol.And (g.Negated bounded v n spelled whole) b.0) (g.Conjunction bounded v n spelled whole (all_of b.0)) ts ts r (λ q j. (b.0, refl, j)) k)))

    pub conjunction_meets : (whole : Bool) (ts : Ahead Spelled) →
        Meets (conjunction bounded v n inside whole) (λ x r. Flagged bounded v n inside spelled sound whole (g.Conjunction bounded v n spelled whole x.0) x.1 ts r) ts
    unfolding conjunction
    conjunction_meets whole ts = meets_bind (meets_rule (negated_meets whole ts) (λ x m h. conjunction_from_meets whole x ts m h))

    or_meets : (whole : Bool) (s : List ShapeExpr × Bool) (ts : Ahead Spelled)
        → Meets (or_behind bounded v n inside whole s) (λ b r. Flagged bounded v n inside spelled sound whole (Mark symbol.Or ⨾ low.Adds (g.Conjunction bounded v n spelled whole) s.0 b.0) b.1 ts r) ts
    unfolding or_behind
    or_meets whole s ts = meets_bind (meets_one (λ t m c. meets_bind (meets_rule (conjunction_meets whole m) (λ x r h.
        meets_give (mapped whole x.1 (g.Conjunction bounded v n spelled whole x.0) _ m ts r (λ q k. (m, (t, c), (x.0, refl, k))) h)))))

    pub disjunction_from_meets : (whole : Bool) (x : ShapeExpr × Bool) (ts m : Ahead Spelled) → Flagged bounded v n inside spelled sound whole (g.Conjunction bounded v n spelled whole x.0) x.1 ts m
        → Meets (disjunction_from bounded v n inside whole x) (λ y r. Flagged bounded v n inside spelled sound whole (g.Expression bounded v n spelled whole y.0) y.1 ts r) m
    unfolding disjunction_from
    disjunction_from_meets whole x ts m h =
        meets_bind (meets_rule (separated_meets whole symbol.Or or_apart (g.Conjunction bounded v n spelled whole) (or_behind bounded v n inside whole) (consumes_or_behind bounded v n inside local whole) (or_meets whole) x ts m h)
        (λ b r k. meets_give (mapped whole b.1 (g.Separated symbol.Or (g.Conjunction bounded v n spelled whole) b.0) (g.Expression bounded v n spelled whole (any_of b.0)) ts ts r (λ q j. (b.0, refl, j)) k)))

    pub expression_meets : (whole : Bool) (ts : Ahead Spelled) →
        Meets (expression bounded v n inside whole) (λ x r. Flagged bounded v n inside spelled sound whole (g.Expression bounded v n spelled whole x.0) x.1 ts r) ts
    unfolding expression
    expression_meets whole ts = meets_bind (meets_rule (conjunction_meets whole ts) (λ x m h. disjunction_from_meets whole x ts m h))
