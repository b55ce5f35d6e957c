-- What is read is spelled so: values of arcs, arcs, and triple expressions.
use Rattle.std.proofs.Common.{◌≡◌, ◌⊎◌, inl, inr, Bool, true, false, ℕ, List, [], ◌∷◌, Option, Some, None, Ok, Err, refl, subst, cond, ◌∙◌}
use Rattle.rdf_cursor.specs.Ahead.{Ahead, token, next_is}
use Rattle.rdf_cursor.specs.Phrases.{Phrase, Many, none, more, ◌⨾◌}
use Rattle.rdf_cursor.specs.Readers.{Reader, either, loop}
use Rattle.rdf_cursor.specs.Symbols.{is_symbol, is_among}
use Rattle.shexc_reader.specs.Symbols.{connectives}
use Rattle.term_tokens.specs.Scopes.{Scope}
use Rattle.shexc_reader.specs.Trees.{empty_shape}
use Rattle.shexc_reader.specs.Reading.{Inside, further_from, further, dot_value, arc_value, an_arc, grouped, expression, unlabelled, inclusion, unary, semicolon, group, bar, alternatives}
use Rattle.shexc_reader.proofs.Places.{AreLocal, consumes_semicolon, consumes_bar}
use Rattle.shexc_constraints.proofs.Sound.{predicate_meets, label_meets, annotations_meet}
use Rattle.shexc_reader.proofs.SoundShapes.{AreSound, Flagged, opens_meets}
use Rattle.shexc_reader.proofs.SoundExprs.{mapped, conjunction_from_meets, disjunction_from_meets, expression_meets}
use Rattle.shexc_reader.proofs.SoundArcs.{cardinality_meets, cardinality_behind_meets, direction_meets}
use Rattle.rdf_cursor.proofs.Loops.{loop_rule}
use Rattle.rdf_cursor.proofs.Soundness.{Meets, meets_give, meets_one, meets_bind, meets_either, meets_rule, meets_refuse, meets_loop}
use Rattle.rdf_lex.specs.Tokens.{Spelled}
use Rattle.schema_documents.specs.declared.label.Label.{Label}
use Rattle.schema_documents.specs.Tree.{ShapeExpr, TripleExpr, one_expr}
use Rattle.rdf_cursor.specs.declared.symbols.Symbol.{Symbol}
use Rattle.rdf_cursor.specs.declared.symbols.Symbol.TheVariants as symbol
use Rattle.shexc_constraints.specs.declared.faults.Fault.{Fault}
use Rattle.shexc_constraints.specs.declared.faults.Fault.TheVariants.{Syntax}
use Rattle.shexc_reader.specs.Grammar as g
use Rattle.shexc_constraints.specs.Grammar as low
use Rattle.shexc_constraints.specs.Symbols.{Mark}

-- either reader, with what is known of the next token
by_class : {T F A : Type 0} (class : T → Bool) (p q : Reader T F A) (P : A → Ahead T → Type 0) (ts : Ahead T) (b : Bool) → next_is class ts ≡ b → (next_is class ts ≡ true → Meets p P ts)
    → (next_is class ts ≡ false → Meets q P ts) → (y : A × Ahead T) → cond b (p ts) (q ts) ≡ Ok y → P y.0 y.1
by_class class p q P ts true e h k y is = (h e).holds y is
by_class class p q P ts false e h k y is = (k e).holds y is

meets_cases : {T F A : Type 0} (class : T → Bool) (p q : Reader T F A) (P : A → Ahead T → Type 0) (ts : Ahead T) → (next_is class ts ≡ true → Meets p P ts) → (next_is class ts ≡ false → Meets q P ts)
    → Meets (either class p q) P ts
meets_cases class p q P ts h k = record { holds = λ y is. by_class class p q P ts (next_is class ts) refl h k y is }

-- behind a mark stands one list of tokens
same_behind : (t u : Spelled) (ts m k : Ahead Spelled) → ts ≡ token t m → ts ≡ token u k → m ≡ k
same_behind t u ts m k e f = cc

not_this : (b : Bool) (t u : Spelled) (f : Fault) → b ≡ false → cond b (Ok t) (Err f) ≡ Ok u → ⊥
not_this true t u f e c = absurd cc
not_this false t u f e c = absurd cc

mark_next : (a : Symbol) (ts m : Ahead Spelled) → next_is (is_symbol a) ts ≡ false → Mark a ts m → ⊥
mark_next a ts m e (u, (t, is, c)) = not_this (is_symbol a t) t u Syntax (subst (λ (q : Ahead Spelled). next_is (is_symbol a) q ≡ false) is e) c

module _ (bounded : Bool) (v : Scope) (n : ℕ) (inside : Inside) (spelled : g.Inside) (sound : AreSound inside spelled) (local : AreLocal inside) where
  further_meets : (x : ShapeExpr × Bool) (ts m : Ahead Spelled) → Flagged bounded v n inside spelled sound false (g.Negated bounded v n spelled false x.0) x.1 ts m
      → Meets (further_from bounded v n inside x) (λ y r. Flagged bounded v n inside spelled sound false (g.Expression bounded v n spelled false y.0) y.1 ts r) m
  unfolding further_from
  further_meets x ts m h =
      meets_bind (meets_rule (conjunction_from_meets bounded v n inside spelled sound local false x ts m h) (λ y r k. disjunction_from_meets bounded v n inside spelled sound local false y ts r k))

  -- the value of an arc
  dot_value_meets : (ts : Ahead Spelled) → Meets (dot_value bounded v n inside) (λ x r. Flagged bounded v n inside spelled sound false (g.ArcValue bounded v n spelled x.0) x.1 ts r) ts
  unfolding dot_value further
  dot_value_meets ts = meets_bind (meets_one (λ t m c. meets_cases _ _ _ _ m
      (λ joined. meets_bind (meets_rule (further_meets (empty_shape, false) ts m (inl (inr (inr (inr (inr (refl, (t, c))))))))
      (λ y r h. meets_give (mapped bounded v n inside spelled sound false y.1 (g.Expression bounded v n spelled false y.0) (g.ArcValue bounded v n spelled (one_expr y.0)) ts ts r
      (λ q k. inr (y.0, refl, (λ o d. subst (λ (w : Ahead Spelled). next_is (is_among connectives) w ≡ true) (same_behind c.0 d.1.0 ts m o c.1 d.1.1) joined), k)) h))))
      (λ alone. meets_give (inl (refl, (t, c))))))

  pub arc_value_meets : (ts : Ahead Spelled) → Meets (arc_value bounded v n inside) (λ x r. Flagged bounded v n inside spelled sound false (g.ArcValue bounded v n spelled x.0) x.1 ts r) ts
  unfolding arc_value
  arc_value_meets ts = meets_cases _ _ _ _ ts (λ dotted. dot_value_meets ts) (λ other. meets_bind (meets_rule (expression_meets bounded v n inside spelled sound local false ts)
      (λ y r h. meets_give (mapped bounded v n inside spelled sound false y.1 (g.Expression bounded v n spelled false y.0) (g.ArcValue bounded v n spelled (one_expr y.0)) ts ts r
      (λ q k. inr (y.0, refl, (λ o d. absurd (mark_next symbol.Dot ts o other d)), k)) h))))

  -- an arc, and a triple expression in round brackets
  an_arc_meets : (l : Option Label) (ts : Ahead Spelled) → Meets (an_arc bounded v n inside l) (λ t r. g.Arc bounded v n spelled l t ts r) ts
  unfolding an_arc
  an_arc_meets l ts = meets_bind (meets_rule (direction_meets bounded v n inside spelled sound ts) (λ inverse a d. meets_bind (meets_rule (predicate_meets v a) (λ p b e.
      meets_bind (meets_rule (arc_value_meets b) (λ x c h.
      meets_bind (meets_rule (cardinality_behind_meets bounded v n inside spelled sound x.1 (g.ArcValue bounded v n spelled x.0) b c h) (λ o k i.
      meets_bind (meets_rule (annotations_meet v k) (λ u r j. meets_give (inverse, p, x.0, o, refl, (a, d, (b, e, (i.0, i.1, (k, i.2, j)))))))))))))))

  grouped_meets : (l : Option Label) (ts : Ahead Spelled) → Meets (grouped bounded v n inside l) (λ t r. g.Bracketed bounded v n spelled l t ts r) ts
  unfolding grouped
  grouped_meets l ts = meets_bind (meets_rule (opens_meets symbol.OpenParenthesis n ts) (λ u a o. meets_bind (meets_rule (sound.triple_expr a) (λ t b h. meets_bind (meets_one (λ w c d.
      meets_bind (meets_rule (cardinality_meets bounded v n inside spelled sound c) (λ q k i. meets_bind (meets_rule (annotations_meet v k) (λ z r j. meets_give (t, q, refl, (a, o, (b, h, (c, (w, d), (k, i, j)))))))))))))))

  unlabelled_meets : (l : Option Label) (ts : Ahead Spelled) → Meets (unlabelled bounded v n inside l) (λ t r. g.Arc bounded v n spelled l t ts r ⊎ g.Bracketed bounded v n spelled l t ts r) ts
  unfolding unlabelled
  unlabelled_meets l ts = meets_either (meets_rule (grouped_meets l ts) (λ t r h. inr h)) (meets_rule (an_arc_meets l ts) (λ t r h. inl h))

  unary_meets : (ts : Ahead Spelled) → Meets (unary bounded v n inside) (λ t r. g.Unary bounded v n spelled t ts r) ts
  unfolding unary inclusion
  unary_meets ts = meets_either (meets_bind (meets_one (λ t m c. meets_bind (meets_rule (label_meets v m) (λ l r h. meets_give (inr (l, refl, (m, (t, c), h))))))))
      (meets_either (meets_bind (meets_one (λ t m c. meets_bind (meets_rule (label_meets v m) (λ l k h. meets_rule (unlabelled_meets (Some l) k) (λ u r i. inl (Some l, (k, inr (l, refl, (m, (t, c), h)), i))))))))
      (meets_rule (unlabelled_meets None ts) (λ u r i. inl (None, (ts, inl (refl, refl), i)))))

  -- a group: members, and perhaps a last `;`
  abbrev Next : List TripleExpr → List TripleExpr → Phrase Spelled
  Next us vs = Mark symbol.Semicolon ⨾ low.Adds (g.Unary bounded v n spelled) us vs

  abbrev Steps : List TripleExpr → List TripleExpr × Bool → Phrase Spelled
  Steps us (vs, false) ts r = Next us vs ts r
  Steps us (vs, true) ts r = (us ≡ vs) × Mark symbol.Semicolon ts r

  semicolon_meets : (us : List TripleExpr) (ts : Ahead Spelled) → Meets (semicolon bounded v n inside (us, false)) (λ a r. Steps us a ts r) ts
  unfolding semicolon
  semicolon_meets us ts = meets_bind (meets_one (λ t m c. meets_either (meets_bind (meets_rule (unary_meets m) (λ u r h. meets_give (m, (t, c), (u, refl, h))))) (meets_give (refl, (t, c)))))

  refused : (us : List TripleExpr) (ts : Ahead Spelled) → Meets (semicolon bounded v n inside (us, true)) (λ a r. ⊥) ts
  unfolding semicolon
  refused us ts = meets_refuse

  abbrev Comes : (List TripleExpr × Bool) × Ahead Spelled → List TripleExpr × Bool → Ahead Spelled → Type 0
  Comes y (us, false) ts = (Many Next us y.0.0 ⨾ g.Maybe (Mark symbol.Semicolon)) ts y.1
  Comes y (us, true) ts = (us ≡ y.0.0) × (ts ≡ y.1)

  stops : (y : (List TripleExpr × Bool) × Ahead Spelled) (s : List TripleExpr × Bool) (ts : Ahead Spelled) → (s, ts) ≡ y → Comes y s ts
  stops y (us, false) ts e = subst (λ (z : (List TripleExpr × Bool) × Ahead Spelled). (Many Next us z.0.0 ⨾ g.Maybe (Mark symbol.Semicolon)) ts z.1) e (ts, none, inr refl)
  stops y (us, true) ts e = subst (λ (z : (List TripleExpr × Bool) × Ahead Spelled). (us ≡ z.0.0) × (ts ≡ z.1)) e (refl, refl)

  onward : (y : (List TripleExpr × Bool) × Ahead Spelled) (us : List TripleExpr) (a : List TripleExpr × Bool) (ts r : Ahead Spelled) → Steps us a ts r → Comes y a r → Comes y (us, false) ts
  onward y us (vs, false) ts r h (m, k, last) = (m, more h k, last)
  onward y us (vs, true) ts r (same, last) (a, b) =
      (ts, subst (λ (z : List TripleExpr). Many Next us z ts ts) (same ∙ a) none, inl (subst (λ (q : Ahead Spelled). Mark symbol.Semicolon ts q) b last))

  goes : (y : (List TripleExpr × Bool) × Ahead Spelled) (s : List TripleExpr × Bool) (ts : Ahead Spelled) (a : List TripleExpr × Bool) (r : Ahead Spelled) →
      semicolon bounded v n inside s ts ≡ Ok (a, r) → Comes y a r → Comes y s ts
  goes y (us, false) ts a r is p = onward y us a ts r ((semicolon_meets us ts).holds (a, r) is) p
  goes y (us, true) ts a r is p = absurd ((refused us ts).holds (a, r) is)

  semicolons_meet : (t : TripleExpr) (m : Ahead Spelled) →
      Meets (loop (is_symbol symbol.Semicolon) (semicolon bounded v n inside) (t ∷ [], false)) (λ a r. (Many Next (t ∷ []) a.0 ⨾ g.Maybe (Mark symbol.Semicolon)) m r) m
  semicolons_meet t m = record {
    holds = λ y is. loop_rule (is_symbol symbol.Semicolon) (semicolon bounded v n inside) (consumes_semicolon bounded v n inside local) (Comes y) y (t ∷ [], false) m
        (λ s ts e k. stops y s ts k) (λ s ts x r e k p. goes y s ts x r k p) is;
  }

  group_meets : (ts : Ahead Spelled) → Meets (group bounded v n inside) (λ t r. g.Group bounded v n spelled t ts r) ts
  unfolding group
  group_meets ts = meets_bind (meets_rule (unary_meets ts) (λ t m h. meets_bind (meets_rule (semicolons_meet t m) (λ a r k. meets_give (a.0, refl, (k.0, (t ∷ [], (m, (t, refl, h), k.1)), k.2))))))

  bar_meets : (us : List TripleExpr) (ts : Ahead Spelled) → Meets (bar bounded v n inside us) (λ vs r. (Mark symbol.Bar ⨾ low.Adds (g.Group bounded v n spelled) us vs) ts r) ts
  unfolding bar
  bar_meets us ts = meets_bind (meets_one (λ t m c. meets_bind (meets_rule (group_meets m) (λ u r h. meets_give (m, (t, c), (u, refl, h))))))

  pub alternatives_meet : (ts : Ahead Spelled) → Meets (alternatives bounded v n inside) (λ t r. g.Alternatives bounded v n spelled t ts r) ts
  unfolding alternatives
  alternatives_meet ts = meets_bind (meets_rule (group_meets ts) (λ t m h.
      meets_bind (meets_rule (meets_loop _ _ (λ us vs. Mark symbol.Bar ⨾ low.Adds (g.Group bounded v n spelled) us vs) (consumes_bar bounded v n inside local) bar_meets (t ∷ []) m)
      (λ us r k. meets_give (us, refl, (t ∷ [], (m, (t, refl, h), k)))))))

  -- what a whole expression has
  plain : (P : Phrase Spelled) (b : Bool) (ts r : Ahead Spelled) → Flagged bounded v n inside spelled sound true P b ts r → P ts r × (b ≡ false)
  plain P false ts r h = (h, refl)
  plain P true ts r h = absurd h

  pub here_sound : AreSound (record { expr = expression bounded v n inside true; triple_expr = alternatives bounded v n inside }) (g.here bounded v n spelled)
  here_sound = record {
    expr = λ ts. meets_rule (expression_meets bounded v n inside spelled sound local true ts) (λ x r h. plain (g.Expression bounded v n spelled true x.0) x.1 ts r h);
    triple_expr = alternatives_meet;
  }
