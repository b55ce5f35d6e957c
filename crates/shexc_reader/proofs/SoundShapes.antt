-- What is read is spelled so: Shapes and atoms.
use Rattle.std.proofs.Common.{◌≡◌, ◌<◌, ◌⊎◌, Bool, true, false, ℕ, zero, suc, List, [], Ok, refl, inl, inr, cond, arith}
use Rattle.std.specs.Str.{chars}
use Rattle.rdf_cursor.specs.Ahead.{Ahead, next_is}
use Rattle.rdf_cursor.specs.Phrases.{Phrase, Many, none, ◌⨾◌, Nothing}
use Rattle.rdf_cursor.specs.Readers.{Reader, either}
use Rattle.rdf_cursor.specs.Symbols.{is_symbol}
use Rattle.term_tokens.specs.Scopes.{Scope}
use Rattle.shexc_reader.specs.Reading.{Inside, extra_behind, extras, qualifier, all_qualifiers, opens, maybe_triple, shape_behind, a_shape, shape_or_reference, braced, joined_with, behind_constraint, constraint_first, literal_only, constraint_behind, shape_first, parenthesised, dot, atom}
use Rattle.shexc_reader.proofs.Places.{consumes_extra_behind, consumes_qualifier}
use Rattle.shexc_constraints.proofs.Sound.{predicate_meets, notes_meet, reference_meets}
use Rattle.shexc_constraints.proofs.SoundValues.{non_literal_meets, literal_constraint_meets}
use Rattle.rdf_cursor.proofs.Soundness.{Meets, meets_give, meets_one, meets_bind, meets_either, meets_rule, meets_refuse, meets_loop}
use Rattle.rdf_lex.specs.Tokens.{Spelled}
use Rattle.schema_documents.specs.Tree.{ShapeExpr, TripleExpr, MaybeTripleExpr, no_triple, one_triple, shape}
use Rattle.rdf_cursor.specs.declared.symbols.Symbol.{Symbol}
use Rattle.rdf_cursor.specs.declared.symbols.Symbol.TheVariants as symbol
use Rattle.shexc_reader.specs.Grammar as g
use Rattle.shexc_constraints.specs.Grammar as low
use Rattle.shexc_constraints.specs.Symbols.{Mark}

-- either reader, with what is known of the next token
by_class : {T F A : Type 0} (class : T → Bool) (p q : Reader T F A) (P : A → Ahead T → Type 0) (ts : Ahead T) (b : Bool) → next_is class ts ≡ b →
    (next_is class ts ≡ true → Meets p P ts) → Meets q P ts
    → (y : A × Ahead T) → cond b (p ts) (q ts) ≡ Ok y → P y.0 y.1
by_class class p q P ts true e h k y is = (h e).holds y is
by_class class p q P ts false e h k y is = k.holds y is

meets_where : {T F A : Type 0} (class : T → Bool) (p q : Reader T F A) (P : A → Ahead T → Type 0) (ts : Ahead T) → (next_is class ts ≡ true → Meets p P ts) →
    Meets q P ts → Meets (either class p q) P ts
meets_where class p q P ts h k = record { holds = λ y is. by_class class p q P ts (next_is class ts) refl h k y is }

-- a bracket
pub opens_meets : (a : Symbol) (n : ℕ) (ts : Ahead Spelled) → Meets (opens a n) (λ u r. (0 < n) × Mark a ts r) ts
unfolding opens
opens_meets a zero ts = meets_either meets_refuse meets_refuse
opens_meets a (suc n) ts = meets_bind (meets_one (λ t r h. meets_give (omega arith, (t, h))))

module _ (v : Scope) where
  extra_behind_meets : (ps : List (List ℕ)) (ts : Ahead Spelled) → Meets (extra_behind v ps) (λ qs r. low.Adds (g.PredicateText v) ps qs ts r) ts
  unfolding extra_behind
  extra_behind_meets ps ts = meets_bind (meets_rule (predicate_meets v ts) (λ i r h. meets_give (chars i, refl, (i, refl, h))))

  extras_meet : (ps : List (List ℕ)) (ts : Ahead Spelled) → Meets (extras v ps) (λ qs r. (Mark symbol.Extra ⨾ g.MoreOf (g.PredicateText v) ps qs) ts r) ts
  unfolding extras
  extras_meet ps ts = meets_bind (meets_one (λ t m c. meets_bind (meets_rule (extra_behind_meets ps m) (λ qs n h.
      meets_rule (meets_loop _ _ (low.Adds (g.PredicateText v)) (consumes_extra_behind v) extra_behind_meets qs n) (λ zs r k. (m, (t, c), (qs, (n, h, k))))))))

  qualifier_meets : (q : Bool × List (List ℕ)) (ts : Ahead Spelled) → Meets (qualifier v q) (λ p r. g.Qualifier v q p ts r) ts
  unfolding qualifier
  qualifier_meets q ts = meets_either (meets_bind (meets_rule (extras_meet q.1 ts) (λ ps r h. meets_give (inl (ps, refl, h))))) (meets_bind (meets_one (λ t r c. meets_give (inr (refl, (t, c))))))

  qualifiers_meet : (ts : Ahead Spelled) → Meets (all_qualifiers v) (λ q r. Many (g.Qualifier v) (false, []) q ts r) ts
  unfolding all_qualifiers
  qualifiers_meet ts = meets_loop _ _ (g.Qualifier v) (consumes_qualifier v) qualifier_meets (false, []) ts

-- what stands in brackets is sound, and no brace is taken behind it
pub record AreSound (inside : Inside) (spelled : g.Inside) : Type 0 where
  pub expr : (ts : Ahead Spelled) → Meets inside.expr (λ x r. spelled.expr x.0 ts r × (x.1 ≡ false)) ts
  pub triple_expr : (ts : Ahead Spelled) → Meets inside.triple_expr (λ t r. spelled.triple_expr t ts r) ts

module _ (bounded : Bool) (v : Scope) (n : ℕ) (inside : Inside) (spelled : g.Inside) (sound : AreSound inside spelled) where
  -- an expression, and with the flag a brace behind it, before a number; a whole one never has the flag
  abbrev pub Flagged : Bool → Phrase Spelled → Bool → Phrase Spelled
  Flagged whole P false ts r = P ts r
  Flagged true P true ts r = ⊥
  Flagged false P true ts r = (m : Ahead Spelled) × P ts m × g.Opens bounded v n spelled symbol.OpenBrace m r × (next_is (is_symbol symbol.Integer) r ≡ true)

  abbrev pub InBraces : MaybeTripleExpr → Phrase Spelled
  InBraces t ts r = ((no_triple ≡ t) × Nothing ts r) ⊎ ((u : TripleExpr) × (one_triple u ≡ t) × spelled.triple_expr u ts r)

  maybe_triple_meets : (ts : Ahead Spelled) → Meets (maybe_triple bounded v n inside) (λ t r. InBraces t ts r) ts
  unfolding maybe_triple
  maybe_triple_meets ts = meets_either (meets_give (inl (refl, refl))) (meets_bind (meets_rule (sound.triple_expr ts) (λ u r h. meets_give (inr (u, refl, h)))))

  shape_behind_meets : (q : Bool × List (List ℕ)) (ts : Ahead Spelled) → Meets (shape_behind bounded v n inside q) (λ e r. (t : MaybeTripleExpr) ×
      (shape q.0 q.1 t ≡ e) × (InBraces t ⨾ Mark symbol.CloseBrace) ts r) ts
  unfolding shape_behind
  shape_behind_meets q ts = meets_bind (meets_rule (maybe_triple_meets ts) (λ t m h. meets_bind (meets_one (λ w r c. meets_give (t, refl, (m, h, (w, c)))))))

  a_shape_meets : (whole : Bool) (ts : Ahead Spelled) → Meets (a_shape bounded v n inside whole) (λ e r. g.AShape bounded v n spelled whole e ts r) ts
  unfolding a_shape
  a_shape_meets whole ts = meets_bind (meets_rule (qualifiers_meet v ts) (λ q m h. meets_bind (meets_rule (opens_meets symbol.OpenBrace n m) (λ u k o.
      meets_bind (meets_rule (shape_behind_meets q k) (λ e l b. meets_bind (meets_rule (notes_meet v whole l) (λ w r i. meets_give (q, b.0, b.1, (m, h, (l, (k, o, b.2), i)))))))))))

  shape_or_reference_meets : (whole : Bool) (ts : Ahead Spelled) → Meets (shape_or_reference bounded v n inside whole) (λ e r. g.ShapeOrReference bounded v n spelled whole e ts r) ts
  unfolding shape_or_reference
  shape_or_reference_meets whole ts = meets_either (meets_rule (reference_meets v ts) (λ e r h. inr h)) (meets_rule (a_shape_meets whole ts) (λ e r h. inl h))

  -- behind a constraint from ts to m, and its annotations up to k
  behind_meets : (whole : Bool) (c : ShapeExpr) (ts m k : Ahead Spelled) → low.NonLiteral bounded v c ts m → low.Notes v whole m k
      → Meets (behind_constraint bounded v n inside whole c) (λ x r. Flagged whole (g.Atom bounded v n spelled whole x.0) x.1 ts r) k
  unfolding behind_constraint joined_with braced
  behind_meets true c ts m k h i =
      meets_either (meets_bind (meets_rule (shape_or_reference_meets true k) (λ s r j. meets_give (inl (inr (c, s, refl, (m, h, (k, i, j)))))))) (meets_give (inl (inl (m, h, i))))
  behind_meets false c ts m k h i = meets_either
      (meets_bind (meets_rule (opens_meets symbol.OpenBrace n k) (λ u l o. meets_where _ _ _ _ l (λ e. meets_give (k, inl (inl (m, h, i)), o, e))
      (meets_bind (meets_rule (shape_behind_meets (false, []) l) (λ s r b. meets_give (inl (inr (c, s, refl, (m, h, (k, i, inl ((false, []), b.0, b.1, (k, none, (r, (l, o, b.2), refl))))))))))))))
      (meets_either (meets_bind (meets_rule (shape_or_reference_meets false k) (λ s r j. meets_give (inl (inr (c, s, refl, (m, h, (k, i, j)))))))) (meets_give (inl (inl (m, h, i)))))

  constraint_first_meets : (whole : Bool) (ts : Ahead Spelled) → Meets (constraint_first bounded v n inside whole) (λ x r. Flagged whole (g.Atom bounded v n spelled whole x.0) x.1 ts r) ts
  unfolding constraint_first
  constraint_first_meets whole ts = meets_bind (meets_rule (non_literal_meets bounded v ts) (λ c m h. meets_bind (meets_rule (notes_meet v whole m) (λ u k i. behind_meets whole c ts m k h i))))

  literal_only_meets : (whole : Bool) (ts : Ahead Spelled) → Meets (literal_only bounded v n inside whole) (λ x r. Flagged whole (g.Atom bounded v n spelled whole x.0) x.1 ts r) ts
  unfolding literal_only
  literal_only_meets whole ts = meets_bind (meets_rule (literal_constraint_meets bounded v ts) (λ c m h. meets_bind (meets_rule (notes_meet v whole m) (λ u r i. meets_give (inr (inl (m, h, i)))))))

  shape_first_meets : (whole : Bool) (ts : Ahead Spelled) → Meets (shape_first bounded v n inside whole) (λ x r. Flagged whole (g.Atom bounded v n spelled whole x.0) x.1 ts r) ts
  unfolding shape_first constraint_behind
  shape_first_meets whole ts = meets_bind (meets_rule (shape_or_reference_meets whole ts) (λ s m h.
      meets_either (meets_bind (meets_rule (non_literal_meets bounded v m) (λ c k i. meets_bind (meets_rule (notes_meet v whole k) (λ u r j. meets_give (inr (inr (inl (inr (s, c, refl, (m, h, (k, i, j))))))))))))
      (meets_give (inr (inr (inl (inl h)))))))

  parenthesised_meets : (whole : Bool) (ts : Ahead Spelled) → Meets (parenthesised bounded v n inside) (λ x r. Flagged whole (g.Atom bounded v n spelled whole x.0) x.1 ts r) ts
  unfolding parenthesised
  parenthesised_meets whole ts = meets_bind (meets_rule (opens_meets symbol.OpenParenthesis n ts) (λ u m o. meets_bind (meets_rule (sound.expr m) (λ x k h.
      meets_bind (meets_one (λ t r c. meets_give (inr (inr (inr (inl (m, o, (k, h.0, (t, c)))))))))))))

  dot_meets : (whole : Bool) (ts : Ahead Spelled) → Meets (dot bounded v n inside) (λ x r. Flagged whole (g.Atom bounded v n spelled whole x.0) x.1 ts r) ts
  unfolding dot
  dot_meets whole ts = meets_bind (meets_one (λ t r c. meets_give (inr (inr (inr (inr (refl, (t, c))))))))

  pub atom_meets : (whole : Bool) (ts : Ahead Spelled) → Meets (atom bounded v n inside whole) (λ x r. Flagged whole (g.Atom bounded v n spelled whole x.0) x.1 ts r) ts
  unfolding atom
  atom_meets whole ts = meets_either (constraint_first_meets whole ts)
      (meets_either (literal_only_meets whole ts) (meets_either (shape_first_meets whole ts) (meets_either (parenthesised_meets whole ts) (dot_meets whole ts))))
