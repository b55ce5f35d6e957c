-- What is read is spelled so: arcs.
use Rattle.std.proofs.Common.{inl, inr, Bool, true, false, ℕ, refl}
use Rattle.rdf_cursor.specs.Ahead.{Ahead}
use Rattle.rdf_cursor.specs.Phrases.{Phrase, Is, ◌⨾◌}
use Rattle.term_tokens.specs.Scopes.{Scope}
use Rattle.shexc_constraints.specs.Meanings.{limit_of}
use Rattle.shexc_reader.specs.Reading.{Inside, most, limits, short, cardinality, cardinality_behind, direction}
use Rattle.shexc_reader.proofs.SoundShapes.{AreSound, Flagged, opens_meets}
use Rattle.rdf_cursor.proofs.Soundness.{Meets, meets_give, meets_one, meets_bind, meets_either, meets_rule}
use Rattle.rdf_lex.specs.Tokens.{Spelled}
use Rattle.rdf_cursor.specs.declared.symbols.Symbol.TheVariants as symbol
use Rattle.shexc_reader.specs.Grammar as g
use Rattle.shexc_constraints.specs.Symbols.{Mark}

module _ (bounded : Bool) (v : Scope) (n : ℕ) (inside : Inside) (spelled : g.Inside) (sound : AreSound inside spelled) where
  most_meets : (least : ℕ) (ts : Ahead Spelled) → Meets (most bounded v n inside least) (λ b r. g.Most bounded v n spelled least b ts r) ts
  unfolding most
  most_meets least ts = meets_bind (meets_one (λ t m c. meets_either (meets_bind (meets_one (λ u r d. meets_give (inr (inr (inl (refl, (m, (t, c), (u, d)))))))))
      (meets_either (meets_bind (meets_one (λ x r d. meets_give (inr (inr (inr (x, refl, (m, (t, c), d)))))))) (meets_give (inr (inl (refl, (t, c))))))))

  limits_meet : (ts : Ahead Spelled) → Meets (limits bounded v n inside) (λ c r. (Is (limit_of 0) c.0 ⨾ g.Most bounded v n spelled c.0 c.1 ⨾ Mark symbol.CloseBrace) ts r) ts
  unfolding limits
  limits_meet ts = meets_bind (meets_one (λ least m c. meets_bind (meets_rule (meets_either (most_meets least m) (meets_give (inl (refl, refl))))
      (λ b k h. meets_bind (meets_one (λ t r d. meets_give (m, c, (k, h, (t, d)))))))))

  pub cardinality_meets : (ts : Ahead Spelled) → Meets (cardinality bounded v n inside) (λ o r. g.MaybeCardinality bounded v n spelled o ts r) ts
  unfolding cardinality short
  cardinality_meets ts = meets_either (meets_bind (meets_one (λ t r d. meets_give (inr (_, refl, inl (refl, (t, d)))))))
      (meets_either (meets_bind (meets_one (λ t r d. meets_give (inr (_, refl, inr (inl (refl, (t, d))))))))
      (meets_either (meets_bind (meets_one (λ t r d. meets_give (inr (_, refl, inr (inr (inl (refl, (t, d)))))))))
      (meets_either (meets_bind (meets_rule (opens_meets symbol.OpenBrace n ts) (λ u m o. meets_bind (meets_rule (limits_meet m) (λ c r h. meets_give (inr (c, refl, inr (inr (inr (m, o, h))))))))))
      (meets_give (inl (refl, refl))))))

  -- behind a phrase, whose brace may be taken
  pub cardinality_behind_meets : (b : Bool) (P : Phrase Spelled) (ts m : Ahead Spelled) → Flagged bounded v n inside spelled sound false P b ts m
      → Meets (cardinality_behind bounded v n inside b) (λ o r. (P ⨾ g.MaybeCardinality bounded v n spelled o) ts r) m
  unfolding cardinality_behind
  cardinality_behind_meets false P ts m h = meets_rule (cardinality_meets m) (λ o r k. (m, h, k))
  cardinality_behind_meets true P ts m (k, h, o, e) = meets_bind (meets_rule (limits_meet m) (λ c r i. meets_give (k, h, inr (c, refl, inr (inr (inr (m, o, i)))))))

  pub direction_meets : (ts : Ahead Spelled) → Meets (direction bounded v n inside) (λ b r. g.Direction bounded v n spelled b ts r) ts
  unfolding direction
  direction_meets ts = meets_either (meets_bind (meets_one (λ t r c. meets_give (inl (refl, (t, c)))))) (meets_give (inr (refl, refl)))
