-- What is read is spelled so: expressions at each depth, statements, documents.
use Rattle.std.proofs.Common.{◌≡◌, inl, inr, Bool, ℕ, zero, suc, refl, subst}
use Rattle.rdf_cursor.specs.Ahead.{Ahead, finished}
use Rattle.rdf_cursor.specs.Phrases.{Many}
use Rattle.term_tokens.specs.Scopes.{Scope}
use Rattle.shexc_reader.specs.States.{State}
use Rattle.shexc_reader.specs.Reading.{level, whole, base_directive, prefix_directive, import_directive, first_start, start_directive, body, declaration, statement, document}
use Rattle.shexc_reader.proofs.Places.{local_level, consumes_statement}
use Rattle.shexc_constraints.proofs.Sound.{iri_meets, label_meets}
use Rattle.shexc_reader.proofs.SoundShapes.{AreSound}
use Rattle.shexc_reader.proofs.SoundGroups.{here_sound}
use Rattle.rdf_cursor.proofs.Soundness.{Meets, meets_give, meets_one, meets_bind, meets_either, meets_rule, meets_refuse, meets_loop, meets_finish}
use Rattle.rdf_lex.specs.Tokens.{Spelled}
use Rattle.schema_documents.specs.Tree.{MaybeShapeExpr, no_expr, one_expr}
use Rattle.shexc_reader.specs.Grammar as g
use Rattle.shexc_reader.specs.Symbols.{starts}

pub level_sound : (bounded : Bool) (v : Scope) (d : ℕ) → AreSound (level bounded v d) (g.Level bounded v d)
unfolding level g.Level
level_sound bounded v zero = record { expr = λ ts. meets_refuse; triple_expr = λ ts. meets_refuse }
level_sound bounded v (suc d) = here_sound bounded v d (level bounded v d) (g.Level bounded v d) (level_sound bounded v d) (local_level bounded v d)

module _ (bounded : Bool) (d : ℕ) where
  whole_meets : (v : Scope) (ts : Ahead Spelled) → Meets (whole bounded d v) (λ e r. g.Whole bounded d v e ts r) ts
  unfolding whole
  whole_meets v ts = meets_bind (meets_rule ((level_sound bounded v (suc d)).expr ts) (λ x r h. meets_give h.0))

  first_meets : (e : MaybeShapeExpr) (ts : Ahead Spelled) → Meets (first_start bounded d e) (λ t r. (e ≡ no_expr) × g.Word starts ts r) ts
  unfolding first_start
  first_meets no_expr ts = meets_one (λ t r c. (refl, (t, c)))
  first_meets (one_expr e) ts = meets_refuse

  body_meets : (v : Scope) (ts : Ahead Spelled) → Meets (body bounded d v) (λ e r. g.Whole bounded d v e ts r) ts
  unfolding body
  body_meets v ts = meets_either meets_refuse (whole_meets v ts)

  pub statement_meets : (a : State) (ts : Ahead Spelled) → Meets (statement bounded d a) (λ b r. g.Statement bounded d a b ts r) ts
  unfolding statement base_directive prefix_directive import_directive start_directive declaration
  statement_meets a ts = meets_either (meets_bind (meets_one (λ t m c. meets_bind (meets_one (λ i r h. meets_give (inl (i, refl, (m, (t, c), h))))))))
      (meets_either (meets_bind (meets_one (λ t m c. meets_bind (meets_one (λ u k h. meets_bind (meets_one (λ i r j. meets_give (inr (inl (u, i, refl, (m, (t, c), (k, h, j))))))))))))
      (meets_either (meets_bind (meets_one (λ t m c. meets_bind (iri_meets a.scope _ m (λ i r h. meets_give (inr (inr (inl (i, refl, (m, (t, c), h))))))))))
      (meets_either (meets_bind (meets_rule (first_meets a.start ts) (λ t m c. meets_bind (meets_one (λ u k h. meets_bind (meets_rule (whole_meets a.scope k) (λ e r j. meets_give (inr (inr (inr (inl (e, c.0, refl, (m, c.1, (k, (u, h), j))))))))))))))
      (meets_bind (meets_rule (label_meets a.scope ts) (λ l m h. meets_bind (meets_rule (body_meets a.scope m) (λ e r k. meets_give (inr (inr (inr (inr (l, e, refl, (m, h, k))))))))))))))

  pub document_meets : (a : State) (ts : Ahead Spelled) → Meets (document bounded d a) (λ b r. g.ShExC bounded d a b ts × (r ≡ finished)) ts
  unfolding document
  document_meets a ts = meets_bind (meets_rule (meets_loop _ _ (g.Statement bounded d) (consumes_statement bounded d) statement_meets a ts)
      (λ b m h. meets_finish (λ e. (subst (λ (q : Ahead Spelled). Many (g.Statement bounded d) a b ts q) e h, e))))
