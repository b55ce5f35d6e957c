-- The places that are allowed, found one by one.
use Rattle.std.proofs.Common.{◌≡◌, ℕ, ◌+◌, ◌<◌, ◌≤◌, inl, inr, length, List, [], ◌∷◌, ◌++◌, refl, arith, ap, sym, subst, ◌∙◌}
use Rattle.std.proofs.lemmas.Bool.{cases_lt}
use Rattle.std.proofs.lemmas.Option.{slice_get_past}
use Rattle.std.specs.Prelude.{Contains, Option}
use Rattle.rdf_terms.specs.declared.terms.TermId.{TermId}
use Rattle.rdf_terms.specs.declared.terms.Triple.{Triple}
use Rattle.schema_tree.specs.declared.schema.ExprId.{ExprId}
use Rattle.schema_tree.specs.declared.schema.Shape.{Shape}
use Rattle.schema_tree.specs.declared.verdicts.Place.{Place}
use Rattle.schema_tree.specs.declared.verdicts.Place.TheVariants.{At, Rest}
use Rattle.schema_tree.specs.Places.{IsAllowed, MayTake}
use Rattle.lists.proofs.Members.{not_in_none}
use Rattle.bag_match.specs.Counts.{IsPlaceOf}
use Rattle.bag_match.specs.Least.{ArePlacesFor, IsPlaceBefore, PushesAllowed}
use Rattle.schema_tree.specs.Rising.{AreRising}
use Rattle.bag_match.proofs.Rising.{in_push, push_has, push_keeps, rising_push}

module _ (hold fail : TermId → Option ExprId → Type 0) (sh : Shape) (n : TermId) (t : Triple) where
  -- a place that is allowed is one of the occurrences or the remainder
  pub allowed_there : (p : Place) → IsAllowed hold fail sh n t p → IsPlaceOf (length sh.occs) p
  allowed_there Rest h = tt
  allowed_there (At i) h = elim (cases_lt i (length sh.occs)) [
    | inl lt ↦ lt
    | inr ge ↦ absurd (subst (λ o. MayTake hold fail sh n t o) (slice_get_past sh.occs i ge) h)
  ]

  -- the places of the first occurrences that are allowed
  pub record AreSoFar (i : ℕ) (ps : List Place) : Type 0 where
    pub rising : AreRising IsPlaceBefore ps
    pub below : (p : Place) → Contains ps p → IsPlaceBefore p (At i)
    pub allowed : (p : Place) → Contains ps p → IsAllowed hold fail sh n t p
    pub all : (k : ℕ) → k < i → IsAllowed hold fail sh n t (At k) → Contains ps (At k)

  pub none_so_far : AreSoFar 0 []
  none_so_far = record {
    rising = tt;
    below = λ p c. absurd (not_in_none p c);
    allowed = λ p c. absurd (not_in_none p c);
    all = λ k lt. absurd (omega (arith, lt));
  }

  grown : (p : Place) (i : ℕ) → IsPlaceBefore p (At i) → IsPlaceBefore p (At (i + 1))
  grown (At k) i h = omega (arith, h)
  grown Rest i h = h

  pub one_more : (i : ℕ) (p : Place) (old new : List Place) → p ≡ At i → AreSoFar i old → PushesAllowed hold fail sh n t p old new → AreSoFar (i + 1) new
  one_more i p old new is far (inl (allowed, e)) =
      let here : IsAllowed hold fail sh n t (At i) = subst (λ q. IsAllowed hold fail sh n t q) is allowed in
      let what : new ≡ old ++ At i ∷ [] = e ∙ ap (λ q. old ++ q ∷ []) is in
      subst (λ z. AreSoFar (i + 1) z) (sym what) (record {
        rising = rising_push IsPlaceBefore old (At i) far.rising far.below;
        below = λ q c. elim (in_push old (At i) q c) [ inl before ↦ grown q i (far.below q before) | inr own ↦ subst (λ v. IsPlaceBefore v (At (i + 1))) own (let lt : i < i + 1 = omega arith in lt) ];
        allowed = λ q c. elim (in_push old (At i) q c) [ inl before ↦ far.allowed q before | inr own ↦ subst (λ v. IsAllowed hold fail sh n t v) own here ];
        all = λ k lt h. elim (cases_lt k i) [
          | inl below ↦ push_keeps old (At i) (At k) (far.all k below h)
          | inr past ↦ push_has old (At i) (At k) (ap (λ j. At j) (omega (arith, past, lt)))
        ];
      })
  one_more i p old new is far (inr (refused, e)) = subst (λ z. AreSoFar (i + 1) z) (sym e) (record {
    rising = far.rising;
    below = λ q c. grown q i (far.below q c);
    allowed = far.allowed;
    all = λ k lt h. elim (cases_lt k i) [
      | inl below ↦ far.all k below h
      | inr past ↦ absurd (refused (subst (λ q. IsAllowed hold fail sh n t q) (ap (λ j. At j) (let same : k ≡ i = omega (arith, past, lt) in same) ∙ sym is) h))
    ];
  })

  at_last : (p : Place) (i : ℕ) → IsPlaceBefore p (At i) → IsPlaceBefore p Rest
  at_last (At k) i h = tt
  at_last Rest i h = h

  pub with_rest : (i : ℕ) (old new : List Place) → length sh.occs ≤ i → AreSoFar i old → PushesAllowed hold fail sh n t Rest old new → ArePlacesFor hold fail sh n t new
  with_rest i old new past far (inl (allowed, e)) = subst (λ z. ArePlacesFor hold fail sh n t z) (sym e) (record {
    rising = rising_push IsPlaceBefore old Rest far.rising (λ p c. at_last p i (far.below p c));
    same = λ p. (
      (λ c. elim (in_push old Rest p c) [ inl before ↦ far.allowed p before | inr own ↦ subst (λ v. IsAllowed hold fail sh n t v) own allowed ]),
      (λ h. back p h),
    );
  })
    where
      back : (p : Place) → IsAllowed hold fail sh n t p → Contains (old ++ Rest ∷ []) p
      back (At k) h = push_keeps old Rest (At k) (far.all k (let lt = allowed_there (At k) h in omega (arith, lt, past)) h)
      back Rest h = push_has old Rest Rest refl
  with_rest i old new past far (inr (refused, e)) = subst (λ z. ArePlacesFor hold fail sh n t z) (sym e) (record {
    rising = far.rising;
    same = λ p. (far.allowed p, λ h. back p h);
  })
    where
      back : (p : Place) → IsAllowed hold fail sh n t p → Contains old p
      back (At k) h = far.all k (let lt = allowed_there (At k) h in omega (arith, lt, past)) h
      back Rest h = absurd (refused h)
