-- Places that lead from a state to a match, and the least such places.
use Rattle.std.proofs.Common.{◌≡◌, ℕ, zero, suc, ◌+◌, ◌≤◌, ◌≢◌, inl, inr, length, drop, List, [], ◌∷◌, refl, arith, ap, sym, subst, ◌∙◌, slice_index, Bool, true, false, cond, get_or-set_same, get_or-set_other}
use Rattle.std.proofs.lemmas.Bool.{eqb-true}
use Rattle.std.proofs.lemmas.Bool.Decides.{nat_tests}
use Rattle.std.proofs.lemmas.List.{drop_all, get_or_past}
use Rattle.std.specs.Prelude.{Option, Some, None, slice_get, nat_eq}
use Rattle.rdf_terms.specs.declared.terms.TermId.{TermId}
use Rattle.rdf_terms.specs.declared.terms.Triple.{Triple}
use Rattle.tally.specs.Copies.{Copies}
use Rattle.tally.specs.Plan.{Plan}
use Rattle.tally.specs.Span.{HasSpan, span}
use Rattle.tally.specs.Laws.{IntervalHasCopies}
use Rattle.schema_tree.specs.declared.schema.ExprId.{ExprId}
use Rattle.schema_tree.specs.declared.schema.Occurrence.{Occurrence}
use Rattle.schema_tree.specs.declared.schema.Shape.{Shape}
use Rattle.schema_tree.specs.declared.verdicts.Place.{Place}
use Rattle.schema_tree.specs.declared.verdicts.Place.TheVariants.{At, Rest}
use Rattle.schema_tree.specs.declared.verdicts.State.{State}
use Rattle.schema_tree.specs.Loaded.{BodyOk}
use Rattle.schema_tree.specs.Places.{AreAllowed, HaveCounts, IsAllowed, times}
use Rattle.schema_tree.specs.States.{IsDead, IsDeadBody, fitting, opening}
use Rattle.schema_tree.proofs.Decide.{decide_span}
use Rattle.lists.proofs.Decided.{Decided}
use Rattle.schema_tree.proofs.ToPlaces.{counts_agree}
use Rattle.bag_match.specs.Counts.{IsPlaceOf, raised, state_of}
use Rattle.bag_match.specs.Least.{AreLeast, Finishes, FinishesLeast}
use Rattle.bag_match.specs.Reached.{IsReachedAt}
use Rattle.bag_match.specs.Searches.{HavePlaces}
use Rattle.bag_match.proofs.Offered.{allowed_there}
use Rattle.bag_match.proofs.Stepping.{after_is, opening_at, reached_lives, reached_shaped}

-- ---- counts and places

-- one more place, and the counts after it
pub count_raised : (counts : List ℕ) (p : Place) → IsPlaceOf (length counts) p → (ps : List Place) (i : ℕ) →
    slice_index (raised counts p) i + times ps i ≡ slice_index counts i + times (p ∷ ps) i
count_raised counts Rest there ps i = refl
count_raised counts (At j) there ps i = go (nat_eq i j) refl
  where
    go : (b : Bool) → nat_eq i j ≡ b → slice_index (raised counts (At j)) i + times ps i ≡ slice_index counts i + cond b (suc (times ps i)) (times ps i)
    go true e =
        let same : i ≡ j = eqb-true i j e in
        let here : slice_index (raised counts (At j)) i ≡ suc (slice_index counts i) =
        subst (λ k. slice_index (raised counts (At j)) k ≡ suc (slice_index counts k)) (sym same) (get_or-set_same counts j (suc (slice_index counts j)) 0 there) in
        omega (arith, here)
    go false e =
        let apart : i ≢ j = (λ z. grind (arith, nat_tests)) in
        let there_is = get_or-set_other counts j i (suc (slice_index counts j)) 0 apart in
        omega (arith, there_is)

drop_at : {X : Type 0} (i : ℕ) (xs : List X) (t : X) → slice_get xs i ≡ Some t → drop i xs ≡ t ∷ drop (suc i) xs
drop_at i [] t e = absurd (let bad : ⊥ = cc in bad)
drop_at zero (x ∷ xs) t e = let same : x ≡ t = cc in ap (λ z. z ∷ xs) same
drop_at (suc i) (x ∷ xs) t e = drop_at i xs t e

module _ (hold fail : TermId → Option ExprId → Type 0) (sh : Shape) (n : TermId) (ts : List Triple) where
  abbrev Fin : ℕ → List ℕ → List Place → Type 0
  Fin j c ps = Finishes hold fail sh n ts (state_of j c) ps

  -- a place and those behind it
  pub finish_cons : (j : ℕ) (c : List ℕ) (t : Triple) (p : Place) (ps : List Place) → slice_get ts j ≡ Some t → IsPlaceOf (length c) p → IsAllowed hold fail sh n t p →
      Fin (suc j) (raised c p) ps → Fin j c (p ∷ ps)
  finish_cons j c t p ps at there allowed (behind, spelled) = (
    subst (λ zs. AreAllowed hold fail sh n zs (p ∷ ps)) (sym (drop_at j ts t at)) (allowed, behind),
    counts_agree sh.body (λ i. slice_index (raised c p) i + times ps i) (λ i. slice_index c i + times (p ∷ ps) i) (λ i. count_raised c p there ps i) spelled,
  )

  pub finish_split : (j : ℕ) (c : List ℕ) (t : Triple) (p : Place) (ps : List Place) → slice_get ts j ≡ Some t → length c ≡ length sh.occs →
      Fin j c (p ∷ ps) → IsPlaceOf (length c) p × IsAllowed hold fail sh n t p × Fin (suc j) (raised c p) ps
  finish_split j c t p ps at long (all, spelled) =
      let h : AreAllowed hold fail sh n (t ∷ drop (suc j) ts) (p ∷ ps) = subst (λ zs. AreAllowed hold fail sh n zs (p ∷ ps)) (drop_at j ts t at) all in
      let there : IsPlaceOf (length c) p = subst (λ k. IsPlaceOf k p) (sym long) (allowed_there hold fail sh n t p h.0) in
      (there, h.0, (h.1, counts_agree sh.body (λ i. slice_index c i + times (p ∷ ps) i) (λ i. slice_index (raised c p) i + times ps i) (λ i. sym (count_raised c p there ps i)) spelled))

  -- no places end before the triples do
  pub finish_some : (j : ℕ) (c : List ℕ) (t : Triple) → slice_get ts j ≡ Some t → ¬ Fin j c []
  finish_some j c t at (all, spelled) = subst (λ zs. AreAllowed hold fail sh n zs []) (drop_at j ts t at) all

  -- ---- the end

  none_fit : (o : Option Occurrence) → fitting n [] o ≡ 0
  none_fit None = refl
  none_fit (Some o) = refl

  -- with no triples left, what is not dead has matching counts
  pub end_spelled : IntervalHasCopies → BodyOk sh.occs sh.body → (x : State) → length x.counts ≡ length sh.occs → length ts ≤ x.done → ¬ IsDead sh n ts x → Finishes hold fail sh n ts x []
  end_spelled law body x long past alive = (
    subst (λ zs. AreAllowed hold fail sh n zs []) (sym (drop_all x.done ts past)) tt,
    go sh.body body alive,
  )
    where
      go : (b : Option Plan) → BodyOk sh.occs b → ¬ IsDeadBody sh n (drop x.done ts) (slice_index x.counts) b → HaveCounts b (λ i. slice_index x.counts i + 0)
      go None none lives = λ i. let z : slice_index x.counts i ≡ 0 = get_or_past x.counts i 0 (omega (arith, long, none)) in omega (arith, z)
      go (Some c) ok lives =
          let high : ◌≡◌ {A = ℕ → ℕ} (λ i. slice_index x.counts i + fitting n (drop x.done ts) (slice_get sh.occs i)) (slice_index x.counts) =
          (λ k i. (let z : fitting n (drop x.done ts) (slice_get sh.occs i) ≡ 0 = ap (λ zs. fitting n zs (slice_get sh.occs i)) (drop_all x.done ts past) ∙ none_fit (slice_get sh.occs i) in
          let e : slice_index x.counts i + fitting n (drop x.done ts) (slice_get sh.occs i) ≡ slice_index x.counts i = omega (arith, z) in e) k) in
          let spell : ¬ ¬ HasSpan (span c (slice_index x.counts) (slice_index x.counts)) 1 =
          subst (λ f. ¬ ¬ HasSpan (span c (slice_index x.counts) f) 1) high lives in
          let has : HasSpan (span c (slice_index x.counts) (slice_index x.counts)) 1 = sure (decide_span (span c (slice_index x.counts) (slice_index x.counts)) 1) spell in
          let copies : Copies c (slice_index x.counts) 1 = (law c (slice_index x.counts) 1 ok.1).0 has in
          counts_agree (Some c) (slice_index x.counts) (λ i. slice_index x.counts i + 0) (λ i. (let e : slice_index x.counts i ≡ slice_index x.counts i + 0 = omega arith in e)) copies
        where
          sure : {A : Type 0} → Decided A → ¬ ¬ A → A
          sure (inl a) h = a
          sure (inr b) h = absurd (h b)

  -- ---- the walk

  -- the end of the walk
  pub walk_end : (j : ℕ) (c : List ℕ) → length ts ≤ j → (ps : List Place) → Fin j c ps → FinishesLeast hold fail sh n ts (state_of j c) []
  walk_end j c past [] fin = (fin, λ qs other. tt)
  walk_end j c past (p ∷ ps) (all, spelled) = absurd (subst (λ zs. AreAllowed hold fail sh n zs (p ∷ ps)) (drop_all j ts past) all)

  -- its beginning
  pub walk_start : (c : List ℕ) → opening sh ≡ state_of 0 c → (rest : List Place) → FinishesLeast hold fail sh n ts (state_of 0 c) rest → AreLeast hold fail sh n ts rest
  walk_start c is rest ((all, spelled), least) = record {
    allowed = all;
    spelled = counts_agree sh.body (λ i. slice_index c i + times rest i) (times rest) (λ i. let z = none i in omega (arith, z)) spelled;
    least = λ qs a h. least qs (a, counts_agree sh.body (times qs) (λ i. slice_index c i + times qs i) (λ i. let z = none i in omega (arith, z)) h);
  }
    where
      none : (i : ℕ) → slice_index c i ≡ 0
      none i = subst (λ x. slice_index x.counts i ≡ 0) is (opening_at sh i)

  -- where a state is reached from which places finish, they do so from the opening state
  from_opening : (j : ℕ) (x : State) → IsReachedAt hold fail sh n ts j x → (ps : List Place) → Finishes hold fail sh n ts x ps →
      (qs : List Place) × Finishes hold fail sh n ts (opening sh) qs
  from_opening zero x (e, alive) ps fin = (ps, subst (λ z. Finishes hold fail sh n ts z ps) (sym e) fin)
  from_opening (suc j) x ((y, reached, (t, at, (p, allowed, e))), alive) ps fin =
      let s = reached_shaped hold fail sh n ts j y reached in
      let is = sym (after_is y p) ∙ e in
      let place_there : IsPlaceOf (length y.counts) p = subst (λ k. IsPlaceOf k p) (sym s.long) (allowed_there hold fail sh n t p allowed) in
      from_opening j y reached (p ∷ ps) (finish_cons y.done y.counts t p ps at place_there allowed (subst (λ z. Finishes hold fail sh n ts z ps) (sym is) fin))

  -- where a state is reached with all triples done, there are places with matching counts
  pub reached_have : IntervalHasCopies → BodyOk sh.occs sh.body → (x : State) → IsReachedAt hold fail sh n ts (length ts) x → HavePlaces hold fail sh n ts
  reached_have law body x reached =
      let s = reached_shaped hold fail sh n ts (length ts) x reached in
      let fin = end_spelled law body x s.long (let d = s.at in omega (arith, d)) (reached_lives hold fail sh n ts (length ts) x reached) in
      let (qs, (all, spelled)) = from_opening (length ts) x reached [] fin in
      (qs, all, counts_agree sh.body (λ i. slice_index (opening sh).counts i + times qs i) (times qs) (λ i. let z = opening_at sh i in omega (arith, z)) spelled)
