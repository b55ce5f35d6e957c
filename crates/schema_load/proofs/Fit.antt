-- The plan of an unfolded triple expression has the number of each of its occurrences once.
use Rattle.std.proofs.Common.{◌≡◌, ℕ, ◌+◌, ◌<◌, ◌≤◌, List, ◌∷◌, refl, sym, subst, arith, length, Bool, true, false, inl, inr, ◌⊎◌}
use Rattle.std.specs.Prelude.{◌||◌, if◌then◌else◌}
use Rattle.std.proofs.lemmas.Bool.{cases_lt, eq-eqb, eqb-true}
use Rattle.std.proofs.lemmas.List.{length-append}
use Rattle.rdf_terms.specs.declared.terms.Term.{Term}
use Rattle.tally.specs.declared.Bound.{Bound}
use Rattle.tally.specs.Plan.{Plan, Plans, each, is_once, many, more_plans, no_plans, one, sym as symbol}
use Rattle.tally.specs.Symbols.{AreDistinct, IsDistinct, has_symbol, some_has}
use Rattle.tally.specs.Span.{AreSound, IsOrdered, IsSound}
use Rattle.schema_tree.specs.declared.schema.ExprId.{ExprId}
use Rattle.schema_tree.specs.declared.schema.Occurrence.{Occurrence}
use Rattle.schema_load.specs.declared.part.Part.{Part}
use Rattle.schema_load.specs.Parts.{AreOrdered}
use Rattle.schema_load.specs.Requirements.{HasOccurrences, HaveOccurrences, of_arc, of_each, of_include, of_more, of_none, of_one}
use Rattle.schema_load.specs.Stands.{UnfoldAll, Unfolds, arc, each_of, included, more, none, one_of, times}

-- the symbols of the plan are those from k on, n of them, each once; no minimum is above its bound
pub record IsFit (k n : ℕ) (plan : Plan) : Type 0 where
  pub range : (i : ℕ) → has_symbol i plan ≡ true → (k ≤ i) × (i < k + n)
  pub has : (i : ℕ) → k ≤ i → i < k + n → has_symbol i plan ≡ true
  pub distinct : IsDistinct plan
  pub sound : IsSound plan

pub record AreFit (k n : ℕ) (plans : Plans) : Type 0 where
  pub range : (i : ℕ) → some_has i plans ≡ true → (k ≤ i) × (i < k + n)
  pub has : (i : ℕ) → k ≤ i → i < k + n → some_has i plans ≡ true
  pub distinct : AreDistinct plans
  pub sound : AreSound plans

fit_symbol : (k : ℕ) → IsFit k 1 (symbol k)
unfolding IsDistinct IsSound
fit_symbol k = record {
  range = λ i h. (let e : k ≡ i = eqb-true k i h in (omega arith, omega arith));
  has = λ i low high. eq-eqb k i (omega arith);
  distinct = tt;
  sound = tt;
}

fit_many : (k n min : ℕ) (max : Bound) (plan : Plan) → IsOrdered min max → IsFit k n plan → IsFit k n (many min max plan)
unfolding IsDistinct IsSound
fit_many k n min max plan ordered fit = record { range = fit.range; has = fit.has; distinct = fit.distinct; sound = (ordered, fit.sound) }

fit_times : (k n min : ℕ) (max : Bound) (plan : Plan) → IsOrdered min max → IsFit k n plan → IsFit k n (times min max plan)
fit_times k n min max plan ordered fit = go (is_once min max)
  where
    go : (b : Bool) → IsFit k n (if b then plan else many min max plan)
    go true = fit
    go false = fit_many k n min max plan ordered fit

fit_each : (k n : ℕ) (plans : Plans) → AreFit k n plans → IsFit k n (each plans)
unfolding IsDistinct IsSound
fit_each k n plans fit = record { range = fit.range; has = fit.has; distinct = fit.distinct; sound = fit.sound }

fit_one : (k n : ℕ) (plans : Plans) → AreFit k n plans → IsFit k n (one plans)
unfolding IsDistinct IsSound
fit_one k n plans fit = record { range = fit.range; has = fit.has; distinct = fit.distinct; sound = fit.sound }

fit_none : (k : ℕ) → AreFit k 0 no_plans
unfolding IsDistinct IsSound
fit_none k = record { range = λ i h. absurd (let bad : ⊥ = cc in bad); has = λ i low high. absurd (omega arith); distinct = tt; sound = tt }

or_left : (a b : Bool) → a ≡ true → a || b ≡ true
or_left true b e = refl
or_left false b e = absurd (let bad : ⊥ = cc in bad)

or_right : (a b : Bool) → b ≡ true → a || b ≡ true
or_right true b e = refl
or_right false b e = e

or_cases : (a b : Bool) → a || b ≡ true → (a ≡ true) ⊎ (b ≡ true)
or_cases true b e = inl refl
or_cases false b e = inr e

not_true : (b : Bool) → ¬ (b ≡ true) → b ≡ false
not_true true apart = absurd (apart refl)
not_true false apart = refl

fit_more : (k m n : ℕ) (plan : Plan) (plans : Plans) → IsFit k m plan → AreFit (k + m) n plans → AreFit k (m + n) (more_plans plan plans)
unfolding IsDistinct IsSound
fit_more k m n plan plans fit fits = record {
  range = λ i h. elim (or_cases (has_symbol i plan) (some_has i plans) h) [
    | inl first ↦ (let r = fit.range i first in let low = r.0 in let high = r.1 in (omega arith, omega arith))
    | inr later ↦ (let r = fits.range i later in let low = r.0 in let high = r.1 in (omega arith, omega arith))
  ];
  has = λ i low high. elim (cases_lt i (k + m)) [
    | inl lt ↦ or_left (has_symbol i plan) (some_has i plans) (fit.has i low lt)
    | inr ge ↦ or_right (has_symbol i plan) (some_has i plans) (fits.has i (omega arith) (omega arith))
  ];
  distinct = (
    fit.distinct,
    fits.distinct,
    λ i h. not_true (some_has i plans) (λ later. (let high = (fit.range i h).1 in let low = (fits.range i later).0 in absurd (omega arith))),
  );
  sound = (fit.sound, fits.sound);
}

module _ (terms : List Term) (parts : List Part) (number : ℕ → ExprId) (ordered : AreOrdered parts) where
  mutual
    pub unfolding_fits : (p k : ℕ) (plan : Plan) (occs : List Occurrence) → Unfolds terms parts number p k plan occs → IsFit k (length occs) plan
    unfolding_fits p k _ _ (arc {t = t} at form oc) = fit_times k 1 t.min t.max (symbol k) (ordered p t at) (fit_symbol k)
    unfolding_fits p k _ occs (each_of {t = t} {ps = ps} {plans = us} at form all) = fit_times k (length occs) t.min t.max (each us) (ordered p t at)
        (fit_each k (length occs) us (unfoldings_fit ps k us occs all))
    unfolding_fits p k _ occs (one_of {t = t} {ps = ps} {plans = us} at form all) = fit_times k (length occs) t.min t.max (one us) (ordered p t at)
        (fit_one k (length occs) us (unfoldings_fit ps k us occs all))
    unfolding_fits p k _ occs (included {q = q} {t = t} {plan = u} at form named rest) = fit_times k (length occs) t.min t.max u (ordered p t at) (unfolding_fits q k u occs rest)

    unfoldings_fit : (ps : List ℕ) (k : ℕ) (plans : Plans) (occs : List Occurrence) → UnfoldAll terms parts number ps k plans occs → AreFit k (length occs) plans
    unfoldings_fit _ k _ _ none = fit_none k
    unfoldings_fit _ k _ _ (more {p = p} {ps = ps} {plan = u} {plans = us} {occs = i} {rest = j} first rest) =
        subst (λ n. AreFit k n (more_plans u us)) (sym (length-append i j)) (fit_more k (length i) (length j) u us (unfolding_fits p k u i first) (unfoldings_fit ps (k + length i) us j rest))

-- so many occurrences are counted
module _ (terms : List Term) (parts : List Part) (number : ℕ → ExprId) where
  mutual
    pub counted : (p k : ℕ) (plan : Plan) (occs : List Occurrence) → Unfolds terms parts number p k plan occs → HasOccurrences parts p (length occs)
    counted p k _ _ (arc at form oc) = of_arc at form
    counted p k _ occs (each_of {ps = ps} {plans = us} at form all) = of_each at form (all_counted ps k us occs all)
    counted p k _ occs (one_of {ps = ps} {plans = us} at form all) = of_one at form (all_counted ps k us occs all)
    counted p k _ occs (included {q = q} {plan = u} at form named rest) = of_include at form named (counted q k u occs rest)

    all_counted : (ps : List ℕ) (k : ℕ) (plans : Plans) (occs : List Occurrence) → UnfoldAll terms parts number ps k plans occs → HaveOccurrences parts ps (length occs)
    all_counted _ k _ _ none = of_none
    all_counted _ k _ _ (more {p = p} {ps = ps} {plan = u} {plans = us} {occs = i} {rest = j} first rest) =
        subst (λ n. HaveOccurrences parts (p ∷ ps) n) (sym (length-append i j)) (of_more (counted p k u i first) (all_counted ps (k + length i) us j rest))
