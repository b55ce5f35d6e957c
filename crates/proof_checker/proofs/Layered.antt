-- States in their order, a layer after another: those with so many triples done.
use Rattle.std.proofs.Common.{◌≡◌, ℕ, zero, suc, ◌+◌, ◌<◌, ◌≤◌, ◌⊎◌, inl, inr, length, get_or, take, drop, List, [], ◌∷◌, arith, ap, sym, subst, ◌∙◌, Bool, true}
use Rattle.std.proofs.lemmas.Bool.{cases_lt}
use Rattle.std.specs.Prelude.{Contains, Option}
use Rattle.rdf_terms.specs.declared.terms.TermId.{TermId}
use Rattle.rdf_terms.specs.declared.terms.Triple.{Triple}
use Rattle.schema_tree.specs.declared.schema.ExprId.{ExprId}
use Rattle.schema_tree.specs.declared.schema.Shape.{Shape}
use Rattle.schema_tree.specs.declared.verdicts.State.{State}
use Rattle.schema_tree.specs.Rising.{Rises, RisesFrom}
use Rattle.schema_tree.specs.States.{IsStateBefore}
use Rattle.lists.proofs.Fronts.{behind_front, front_or_behind, in_front}
use Rattle.schema_tree.proofs.Rising.{behind_rise, later_rise}
use Rattle.lists.proofs.Members.{in_rest, is_first, is_later, not_in_none}
use Rattle.bag_match.specs.Counts.{AreLeft}
use Rattle.proof_checker.specs.Stated.{AreShaped, DecideSettled, IsLayer, IsSettled, IsShapedAt}

-- ---- states that rise

before_done : (a b : State) → IsStateBefore a b → a.done ≤ b.done
before_done a b (inl lt) = omega (arith, lt)
before_done a b (inr (same, less)) = omega (arith, same)

-- no state has fewer triples done than the first
first_done : (x : State) (xs : List State) → RisesFrom IsStateBefore x xs → (y : State) → Contains xs y → x.done ≤ y.done
first_done x [] h y c = absurd (not_in_none y c)
first_done x (z ∷ zs) (before, rest) y c =
    let le = before_done x z before in
    elim (in_rest z zs y c) [
      | inl same ↦ subst (λ w. x.done ≤ w.done) same le
      | inr later ↦ let more = first_done z zs rest y later in omega (arith, le, more)
    ]

-- behind the states with so many triples done are those with more
pub past_layer : (xs : List State) (k done : ℕ) (r : State) → Rises IsStateBefore xs → ((x : State) → Contains xs x → done ≤ x.done) →
    k < length xs → r ≡ get_or xs k r → (¬ (r.done ≡ done)) → (x : State) → Contains (drop k xs) x → done < x.done
past_layer [] k done r rises from within is stops x c = absurd (omega (arith, within))
past_layer (y ∷ ys) zero done r rises from within is stops x c =
    let le = from y (is_first y ys) in
    let lt : done < y.done = elim (cases_lt done y.done) [
      | inl less ↦ less
      | inr ge ↦ absurd (stops (ap (λ z. z.done) is ∙ (let same : y.done ≡ done = omega (arith, le, ge) in same)))
    ] in
    elim (in_rest y ys x c) [
      | inl same ↦ subst (λ w. done < w.done) same lt
      | inr later ↦ let more = first_done y ys rises x later in omega (arith, lt, more)
    ]
past_layer (y ∷ ys) (suc k) done r rises from within is stops x c =
    past_layer ys k done r (later_rise IsStateBefore y ys rises) (λ z h. from z (is_later y ys z h)) (omega (arith, within)) is stops x c

-- so many states at the front have so many triples done, and those behind them more
pub record IsFront (xs : List State) (done size : ℕ) : Type 0 where
  pub within : size ≤ length xs
  pub layer : (x : State) → Contains (take size xs) x → x.done ≡ done
  pub later : (x : State) → Contains (drop size xs) x → done < x.done

front_from : (x : State) (xs : List State) (k : ℕ) → RisesFrom IsStateBefore x xs → RisesFrom IsStateBefore x (take k xs)
front_from x xs zero h = tt
front_from x [] (suc k) h = tt
front_from x (y ∷ ys) (suc k) (before, rest) = (before, front_from y ys k rest)

front_rise : (xs : List State) (k : ℕ) → Rises IsStateBefore xs → Rises IsStateBefore (take k xs)
front_rise xs zero h = tt
front_rise [] (suc k) h = tt
front_rise (x ∷ xs) (suc k) h = front_from x xs k h

-- ---- the states that are settled so far

module _ (hold fail : TermId → Option ExprId → Type 0) (sh : Shape) (n : TermId) (ts : List Triple) (states : List State) where
  -- each state is settled, or is one of the rest, which have so many triples done and more
  pub record AreSettledBefore (done : ℕ) (rest : List State) : Type 0 where
    pub rising : Rises IsStateBefore rest
    pub from : (x : State) → Contains rest x → done ≤ x.done
    pub held : (x : State) → Contains rest x → Contains states x
    pub later : (x : State) → Contains states x → done ≤ x.done → Contains rest x
    pub settled : (x : State) → Contains states x → Contains rest x ⊎ IsSettled hold fail sh n ts states x

  module _ (done : ℕ) (rest : List State) (before : AreSettledBefore done rest) where
    -- those of the next layer have so many triples done
    pub layer_shaped : AreShaped sh ts states → (layer : List State) (k : ℕ) → layer ≡ take k rest → ((x : State) → Contains (take k rest) x → x.done ≡ done) →
        (x : State) → Contains layer x → IsShapedAt sh ts done x
    layer_shaped shaped layer k is at x h =
        let there : Contains (take k rest) x = subst (λ xs. Contains xs x) is h in
        (at x there, shaped x (before.held x (in_front rest k x there)))

    -- behind a layer stand the states with one more triple done and more
    module _ (k : ℕ) (front : IsFront rest done k) where
      from_next : (x : State) → Contains (drop k rest) x → done + 1 ≤ x.done
      from_next x h = let lt = front.later x h in omega (arith, lt)

      all_behind : (x : State) → Contains states x → done + 1 ≤ x.done → Contains (drop k rest) x
      all_behind x h le = elim (front_or_behind rest k x (before.later x h (omega (arith, le)))) [
        | inl here ↦ absurd (let same = front.layer x here in omega (arith, same, le))
        | inr there ↦ there
      ]

      pub later_rising : (later : List State) → later ≡ drop k rest → Rises IsStateBefore later
      later_rising later behind = subst (Rises IsStateBefore) (sym behind) (behind_rise IsStateBefore rest k before.rising)

      pub later_from : (later : List State) → later ≡ drop k rest → (x : State) → Contains later x → done + 1 ≤ x.done
      later_from later behind x h = from_next x (subst (λ xs. Contains xs x) behind h)

      -- those at their front are the layer behind it
      pub next_layer : (later : List State) (size : ℕ) (left : List ℕ) → later ≡ drop k rest → IsFront later (done + 1) size →
          AreLeft sh.occs n (drop (done + 1) ts) left → IsLayer sh n ts states (done + 1) (take size later) left
      next_layer later size left behind ahead are = record {
        rising = front_rise later size (later_rising later behind);
        same = λ x at. (λ h. held x (in_front later size x h), λ h. found x at h);
        left = are;
      }
        where
          held : (x : State) → Contains later x → Contains states x
          held x h = before.held x (behind_front rest k x (subst (λ xs. Contains xs x) behind h))

          found : (x : State) → x.done ≡ done + 1 → Contains states x → Contains (take size later) x
          found x at h = elim (front_or_behind later size x (subst (λ xs. Contains xs x) (sym behind) (all_behind x h (omega (arith, at))))) [
            | inl here ↦ here
            | inr there ↦ absurd (let lt = ahead.later x there in omega (arith, lt, at))
          ]

    -- a layer that is settled leaves those behind it
    pub layer_settled : (layer later : List State) (k : ℕ) (b : Bool) → layer ≡ take k rest → later ≡ drop k rest →
        IsFront rest done k → DecideSettled hold fail sh n ts states layer b → b ≡ true → AreSettledBefore (done + 1) later
    layer_settled layer later k b is behind front decided so = subst (λ xs. AreSettledBefore (done + 1) xs) (sym behind) (record {
      rising = behind_rise IsStateBefore rest k before.rising;
      from = from_next k front;
      held = λ x h. before.held x (behind_front rest k x h);
      later = all_behind k front;
      settled = λ x h. each x (before.settled x h);
    })
      where
        each : (x : State) → Contains rest x ⊎ IsSettled hold fail sh n ts states x → Contains (drop k rest) x ⊎ IsSettled hold fail sh n ts states x
        each x (inr settled) = inr settled
        each x (inl held) = elim (front_or_behind rest k x held) [
          | inl front ↦ inr (decided.settled so x (subst (λ xs. Contains xs x) (sym is) front))
          | inr later ↦ inl later
        ]

  -- what is left has all triples done
  pub last_shaped : (done : ℕ) (rest : List State) → length ts ≤ done → AreSettledBefore done rest → AreShaped sh ts states →
      (x : State) → Contains rest x → IsShapedAt sh ts (length ts) x
  last_shaped done rest past before shaped x h =
      let (long, most, small) = shaped x (before.held x h) in
      let le = before.from x h in
      (omega (arith, past, le, most), (long, most, small))

  -- the rest decides
  pub rest_decides : (done : ℕ) (rest : List State) (b : Bool) → AreSettledBefore done rest → DecideSettled hold fail sh n ts states rest b →
      DecideSettled hold fail sh n ts states states b
  rest_decides done rest b before decided = record {
    settled = λ so x h. elim (before.settled x h) [ inl left ↦ decided.settled so x left | inr settled ↦ settled ];
    unsettled = λ e. let (x, h, open_still) = decided.unsettled e in (x, before.held x h, open_still);
  }
