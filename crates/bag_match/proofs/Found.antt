-- The layers one behind the other, and what their states show where none has all triples done.
use Rattle.std.proofs.Common.{◌≡◌, ℕ, zero, suc, ◌+◌, ◌<◌, ◌≤◌, ◌⊎◌, inl, inr, length, get_or, List, [], ◌∷◌, refl, arith, ap, sym, subst}
use Rattle.std.proofs.lemmas.Bool.{cases_lt}
use Rattle.std.proofs.lemmas.List.Elements.{Contains-append_cases, Contains-append_left, Contains-append_right}
use Rattle.std.proofs.lemmas.Option.{slice_get-get_or, slice_get_within}
use Rattle.std.specs.Prelude.{Contains, Option, Some, slice_get, slice_index}
use Rattle.std.specs.List.{flat_map}
use Rattle.rdf_terms.specs.declared.terms.TermId.{TermId}
use Rattle.rdf_terms.specs.declared.terms.Triple.{Triple}
use Rattle.schema_tree.specs.declared.schema.ExprId.{ExprId}
use Rattle.schema_tree.specs.declared.schema.Shape.{Shape}
use Rattle.schema_tree.specs.declared.verdicts.State.{State}
use Rattle.schema_tree.specs.Places.{IsShut}
use Rattle.schema_tree.specs.States.{AreClosed, IsCovered, after, opening, IsStateBefore}
use Rattle.schema_tree.proofs.Closed.{decide_dead, states_refute}
use Rattle.lists.proofs.Members.{not_in_none}
use Rattle.bag_match.specs.Layers.{AreLayers, IsLayer}
use Rattle.bag_match.specs.Outcomes.{AreListed}
use Rattle.schema_tree.specs.Rising.{AreRising}
use Rattle.bag_match.specs.Reached.{AreReached, IsReachedAt}
use Rattle.bag_match.proofs.Rising.{rising_append}
use Rattle.bag_match.proofs.Stepping.{after_is, reached_shaped}

abbrev pub flat : List (List State) → List State
flat layers = flat_map (λ xs. xs) layers

in_flat : (layers : List (List State)) (x : State) → Contains (flat layers) x → (k : ℕ) × (xs : List State) × (slice_get layers k ≡ Some xs) × Contains xs x
in_flat [] x c = absurd (not_in_none x c)
in_flat (xs ∷ rest) x c = go (λ later. in_flat rest x later) (Contains-append_cases xs (flat rest) x c)
  where
    go : (Contains (flat rest) x → (k : ℕ) × (ys : List State) × (slice_get rest k ≡ Some ys) × Contains ys x) → Contains xs x ⊎ Contains (flat rest) x →
        (k : ℕ) × (ys : List State) × (slice_get (xs ∷ rest) k ≡ Some ys) × Contains ys x
    go deeper (inl own) = (0, xs, refl, own)
    go deeper (inr later) = let (k, ys, e, h) = deeper later in (suc k, ys, e, h)

flat_has : (layers : List (List State)) (k : ℕ) (xs : List State) (x : State) → slice_get layers k ≡ Some xs → Contains xs x → Contains (flat layers) x
flat_has [] k xs x e c = absurd (let bad : ⊥ = cc in bad)
flat_has (ys ∷ rest) zero xs x e c = let same : ys ≡ xs = cc in Contains-append_left ys (flat rest) x (subst (λ z. Contains z x) (sym same) c)
flat_has (ys ∷ rest) (suc k) xs x e c = Contains-append_right ys (flat rest) x (flat_has rest k xs x e c)

module _ (hold fail : TermId → Option ExprId → Type 0) (sh : Shape) (n : TermId) (ts : List Triple) where
  abbrev Reached : ℕ → State → Type 0
  Reached j x = IsReachedAt hold fail sh n ts j x

  abbrev Follow : ℕ → List (List State) → Type 0
  Follow j layers = (k : ℕ) (xs : List State) → slice_get layers k ≡ Some xs → IsLayer hold fail sh n ts (j + k) xs

  flat_rising : (j : ℕ) (layers : List (List State)) → Follow j layers → AreRising IsStateBefore (flat layers)
  flat_rising j [] h = tt
  flat_rising j (xs ∷ rest) h =
      rising_append IsStateBefore xs (flat rest) (h 0 xs refl).rising (flat_rising (suc j) rest later) between
    where
      later : Follow (suc j) rest
      later k ys e = subst (λ i. IsLayer hold fail sh n ts i ys) (let same : j + suc k ≡ suc j + k = omega arith in same) (h (suc k) ys e)

      between : (x y : State) → Contains xs x → Contains (flat rest) y → IsStateBefore x y
      between x y c d =
          let a = (reached_shaped hold fail sh n ts (j + 0) x (((h 0 xs refl).same x).0 c)).at in
          let (k, ys, e, held) = in_flat rest y d in
          let b = (reached_shaped hold fail sh n ts (suc j + k) y (((later k ys e).same y).0 held)).at in
          inl (omega (arith, a, b))

  -- a state that is reached has no more triples done than there are
  reached_within : (j : ℕ) (x : State) → Reached j x → j ≤ length ts
  reached_within zero x h = omega arith
  reached_within (suc j) x ((y, reached, (t, at, more)), alive) =
      let d = (reached_shaped hold fail sh n ts j y reached).at in
      let lt = slice_get_within ts y.done t at in
      omega (arith, d, lt)

  module _ (layers : List (List State)) (h : AreLayers hold fail sh n ts (length ts) layers) where
    follow : Follow 0 layers
    follow k xs e = subst (λ i. IsLayer hold fail sh n ts i xs) (let same : k ≡ 0 + k = omega arith in same) (h.each k xs e)

    pub joined_reached : (states : List State) → states ≡ flat layers → AreReached hold fail sh n ts states
    joined_reached states is = subst (λ z. AreReached hold fail sh n ts z) (sym is) (record {
      rising = flat_rising 0 layers follow;
      same = λ x. (
        (λ c.
            let (k, xs, e, held) = in_flat layers x c in
            let r = ((h.each k xs e).same x).0 held in
            subst (λ i. IsReachedAt hold fail sh n ts i x) (sym (reached_shaped hold fail sh n ts k x r).at) r),
        (λ r.
            let le = reached_within x.done x r in
            let within : x.done < length layers = (let c = h.count in omega (arith, le, c)) in
            let e = slice_get-get_or layers x.done [] within in
            flat_has layers x.done (get_or layers x.done []) x e (((h.each x.done (get_or layers x.done []) e).same x).1 r)),
      );
    })

  -- ---- what the states show

  module _ (states : List State) (reached : AreReached hold fail sh n ts states) (none : (x : State) → ¬ Reached (length ts) x) where
    held : (x : State) → Contains states x → Reached x.done x
    held x c = (reached.same x).0 c

    pub states_close : AreClosed hold fail sh n ts states
    states_close = record {
      shaped = λ x c. ((reached_shaped hold fail sh n ts x.done x (held x c)).long, reached_within x.done x (held x c));
      unfinished = λ x c alive. elim (cases_lt x.done (length ts)) [
        | inl lt ↦ lt
        | inr ge ↦
            let le = reached_within x.done x (held x c) in
            absurd (none x (subst (λ i. Reached i x) (let same : x.done ≡ length ts = omega (arith, le, ge) in same) (held x c)))
      ];
      steps = λ x c alive t at p allowed. elim (decide_dead hold fail sh n ts (after p x) sh.body) [
        | inl dead ↦ inr dead
        | inr lives ↦ inl ((reached.same (after p x)).1 (subst (λ i. Reached i (after p x)) (sym (ap (λ z. z.done) (after_is x p))) ((x, held x c, (t, at, (p, allowed, refl))), lives)))
      ];
    }

    pub states_few : (x : State) → Contains states x → (i : ℕ) → slice_index x.counts i ≤ length ts
    states_few x c i =
        let most = (reached_shaped hold fail sh n ts x.done x (held x c)).most i in
        let within = reached_within x.done x (held x c) in
        omega (arith, most, within)

    pub states_open : IsCovered sh n ts states (opening sh)
    states_open = elim (decide_dead hold fail sh n ts (opening sh) sh.body) [
      | inl dead ↦ inr dead
      | inr lives ↦ inl ((reached.same (opening sh)).1 (refl, lives))
    ]

    pub listed : (g : List Triple) → ¬ IsShut g sh n → AreListed hold fail g sh n ts states
    listed g open_to = record {
      refused = states_refute hold fail sh n ts g states states_close states_open;
      shut = λ is. absurd (open_to is);
      reached = λ is. reached;
      closed = λ is. states_close;
      counted = λ is. states_few;
      opened = λ is. states_open;
    }
