-- From the states with so many triples done to those with one more.
use Rattle.std.proofs.Common.{◌≡◌, ℕ, zero, suc, ◌+◌, ◌^◌, ◌<◌, ◌≤◌, inl, inr, length, get_or, drop, List, [], ◌∷◌, replicate, refl, arith, ap, sym, subst, ◌∙◌, slice_index, add-one, Bool, true, false, cond, true≢false}
use Rattle.std.proofs.lemmas.List.{get_or_past, get_or-set_other, get_or-set_same, length-map, length-set}
use Rattle.std.proofs.lemmas.Bool.{cases_eq, cases_lt}
use Rattle.std.proofs.lemmas.Option.{slice_get-get_or}
use Rattle.std.specs.Prelude.{Contains, IsTrue, Option, Some, None, ◌↔◌, slice_get}
use Rattle.rdf_terms.specs.declared.terms.TermId.{TermId}
use Rattle.rdf_terms.specs.declared.terms.Triple.{Triple}
use Rattle.schema_tree.specs.declared.schema.ExprId.{ExprId}
use Rattle.schema_tree.specs.declared.schema.Occurrence.{Occurrence}
use Rattle.schema_tree.specs.declared.schema.Shape.{Shape}
use Rattle.schema_tree.specs.declared.verdicts.Place.{Place}
use Rattle.schema_tree.specs.declared.verdicts.Place.TheVariants.{At, Rest}
use Rattle.schema_tree.specs.declared.verdicts.State.{State}
use Rattle.schema_tree.specs.Matches.{fits}
use Rattle.schema_tree.specs.Places.{IsAllowed}
use Rattle.schema_tree.specs.States.{IsDead, after, count_fits, fitting, no_counts, opening}
use Rattle.schema_tree.proofs.Closed.{zeros}
use Rattle.lists.proofs.Members.{in_one, is_first, not_in_none}
use Rattle.bag_match.specs.Counts.{AreLeft, ArePlacesOf, HasCounts, IsRaised, raised, state_of}
use Rattle.bag_match.specs.Layers.{AreLiving, IsLayer}
use Rattle.bag_match.specs.Least.{AreOffered, ArePlacesFor}
use Rattle.bag_match.specs.Reached.{IsReachedAt}
use Rattle.bag_match.specs.Sets.{AreSmall}
use Rattle.bag_match.proofs.Offered.{allowed_there}

-- ---- counts

pub fits_most : (o : Occurrence) (n : TermId) (ts : List Triple) → count_fits o n ts ≤ length ts
fits_most o n [] = omega arith
fits_most o n (t ∷ ts) = go (fits o n t) (fits_most o n ts)
  where
    go : (b : Bool) → count_fits o n ts ≤ length ts → cond b (suc (count_fits o n ts)) (count_fits o n ts) ≤ suc (length ts)
    go true le = omega (arith, le)
    go false le = omega (arith, le)

-- no occurrence has more later triples than there are
pub left_few : (occs : List Occurrence) (n : TermId) (later : List Triple) (left : List ℕ) → AreLeft occs n later left → (i : ℕ) → slice_index left i ≤ length later
left_few occs n later left (len, each) i = elim (cases_lt i (length occs)) [
  | inl lt ↦ subst (λ k. k ≤ length later) (sym (each i lt)) (few (slice_get occs i))
  | inr ge ↦ let none : slice_index left i ≡ 0 = get_or_past left i 0 (omega (arith, len, ge)) in omega (arith, none)
]
  where
    few : (o : Option Occurrence) → fitting n later o ≤ length later
    few None = omega arith
    few (Some o) = fits_most o n later

pub drop_few : {X : Type 0} (i : ℕ) (xs : List X) → length (drop i xs) ≤ length xs
drop_few zero xs = omega arith
drop_few (suc i) [] = omega arith
drop_few (suc i) (x ∷ xs) = let le = drop_few i xs in omega (arith, le)

pub raised_long : (counts : List ℕ) (p : Place) → length (raised counts p) ≡ length counts
raised_long counts (At i) = length-set counts i (suc (slice_index counts i))
raised_long counts Rest = refl

pub raised_most : (counts : List ℕ) (p : Place) (j : ℕ) → ((i : ℕ) → slice_index counts i ≤ j) → (i : ℕ) → slice_index (raised counts p) i ≤ suc j
raised_most counts Rest j most i = let h = most i in omega (arith, h)
raised_most counts (At k) j most i = elim (cases_eq i k) [
  | inl same ↦ elim (cases_lt k (length counts)) [
    | inl lt ↦
        let at : slice_index (raised counts (At k)) i ≡ suc (slice_index counts k) = ap (λ z. slice_index (raised counts (At k)) z) same ∙ get_or-set_same counts k (suc (slice_index counts k)) 0 lt in
        let h = most k in omega (arith, at, h)
    | inr ge ↦
        let long = length-set counts k (suc (slice_index counts k)) in
        let at : slice_index (raised counts (At k)) i ≡ 0 = get_or_past (raised counts (At k)) i 0 (omega (arith, long, same, ge)) in
        omega (arith, at)
  ]
  | inr other ↦
      let at : slice_index (raised counts (At k)) i ≡ slice_index counts i = get_or-set_other counts k i (suc (slice_index counts k)) 0 other in
      let h = most i in omega (arith, at, h)
]

pub opening_at : (sh : Shape) (i : ℕ) → slice_index ((opening sh).counts) i ≡ 0
opening_at sh i = zeros sh.occs i

zero_counts : (occs : List Occurrence) → replicate (length occs) 0 ≡ no_counts occs
zero_counts [] = refl
zero_counts (o ∷ occs) = ap (λ z. 0 ∷ z) (zero_counts occs)

-- the opening state, from zeros
pub opening_is : (sh : Shape) (counts : List ℕ) → counts ≡ replicate (length sh.occs) 0 → opening sh ≡ state_of 0 counts
opening_is sh counts is = ap (λ z. state_of 0 z) (sym (is ∙ zero_counts sh.occs))

-- ---- states

pub some_one : (a b : Triple) → Some a ≡ Some b → a ≡ b
some_one a b e = cc

-- the state after a place
pub after_is : (x : State) (p : Place) → after p x ≡ state_of (suc x.done) (raised x.counts p)
after_is x (At i) = refl
after_is x Rest = refl

module _ (hold fail : TermId → Option ExprId → Type 0) (sh : Shape) (n : TermId) (ts : List Triple) where
  -- what a state that is reached keeps
  pub record IsShaped (j : ℕ) (x : State) : Type 0 where
    pub long : length x.counts ≡ length sh.occs
    pub at : x.done ≡ j
    pub most : (i : ℕ) → slice_index x.counts i ≤ j

  pub reached_shaped : (j : ℕ) (x : State) → IsReachedAt hold fail sh n ts j x → IsShaped j x
  reached_shaped zero x (e, alive) = subst (λ z. IsShaped 0 z) e (record {
    long = length-map sh.occs (λ o. 0);
    at = refl;
    most = λ i. let z = opening_at sh i in omega (arith, z);
  })
  reached_shaped (suc j) x ((y, reached, (t, at, (p, allowed, e))), alive) =
      let h = reached_shaped j y reached in
      subst (λ z. IsShaped (suc j) z) (sym (after_is y p) ∙ e) (record {
        long = raised_long y.counts p ∙ h.long;
        at = ap suc h.at;
        most = raised_most y.counts p j h.most;
      })

  pub reached_lives : (j : ℕ) (x : State) → IsReachedAt hold fail sh n ts j x → ¬ IsDead sh n ts x
  reached_lives zero x h = h.1
  reached_lives (suc j) x h = h.1

  -- ---- the first layer

  pub first_alive : (counts : List ℕ) → counts ≡ replicate (length sh.occs) 0 → ¬ IsDead sh n ts (state_of 0 counts) → IsLayer hold fail sh n ts 0 (state_of 0 counts ∷ [])
  first_alive counts is alive =
      let open_is = opening_is sh counts is in
      record {
        rising = (tt, tt);
        same = λ x. (
          (λ c. let e = in_one (state_of 0 counts) x c in (open_is ∙ e, subst (λ z. ¬ IsDead sh n ts z) e alive)),
          (λ (e, h). subst (λ z. Contains (state_of 0 counts ∷ []) z) (sym open_is ∙ e) (is_first (state_of 0 counts) [])),
        );
      }

  pub first_dead : (counts : List ℕ) → counts ≡ replicate (length sh.occs) 0 → IsDead sh n ts (state_of 0 counts) → IsLayer hold fail sh n ts 0 []
  first_dead counts is dead =
      let open_is = opening_is sh counts is in
      record {
        rising = tt;
        same = λ x. ((λ c. absurd (not_in_none x c)), λ (e, h). absurd (h (subst (λ z. IsDead sh n ts z) (sym open_is ∙ e) dead)));
      }

  module _ (counts now : List ℕ) (r : Bool) (zero_is : counts ≡ replicate (length sh.occs) 0) (now_is : now ≡ counts) (told : IsTrue r ↔ IsDead sh n ts (state_of 0 now)) where
    pub first_alive_of : (own : List ℕ) (states : List State) → r ≡ false → own ≡ counts → states ≡ state_of 0 own ∷ [] → IsLayer hold fail sh n ts 0 states
    first_alive_of own states lives own_is is =
        subst (λ z. IsLayer hold fail sh n ts 0 z) (sym (is ∙ ap (λ z. state_of 0 z ∷ []) own_is))
        (first_alive counts zero_is (λ dead. true≢false (sym (told.1 (subst (λ z. IsDead sh n ts (state_of 0 z)) (sym now_is) dead)) ∙ lives)))

    pub first_dead_of : (states : List State) → r ≡ true → states ≡ [] → IsLayer hold fail sh n ts 0 states
    first_dead_of states dies is =
        subst (λ z. IsLayer hold fail sh n ts 0 z) (sym is) (first_dead counts zero_is (subst (λ z. IsDead sh n ts (state_of 0 z)) now_is (told.0 dies)))

  -- ---- the next layer

  pub layer_counts : (j : ℕ) (layer : List State) → j ≤ length ts → length ts < 2 ^ 31 → IsLayer hold fail sh n ts j layer →
      (x : State) → Contains layer x → HasCounts (length sh.occs) x
  layer_counts j layer within few layer_is x c =
      let h = reached_shaped j x ((layer_is.same x).0 c) in
      (h.long, λ i. let m = h.most i in omega (arith, m, within, few))

  pub places_there : (t : Triple) (places : List Place) → ArePlacesFor hold fail sh n t places → ArePlacesOf (length sh.occs) places
  places_there t places h p c = allowed_there hold fail sh n t p ((h.same p).0 c)

  -- the places of a triple, which is read
  pub places_now : (j : ℕ) (places : List Place) → j < length ts → ((t : Triple) → slice_get ts j ≡ Some t → ArePlacesFor hold fail sh n t places) →
      (d : Triple) × ArePlacesFor hold fail sh n (get_or ts j d) places
  places_now j places within are = go ts refl
    where
      go : (us : List Triple) → ts ≡ us → (d : Triple) × ArePlacesFor hold fail sh n (get_or ts j d) places
      go [] none = absurd (let e : length ts ≡ 0 = ap (λ z. length z) none in omega (arith, e, within))
      go (d ∷ us) is = (d, are (get_or ts j d) (slice_get-get_or ts j d within))

  pub offered_at : (lists : List (List Place)) → AreOffered hold fail sh n ts (length ts) lists → (j : ℕ) (places : List Place) → j < length ts → slice_get lists j ≡ Some places →
      (d : Triple) × ArePlacesFor hold fail sh n (get_or ts j d) places
  offered_at lists h j places within at = places_now j places within (λ t e. h.each j t places e at)

  module _ (j : ℕ) (d : Triple) (layer : List State) (places : List Place) (cs : List (List ℕ)) (within : j < length ts) (few : length ts < 2 ^ 31)
      (layer_is : IsLayer hold fail sh n ts j layer) (places_are : ArePlacesFor hold fail sh n (get_or ts j d) places)
      (found : (c : List ℕ) → Contains cs c ↔ ((x : State) × Contains layer x × IsRaised x.counts places c)) where
    pub found_small : (left : List ℕ) → AreLeft sh.occs n (drop (j + 1) ts) left → AreSmall (length sh.occs) left cs
    found_small left held c h =
        let (y, at, (p, offered, e)) = (found c).0 h in
        let s = reached_shaped j y ((layer_is.same y).0 at) in (
          sym (ap (λ z. length z) e) ∙ raised_long y.counts p ∙ s.long,
          λ i.
              let a : slice_index c i ≤ suc j = subst (λ z. slice_index z i ≤ suc j) e (raised_most y.counts p j s.most i) in
              let b = left_few sh.occs n (drop (j + 1) ts) left held i in
              let f = drop_few (j + 1) ts in
              omega (arith, a, b, f, within, few),
        )

    pub next_layer : (states : List State) → AreLiving sh n ts (j + 1) cs states → IsLayer hold fail sh n ts (j + 1) states
    next_layer states living = record {
      rising = living.rising;
      same = λ x. subst (λ k. Contains states x ↔ IsReachedAt hold fail sh n ts k x) (sym (add-one j)) (there x, back x);
    }
      where
        there : (x : State) → Contains states x → IsReachedAt hold fail sh n ts (suc j) x
        there x c =
            let (d_is, held, alive) = (living.same x).0 c in
            let (y, at, (p, offered, e)) = (found x.counts).0 held in
            let reached = (layer_is.same y).0 at in
            let y_done = (reached_shaped j y reached).at in
            let whole : after p y ≡ x = after_is y p ∙ (λ i. state_of ((let k : suc y.done ≡ x.done = omega (arith, d_is, y_done) in k) i) (e i)) in (
              (y, reached, (get_or ts j d, (ap (λ k. slice_get ts k) y_done ∙ slice_get-get_or ts j d within), (p, (places_are.same p).0 offered, whole))),
              alive,
            )

        back : (x : State) → IsReachedAt hold fail sh n ts (suc j) x → Contains states x
        back x ((y, reached, (t, at, (p, allowed, e))), alive) =
            let y_done = (reached_shaped j y reached).at in
            let t_is : get_or ts j d ≡ t = some_one (get_or ts j d) t (sym (ap (λ k. slice_get ts k) y_done ∙ slice_get-get_or ts j d within) ∙ at) in
            let here = sym (after_is y p) ∙ e in
            (living.same x).1 (
              sym (ap (λ z. z.done) here) ∙ (let k : suc y.done ≡ j + 1 = omega (arith, y_done) in k),
              (found x.counts).1 (y, (layer_is.same y).1 reached, (p, (places_are.same p).1 (subst (λ u. IsAllowed hold fail sh n u p) (sym t_is) allowed), ap (λ z. z.counts) here)),
              alive,
            )

  pub next_of_none : (j : ℕ) → IsLayer hold fail sh n ts j [] → IsLayer hold fail sh n ts (j + 1) []
  next_of_none j h = record {
    rising = tt;
    same = λ x. subst (λ k. Contains [] x ↔ IsReachedAt hold fail sh n ts k x) (sym (add-one j))
        ((λ c. absurd (not_in_none x c)), λ r. let (y, reached, more) = r.0 in absurd (not_in_none y ((h.same y).1 reached)));
  }
