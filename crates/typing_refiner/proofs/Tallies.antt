-- Counts of places of which one changes.
use Rattle.std.proofs.Common.{◌≡◌, ◌≢◌, ◌∙◌, ℕ, zero, suc, ◌+◌, ◌^◌, ◌<◌, ◌≤◌, ◌⊎◌, inl, inr, List, [], ◌∷◌, ◌++◌, refl, sym, subst, ap, arith, length, Bool, true, false, cond, slice_index, replicate, get_or, take}
use Rattle.std.proofs.lemmas.Bool.{cases_eq, OnTrue_at}
use Rattle.std.specs.Bool.{OnTrue}
use Rattle.std.proofs.lemmas.List.{length-replicate, take_more}
use Rattle.std.proofs.lemmas.Option.{slice_get-get_or, slice_get_within}
use Rattle.std.specs.List.{position}
use Rattle.std.specs.Prelude.{Contains, IfSome, None, Option, Some, nat_eq, slice_get, slice_set}
use Rattle.lists.specs.Distinct.{AreDistinct}
use Rattle.graph_index.proofs.Held.{same_triple, triple_decides}
use Rattle.lists.proofs.Distinct.{found_item}
use Rattle.lists.proofs.Members.{got_in, in_rest, is_first, is_later, not_in_none}
use Rattle.removal_laws.proofs.Known.{set_here, set_other}
use Rattle.rdf_terms.specs.declared.terms.TermId.{TermId}
use Rattle.rdf_terms.specs.declared.terms.Triple.{Triple}
use Rattle.schema_tree.specs.declared.schema.ExprId.{ExprId}
use Rattle.schema_tree.specs.declared.schema.Shape.{Shape}
use Rattle.schema_tree.specs.declared.verdicts.Place.{Place}
use Rattle.schema_tree.specs.declared.verdicts.Place.TheVariants.{At, Rest}
use Rattle.schema_tree.specs.Places.{AreAllowed, IsAllowed, add_place, times}
use Rattle.bag_match.specs.Counts.{ArePlacesOf, IsPlaceOf, raised}
use Rattle.bag_match.specs.Least.{ArePlacesFor}
use Rattle.bag_match.proofs.Counting.{add_in_turn, add_least, times_most, zeros_alone}
use Rattle.bag_match.proofs.Offered.{allowed_there}
use Rattle.bag_match.proofs.Offers.{AreAdded, added_all, came_of, raised_at}
use Rattle.bag_match.proofs.Stepping.{raised_long}
use Rattle.typing_refiner.specs.declared.witness.Witness.{Witness}
use Rattle.typing_refiner.specs.Witnessed.{ArePlaced, IsStanding, IsTally, Takes}

-- ---- one place more

add_by : (i : ℕ) (p : Place) (k : ℕ) → add_place i p k ≡ k + add_place i p 0
add_by i (At a) k = go (nat_eq i a)
  where
    go : (b : Bool) → cond b (suc k) k ≡ k + cond b 1 0
    go true = omega arith
    go false = omega arith
add_by i Rest k = omega arith

add_same : (i : ℕ) (p : Place) (x y : ℕ) → add_place i p x ≡ add_place i p y → x ≡ y
add_same i p x y e = let a = add_by i p x in let b = add_by i p y in omega (arith, a, b, e)

-- ---- another place at a number

-- what stood there comes back, where the other place goes
pub times_set : (ps : List Place) (at : ℕ) (old new : Place) → slice_get ps at ≡ Some old → (i : ℕ) →
    add_place i old (times (slice_set ps at new) i) ≡ add_place i new (times ps i)
times_set [] at old new is i = absurd (let bad : ⊥ = cc in bad)
times_set (p ∷ ps) zero old new is i =
    let same : p ≡ old = cc in add_in_turn i new old (times ps i) ∙ ap (λ q. add_place i new (add_place i q (times ps i))) (sym same)
times_set (p ∷ ps) (suc at) old new is i =
    add_in_turn i p old (times (slice_set ps at new) i) ∙ (ap (λ k. add_place i p k) (times_set ps at old new is i) ∙ add_in_turn i new p (times ps i))

-- a place that stands there is counted
pub times_one : (ps : List Place) (at : ℕ) (p : Place) → slice_get ps at ≡ Some p → (i : ℕ) → add_place i p 0 ≤ times ps i
times_one [] at p is i = absurd (let bad : ⊥ = cc in bad)
times_one (q ∷ ps) zero p is i =
    let same : q ≡ p = cc in
    let a = add_by i q (times ps i) in
    let b : add_place i q 0 ≡ add_place i p 0 = ap (λ r. add_place i r 0) same in
    omega (arith, a, b)
times_one (q ∷ ps) (suc at) p is i = let deeper = times_one ps at p is i in let more = add_least i q (times ps i) in omega (arith, deeper, more)

in_set : {X : Type 0} (xs : List X) (at : ℕ) (v x : X) → Contains (slice_set xs at v) x → Contains xs x ⊎ (v ≡ x)
in_set [] at v x c = inl c
in_set (y ∷ ys) zero v x c = elim (in_rest v ys x c) [ inl e ↦ inr e | inr later ↦ inl (is_later y ys x later) ]
in_set (y ∷ ys) (suc at) v x c = elim (in_rest y (slice_set ys at v) x c) [
  | inl e ↦ inl (subst (λ z. Contains (y ∷ ys) z) e (is_first y ys))
  | inr later ↦ elim (in_set ys at v x later) [ inl l ↦ inl (is_later y ys x l) | inr e ↦ inr e ]
]

set_length : {X : Type 0} (xs : List X) (at : ℕ) (v : X) → length (slice_set xs at v) ≡ length xs
set_length [] at v = refl
set_length (x ∷ xs) zero v = refl
set_length (x ∷ xs) (suc at) v = ap suc (set_length xs at v)

module _ (n : ℕ) (w : Witness) (t : IsTally n w) (at : ℕ) (old : Place) (is : slice_get w.places.items at ≡ Some old) where
  old_there : IsPlaceOf (length w.counts.items) old
  old_there = subst (λ k. IsPlaceOf k old) (sym t.long) (t.inside old (got_in w.places.items at old is))

  -- the counts came of others by the place that stands there
  pub came : (before : List ℕ) × IsPlaceOf (length before) old × (w.counts.items ≡ raised before old)
  came = came_of w.counts.items old old_there (λ i. let a = times_one w.places.items at old is i in let b = t.counted i in omega (arith, a, b))

  module _ (before : List ℕ) (from : w.counts.items ≡ raised before old) where
    pub before_long : length before ≡ length w.counts.items
    before_long = sym (raised_long before old) ∙ ap length (sym from)

    before_there : IsPlaceOf (length before) old
    before_there = subst (λ k. IsPlaceOf k old) (sym before_long) old_there

    before_at : (i : ℕ) → slice_index w.counts.items i ≡ add_place i old (slice_index before i)
    before_at i = let a = raised_at before old before_there i in let b = add_by i old (slice_index before i) in
        ap (λ c. slice_index c i) from ∙ (let e : slice_index (raised before old) i ≡ add_place i old (slice_index before i) = omega (arith, a, b) in e)

    pub before_small : (i : ℕ) → slice_index before i < 2 ^ 31
    before_small i =
        let a = before_at i in let b = add_least i old (slice_index before i) in let c = t.counted i in let d = times_most w.places.items i in let e = t.few in
        omega (arith, a, b, c, d, e)

    pub new_there : (new : Place) → IsPlaceOf (length w.counts.items) new → IsPlaceOf (length before) new
    new_there new h = subst (λ k. IsPlaceOf k new) (sym before_long) h

    -- and another place is put there
    pub set_tally : (new : Place) → IsPlaceOf (length w.counts.items) new → (next : Witness) → next.triples ≡ w.triples → next.places.items ≡ slice_set w.places.items at new →
        next.counts.items ≡ raised before new → IsTally n next
    set_tally new h next triples places counts = record {
      each = ap length places ∙ (set_length w.places.items at new ∙ (t.each ∙ ap length (sym triples)));
      few = (let a : length next.places.items ≡ length w.places.items = ap length places ∙ set_length w.places.items at new in let b = t.few in omega (arith, a, b));
      inside = λ p c. elim (in_set w.places.items at new p (subst (λ ps. Contains ps p) places c)) [
        | inl l ↦ t.inside p l
        | inr e ↦ subst (λ q. IsPlaceOf n q) e (subst (λ k. IsPlaceOf k new) t.long h)
      ];
      long = ap length counts ∙ (raised_long before new ∙ (before_long ∙ t.long));
      counted = counted;
    }
      where
        counted : (i : ℕ) → slice_index next.counts.items i ≡ times next.places.items i
        counted i =
            let a = raised_at before new (new_there new h) i in
            let b = add_by i new (slice_index before i) in
            let is_new : slice_index next.counts.items i ≡ add_place i new (slice_index before i) =
            ap (λ c. slice_index c i) counts ∙ (let e : slice_index (raised before new) i ≡ add_place i new (slice_index before i) = omega (arith, a, b) in e) in
            is_new ∙ (add_same i old (add_place i new (slice_index before i)) (times (slice_set w.places.items at new) i)
            (add_in_turn i new old (slice_index before i) ∙ (ap (λ k. add_place i new k) (sym (before_at i) ∙ t.counted i) ∙ sym (times_set w.places.items at old new is i)))
            ∙ ap (λ ps. times ps i) (sym places))

-- counts that began with none
pub all_counted : (n j : ℕ) (ps : List Place) (zeros counts : List ℕ) → zeros ≡ replicate n 0 → length ps ≤ j → AreAdded zeros ps j counts → (i : ℕ) → slice_index counts i ≡ times ps i
all_counted n j ps zeros counts is past h i =
    let a = added_all zeros ps j counts past h i in
    let z : slice_index zeros i ≡ 0 = ap (λ c. slice_index c i) is ∙ zeros_alone n i in
    omega (arith, a, z)

pub zeros_long : (n : ℕ) (zeros : List ℕ) → zeros ≡ replicate n 0 → length zeros ≡ n
zeros_long n zeros is = ap length is ∙ length-replicate n 0

pub zeros_small : (n : ℕ) (ps : List Place) (zeros : List ℕ) → zeros ≡ replicate n 0 → length ps < 2 ^ 31 → (i : ℕ) → slice_index zeros i + times ps i < 2 ^ 31
zeros_small n ps zeros is few i =
    let z : slice_index zeros i ≡ 0 = ap (λ c. slice_index c i) is ∙ zeros_alone n i in let m = times_most ps i in omega (arith, z, m, few)

-- a place is put at a number
pub put_there : (mid new : List Place) (at : ℕ) (v : Place) → new ≡ slice_set mid at v → at < length mid → slice_get new at ≡ Some v
put_there mid new at v is within = ap (λ ps. slice_get ps at) is ∙ set_here mid at (get_or mid at v) v (slice_get-get_or mid at v within)

pub put_others : (old mid new : List Place) (at : ℕ) (v : Place) → new ≡ slice_set mid at v → ((i : ℕ) → i ≢ at → slice_get mid i ≡ slice_get old i) → (i : ℕ) → i ≢ at →
    slice_get new i ≡ slice_get old i
put_others old mid new at v is others i ne = ap (λ ps. slice_get ps i) is ∙ (set_other mid at i v ne ∙ others i ne)

-- the place that stood there is put there again
pub put_again : (old mid new : List Place) (at : ℕ) (before : Place) → slice_get old at ≡ Some before → at < length mid → new ≡ slice_set mid at before →
    ((i : ℕ) → i ≢ at → slice_get mid i ≡ slice_get old i) → (i : ℕ) → slice_get new i ≡ slice_get old i
put_again old mid new at before there within is others i = elim (cases_eq i at) [
  | inl e ↦ subst (λ k. slice_get new k ≡ slice_get old k) (sym e) (put_there mid new at before is within ∙ sym there)
  | inr ne ↦ put_others old mid new at before is others i ne
]

-- a triple has a place
pub has_place : (n : ℕ) (old mid : Witness) → IsTally n mid → mid.triples ≡ old.triples → (at : ℕ) (t : Triple) → slice_get old.triples at ≡ Some t → at < length mid.places.items
has_place n old mid tally same at t there =
    subst (λ k. at < k) (sym tally.each) (subst (λ ts. at < length ts) (sym same) (slice_get_within old.triples at t there))

-- ---- what stands

module _ (hold fail : TermId → Option ExprId → Type 0) (sh : Shape) (n : TermId) where
  -- places that are allowed for a triple
  pub for_inside : (t : Triple) (ps : List Place) → ArePlacesFor hold fail sh n t ps → ArePlacesOf (length sh.occs) ps
  for_inside t ps for p c = allowed_there hold fail sh n t p ((for.same p).0 c)

  -- a triple got a place that is allowed for it, whatever the counts
  pub placed_up : (old new : Witness) → new.triples ≡ old.triples → AreDistinct old.triples → (at : ℕ) (t : Triple) → slice_get old.triples at ≡ Some t → (place : Place) →
      IsAllowed hold fail sh n t place → slice_get new.places.items at ≡ Some place → ((i : ℕ) → i ≢ at → slice_get new.places.items i ≡ slice_get old.places.items i) → (free : List Triple) →
      ArePlaced hold fail sh n (t ∷ free) old → ArePlaced hold fail sh n free new
  placed_up old new same distinct at t there place may here others free h i u p is spot = elim (cases_eq i at) [
    | inl e ↦ inr (
        let a : slice_get old.triples at ≡ Some u = subst (λ k. slice_get old.triples k ≡ Some u) e (ap (λ ts. slice_get ts i) (sym same) ∙ is) in
        let b : slice_get new.places.items at ≡ Some p = subst (λ k. slice_get new.places.items k ≡ Some p) e spot in
        let c : t ≡ u = (let both : Some t ≡ Some u = sym there ∙ a in cc) in
        let d : place ≡ p = (let both : Some place ≡ Some p = sym here ∙ b in cc) in
        subst (λ v. IsAllowed hold fail sh n v p) c (subst (λ q. IsAllowed hold fail sh n t q) d may))
    | inr ne ↦ elim (h i u p (ap (λ ts. slice_get ts i) (sym same) ∙ is) (sym (others i ne) ∙ spot)) [
      | inl c ↦ elim (in_rest t free u c) [
        | inl e ↦ absurd (ne (distinct i at t (ap (λ ts. slice_get ts i) (sym same) ∙ (is ∙ ap (λ v. Some v) (sym e))) there))
        | inr later ↦ inl later
      ]
      | inr a ↦ inr a
    ]
  ]

  -- more are free
  free_too : (w : Witness) (t : Triple) (free : List Triple) → ArePlaced hold fail sh n free w → ArePlaced hold fail sh n (t ∷ free) w
  free_too w t free h i u p is spot = elim (h i u p is spot) [ inl c ↦ inl (is_later t free u c) | inr a ↦ inr a ]

  -- a triple that was not free got a place that is allowed for it
  pub taken_up : (old new : Witness) → new.triples ≡ old.triples → AreDistinct old.triples → (at : ℕ) (t : Triple) → slice_get old.triples at ≡ Some t → (allowed lent : List Place) → lent ≡ allowed →
      ArePlacesFor hold fail sh n t allowed → Takes sh.body at lent old.places.items new.places.items → (free : List Triple) → ArePlaced hold fail sh n free old → ArePlaced hold fail sh n free new
  taken_up old new same distinct at t there allowed lent is for takes free h =
      placed_up old new same distinct at t there takes.place ((for.same takes.place).0 (subst (λ ps. Contains ps takes.place) is takes.one)) takes.here takes.others free (free_too old t free h)

  -- the places are as they were
  pub given_back : (old new : Witness) → new.triples ≡ old.triples → ((i : ℕ) → slice_get new.places.items i ≡ slice_get old.places.items i) → (free : List Triple) →
      ArePlaced hold fail sh n free old → ArePlaced hold fail sh n free new
  given_back old new same places free h i u p is spot = h i u p (ap (λ ts. slice_get ts i) (sym same) ∙ is) (sym (places i) ∙ spot)

  -- a triple got a place that is allowed for it, and the counts match
  pub kept_up : (old new : Witness) → new.triples ≡ old.triples → AreDistinct old.triples → (at : ℕ) (t : Triple) → slice_get old.triples at ≡ Some t → (allowed : List Place) →
      ArePlacesFor hold fail sh n t allowed → Takes sh.body at allowed old.places.items new.places.items → (free : List Triple) →
      IsStanding hold fail sh n (t ∷ free) old → IsStanding hold fail sh n free new
  kept_up old new same distinct at t there allowed for takes free h = record {
    allowed = placed_up old new same distinct at t there takes.place ((for.same takes.place).0 takes.one) takes.here takes.others free h.allowed;
    spelled = takes.spelled;
  }

  pub kept_if : (old new : Witness) → new.triples ≡ old.triples → AreDistinct old.triples → (at : ℕ) (t : Triple) → slice_get old.triples at ≡ Some t → (allowed lent : List Place) → lent ≡ allowed →
      ArePlacesFor hold fail sh n t allowed → (b : Bool) → OnTrue b (Takes sh.body at lent old.places.items new.places.items) →
      OnTrue b ((free : List Triple) → IsStanding hold fail sh n (t ∷ free) old → IsStanding hold fail sh n free new)
  kept_if old new same distinct at t there allowed lent is for false takes = tt
  kept_if old new same distinct at t there allowed lent is for true takes =
      λ free h. kept_up old new same distinct at t there allowed for (subst (λ ps. Takes sh.body at ps old.places.items new.places.items) is takes) free h

  -- it got one, and another triple then got one from which the counts match
  pub kept_by : (old mid : Witness) → mid.triples ≡ old.triples → AreDistinct old.triples → (at : ℕ) (t : Triple) → slice_get old.triples at ≡ Some t → (allowed lent : List Place) → lent ≡ allowed →
      ArePlacesFor hold fail sh n t allowed → (place : Place) → Contains lent place → slice_get mid.places.items at ≡ Some place →
      ((i : ℕ) → i ≢ at → slice_get mid.places.items i ≡ slice_get old.places.items i) → (new : Witness) (b : Bool) →
      OnTrue b ((free : List Triple) → ArePlaced hold fail sh n free mid → IsStanding hold fail sh n free new) →
      OnTrue b ((free : List Triple) → IsStanding hold fail sh n (t ∷ free) old → IsStanding hold fail sh n free new)
  kept_by old mid same distinct at t there allowed lent is for place one here others new false stands = tt
  kept_by old mid same distinct at t there allowed lent is for place one here others new true stands = λ free h.
      stands free (placed_up old mid same distinct at t there place ((for.same place).0 (subst (λ ps. Contains ps place) is one)) here others free h.allowed)

  -- a triple keeps the place that it has
  pub kept_there : (w : Witness) → AreDistinct w.triples → (at : ℕ) (t : Triple) → slice_get w.triples at ≡ Some t → (p : Place) → slice_get w.places.items at ≡ Some p → (allowed lent : List Place) →
      lent ≡ allowed → ArePlacesFor hold fail sh n t allowed → Contains lent p → (free : List Triple) → IsStanding hold fail sh n (t ∷ free) w → IsStanding hold fail sh n free w
  kept_there w distinct at t there p spot allowed lent is for one free h = record { allowed = each; spelled = h.spelled }
    where
      each : (i : ℕ) (u : Triple) (q : Place) → slice_get w.triples i ≡ Some u → slice_get w.places.items i ≡ Some q → Contains free u ⊎ IsAllowed hold fail sh n u q
      each i u q own place = elim (h.allowed i u q own place) [
        | inl c ↦ elim (in_rest t free u c) [
          | inl e ↦ inr (
              let same : i ≡ at = distinct i at t (own ∙ ap (λ v. Some v) (sym e)) there in
              let both : Some p ≡ Some q = sym spot ∙ (ap (λ k. slice_get w.places.items k) (sym same) ∙ place) in
              let c : p ≡ q = cc in
              subst (λ v. IsAllowed hold fail sh n v q) e (subst (λ r. IsAllowed hold fail sh n t r) c ((for.same p).0 (subst (λ ps. Contains ps p) is one))))
          | inr later ↦ inl later
        ]
        | inr a ↦ inr a
      ]

  -- a triple that is free all the same
  pub repeated : (w : Witness) (t : Triple) (free : List Triple) → Contains free t → IsStanding hold fail sh n (t ∷ free) w → IsStanding hold fail sh n free w
  repeated w t free again h = record { allowed = each; spelled = h.spelled }
    where
      each : (i : ℕ) (u : Triple) (p : Place) → slice_get w.triples i ≡ Some u → slice_get w.places.items i ≡ Some p → Contains free u ⊎ IsAllowed hold fail sh n u p
      each i u p is spot = elim (h.allowed i u p is spot) [
        | inl c ↦ elim (in_rest t free u c) [
          | inl e ↦ inl (subst (λ v. Contains free v) e again)
          | inr later ↦ inl later
        ]
        | inr a ↦ inr a
      ]

  -- a triple that is none of these
  pub passed : (w : Witness) (t : Triple) → ¬ Contains w.triples t → (free : List Triple) → IsStanding hold fail sh n (t ∷ free) w → IsStanding hold fail sh n free w
  passed w t none free h = record { allowed = each; spelled = h.spelled }
    where
      each : (i : ℕ) (u : Triple) (p : Place) → slice_get w.triples i ≡ Some u → slice_get w.places.items i ≡ Some p → Contains free u ⊎ IsAllowed hold fail sh n u p
      each i u p is spot = elim (h.allowed i u p is spot) [
        | inl c ↦ elim (in_rest t free u c) [
          | inl e ↦ absurd (none (subst (λ v. Contains w.triples v) (sym e) (got_in w.triples i u is)))
          | inr later ↦ inl later
        ]
        | inr a ↦ inr a
      ]

  -- more are free than none
  pub more_free : (w : Witness) (free : List Triple) → IsStanding hold fail sh n [] w → IsStanding hold fail sh n free w
  more_free w free h = record { allowed = each; spelled = h.spelled }
    where
      each : (i : ℕ) (u : Triple) (p : Place) → slice_get w.triples i ≡ Some u → slice_get w.places.items i ≡ Some p → Contains free u ⊎ IsAllowed hold fail sh n u p
      each i u p is spot = elim (h.allowed i u p is spot) [ inl c ↦ absurd (not_in_none u c) | inr a ↦ inr a ]

  -- where none is free, all places are allowed
  pub all_allowed : (ts : List Triple) (ps : List Place) → length ps ≡ length ts →
      ((i : ℕ) (t : Triple) (p : Place) → slice_get ts i ≡ Some t → slice_get ps i ≡ Some p → IsAllowed hold fail sh n t p) → AreAllowed hold fail sh n ts ps
  all_allowed [] [] e h = tt
  all_allowed [] (p ∷ ps) e h = absurd (omega (arith, e))
  all_allowed (t ∷ ts) [] e h = absurd (omega (arith, e))
  all_allowed (t ∷ ts) (p ∷ ps) e h = (h 0 t p refl refl, all_allowed ts ps (let d : length ps ≡ length ts = omega (arith, e) in d) (λ i u q a b. h (suc i) u q a b))

  pub one_allowed : (ts : List Triple) (ps : List Place) → AreAllowed hold fail sh n ts ps → (i : ℕ) (t : Triple) (p : Place) → slice_get ts i ≡ Some t → slice_get ps i ≡ Some p →
      IsAllowed hold fail sh n t p
  one_allowed [] ps h i t p a b = absurd (let bad : ⊥ = cc in bad)
  one_allowed (u ∷ ts) [] h i t p a b = absurd h
  one_allowed (u ∷ ts) (q ∷ ps) h zero t p a b =
      let e : u ≡ t = cc in let d : q ≡ p = cc in subst (λ v. IsAllowed hold fail sh n v p) e (subst (λ r. IsAllowed hold fail sh n u r) d h.0)
  one_allowed (u ∷ ts) (q ∷ ps) h (suc i) t p a b = one_allowed ts ps h.1 i t p a b

-- ---- the place of a triple

pub found_place : (ts keys : List Triple) (t : Triple) (r : Option ℕ) → keys ≡ ts → r ≡ position (same_triple t) keys → IfSome r (λ i. slice_get ts i ≡ Some t)
found_place ts keys t None same is = tt
found_place ts keys t (Some i) same is = subst (λ xs. slice_get xs i ≡ Some t) same (found_item same_triple triple_decides keys t i (sym is))

-- the next triple is put into the table
pub table_next : (xs : List Triple) (i : ℕ) (x : Triple) (old new : List Triple) (b : Bool) → b ≡ true → OnTrue b (new ≡ old ++ x ∷ []) → old ≡ take i xs →
    slice_get xs i ≡ Some x → new ≡ take (i + 1) xs
table_next xs i x old new b fresh put is at =
    let within = slice_get_within xs i x at in
    let both : Some (get_or xs i x) ≡ Some x = sym (slice_get-get_or xs i x within) ∙ at in
    let own : get_or xs i x ≡ x = cc in
    OnTrue_at fresh put ∙ (ap (λ ys. ys ++ x ∷ []) is ∙ sym (take_more xs i x within ∙ ap (λ y. take i xs ++ y ∷ []) own))
