-- Triples that are lent by their places.
use Rattle.std.proofs.Common.{◌≡◌, ℕ, zero, suc, ◌+◌, ◌<◌, inl, inr, length, get_or, drop, List, [], ◌∷◌, ◌++◌, refl, arith, ap, sym, subst, ◌∙◌, Bool, true, false, cond, filter, append_assoc, slice_index}
use Rattle.std.proofs.lemmas.List.{drop_more, get_or_append_left, get_or_push, length-append}
use Rattle.std.proofs.lemmas.Bool.{cases_lt}
use Rattle.std.proofs.lemmas.Option.{get_or_from_slice_get, slice_get-get_or}
use Rattle.std.specs.Prelude.{Option, Some, None, slice_get}
use Rattle.rdf_terms.specs.declared.terms.Triple.{Triple}
use Rattle.bag_match.specs.Lent.{AreInside, before_others, triples_at}

first_inside : (ts : List Triple) (i : ℕ) (places : List ℕ) → AreInside ts (i ∷ places) → i < length ts
first_inside ts i places h = h 0 0 (omega arith)

rest_inside : (ts : List Triple) (i : ℕ) (places : List ℕ) → AreInside ts (i ∷ places) → AreInside ts places
rest_inside ts i places h k d lt = h (suc k) d (omega (arith, lt))

-- the first of them, where its place is one of the list
at_first : (ts : List Triple) (i : ℕ) (d : Triple) (others : List Triple) → i < length ts → before_others (slice_get ts i) others ≡ get_or ts i d ∷ others
at_first ts i d others lt = ap (λ o. before_others o others) (slice_get-get_or ts i d lt)

some_triple : (ts : List Triple) → 0 < length ts → Triple
some_triple [] lt = absurd (omega (arith, lt))
some_triple (t ∷ ts) lt = t

pub lent_long : (ts : List Triple) (places : List ℕ) → AreInside ts places → length (triples_at ts places) ≡ length places
lent_long ts [] h = refl
lent_long ts (i ∷ places) h =
    let lt = first_inside ts i places h in
    let d = some_triple ts (omega (arith, lt)) in
    ap (λ z. length z) (at_first ts i d (triples_at ts places) lt) ∙ ap suc (lent_long ts places (rest_inside ts i places h))

pub lent_within : (ts : List Triple) (places : List ℕ) (whole : List Triple) (i : ℕ) → whole ≡ triples_at ts places → AreInside ts places → i < length whole → i < length places
lent_within ts places whole i is h lt = let a = lent_long ts places h in let b : length whole ≡ length (triples_at ts places) = ap (λ z. length z) is in omega (arith, a, b, lt)

got_at : (ts : List Triple) (places : List ℕ) → AreInside ts places → (k i : ℕ) (t : Triple) → k < length places → i ≡ slice_index places k → slice_get ts i ≡ Some t →
    slice_get (triples_at ts places) k ≡ Some t
got_at ts [] h k i t lt is at = absurd (omega (arith, lt))
got_at ts (j ∷ places) h k i t lt is at = go k lt is (λ deeper inside same. got_at ts places (rest_inside ts j places h) deeper i t inside same at)
  where
    own : triples_at ts (j ∷ places) ≡ get_or ts j t ∷ triples_at ts places
    own = at_first ts j t (triples_at ts places) (first_inside ts j places h)

    go : (k : ℕ) → k < length (j ∷ places) → i ≡ slice_index (j ∷ places) k → ((k : ℕ) → k < length places → i ≡ slice_index places k → slice_get (triples_at ts places) k ≡ Some t) →
        slice_get (triples_at ts (j ∷ places)) k ≡ Some t
    go zero lt is deeper = ap (λ z. slice_get z 0) own ∙ ap (λ z. Some z) (ap (λ z. get_or ts z t) (sym is) ∙ get_or_from_slice_get ts i t t at)
    go (suc k) lt is deeper = ap (λ z. slice_get z (suc k)) own ∙ deeper k (omega (arith, lt)) is

-- what is lent at a place
pub lent_at : (ts : List Triple) (places : List ℕ) (whole : List Triple) (k : ℕ) → whole ≡ triples_at ts places → AreInside ts places → k < length whole →
    (i : ℕ) (t : Triple) → i ≡ slice_index places k → slice_get ts i ≡ Some t → slice_get whole k ≡ Some t
lent_at ts places whole k is h lt i t read at = ap (λ z. slice_get z k) is ∙ got_at ts places h k i t (lent_within ts places whole k is h lt) read at

pub lent_left : (whole : List Triple) (k : ℕ) (t : Triple) → k < length whole → slice_get whole k ≡ Some t → drop k whole ≡ t ∷ drop (k + 1) whole
lent_left whole k t lt at = drop_more whole k t lt ∙ ap (λ z. z ∷ drop (k + 1) whole) (get_or_from_slice_get whole k t t at)

-- the places that are found, one after the other
at_push : (ts : List Triple) (places : List ℕ) (i : ℕ) → triples_at ts (places ++ i ∷ []) ≡ triples_at ts places ++ before_others (slice_get ts i) []
at_push ts [] i = refl
at_push ts (j ∷ places) i = go (slice_get ts j) (at_push ts places i)
  where
    go : (o : Option Triple) → triples_at ts (places ++ i ∷ []) ≡ triples_at ts places ++ before_others (slice_get ts i) [] →
        before_others o (triples_at ts (places ++ i ∷ [])) ≡ before_others o (triples_at ts places) ++ before_others (slice_get ts i) []
    go None pushed = pushed
    go (Some t) pushed = ap (λ z. t ∷ z) pushed

inside_push : (ts : List Triple) (places : List ℕ) (i : ℕ) → AreInside ts places → i < length ts → AreInside ts (places ++ i ∷ [])
inside_push ts places i h lt k d below = elim (cases_lt k (length places)) [
  | inl before ↦ subst (λ z. z < length ts) (sym (get_or_append_left places (i ∷ []) d k before)) (h k d before)
  | inr past ↦
      let long = length-append places (i ∷ []) in
      subst (λ z. z < length ts) (sym (get_or_push places i d k (omega (arith, past, long, below)))) lt
]

module _ (p : Triple → Bool) (ts : List Triple) (i : ℕ) (t : Triple) (places : List ℕ) (within : i < length ts) (at : slice_get ts i ≡ Some t)
    (fitting : triples_at ts places ++ filter p (drop i ts) ≡ filter p ts) where
  read : get_or ts i t ≡ t
  read = get_or_from_slice_get ts i t t at

  split : filter p (drop i ts) ≡ cond (p t) (t ∷ filter p (drop (i + 1) ts)) (filter p (drop (i + 1) ts))
  split = ap (λ z. filter p z) (drop_more ts i t within) ∙ ap (λ z. filter p (z ∷ drop (i + 1) ts)) read

  pub lent_more : p t ≡ true → (new : List ℕ) → new ≡ places ++ i ∷ [] → triples_at ts new ++ filter p (drop (i + 1) ts) ≡ filter p ts
  lent_more fit new is =
      ap (λ z. triples_at ts z ++ filter p (drop (i + 1) ts)) is
      ∙ ap (λ z. z ++ filter p (drop (i + 1) ts)) (at_push ts places i ∙ ap (λ o. triples_at ts places ++ before_others o []) at)
      ∙ append_assoc (triples_at ts places) (t ∷ []) (filter p (drop (i + 1) ts))
      ∙ ap (λ z. triples_at ts places ++ z) (sym (split ∙ ap (λ b. cond b (t ∷ filter p (drop (i + 1) ts)) (filter p (drop (i + 1) ts))) fit))
      ∙ fitting

  pub lent_past : p t ≡ false → (new : List ℕ) → new ≡ places → triples_at ts new ++ filter p (drop (i + 1) ts) ≡ filter p ts
  lent_past no_fit new is =
      ap (λ z. triples_at ts z ++ filter p (drop (i + 1) ts)) is
      ∙ ap (λ z. triples_at ts places ++ z) (sym (split ∙ ap (λ b. cond b (t ∷ filter p (drop (i + 1) ts)) (filter p (drop (i + 1) ts))) no_fit))
      ∙ fitting

  pub inside_more : AreInside ts places → (new : List ℕ) → new ≡ places ++ i ∷ [] → AreInside ts new
  inside_more h new is = subst (λ z. AreInside ts z) (sym is) (inside_push ts places i h within)
