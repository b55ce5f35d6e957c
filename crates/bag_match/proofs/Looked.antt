-- The states that are looked at on the way are few.
use Rattle.std.proofs.Common.{◌≡◌, ◌≢◌, ℕ, zero, suc, ◌+◌, ◌*◌, ◌<◌, ◌≤◌, inl, inr, length, get_or, take, map, List, [], ◌∷◌, refl, arith, ap, sym, subst, ◌∙◌, slice_index, get_or-set_same, get_or-set_other}
use Rattle.std.proofs.lemmas.List.{length-map}
use Rattle.std.proofs.lemmas.Option.{slice_get-get_or}
use Rattle.std.specs.Prelude.{Contains, Option, Some, slice_get}
use Rattle.rdf_terms.specs.declared.terms.TermId.{TermId}
use Rattle.rdf_terms.specs.declared.terms.Triple.{Triple}
use Rattle.schema_tree.specs.declared.schema.ExprId.{ExprId}
use Rattle.schema_tree.specs.declared.schema.Shape.{Shape}
use Rattle.schema_tree.specs.declared.verdicts.Place.{Place}
use Rattle.schema_tree.specs.declared.verdicts.Place.TheVariants.{At, Rest}
use Rattle.schema_tree.specs.Places.{AreAllowed, IsAllowed}
use Rattle.schema_tree.specs.Rising.{AreRising}
use Rattle.schema_tree.specs.States.{opening}
use Rattle.lists.proofs.Members.{from_map, in_rest, is_first, is_later, not_in_none}
use Rattle.lists.proofs.Quantifiers.{all_at}
use Rattle.bag_match.specs.Bounds.{AreApart, AreCountsOf, IsBound}
use Rattle.bag_match.specs.Counts.{IsPlaceOf, raised}
use Rattle.bag_match.specs.Least.{AreOffered, ArePlacesFor, IsPlaceBefore}
use Rattle.bag_match.proofs.Came.{came_next}
use Rattle.bag_match.proofs.Offered.{allowed_there}
use Rattle.bag_match.proofs.Offers.{AreFor, for_offered}
use Rattle.bag_match.proofs.Stepping.{opening_at}

-- ---- different places lead to different counts

own_at : (c : List ℕ) (i : ℕ) → i < length c → slice_index (raised c (At i)) i ≡ suc (slice_index c i)
own_at c i within = get_or-set_same c i (suc (slice_index c i)) 0 within

raised_apart : (c : List ℕ) (p q : Place) → IsPlaceOf (length c) p → IsPlaceBefore p q → ¬ (raised c p ≡ raised c q)
raised_apart c (At i) (At j) there before e =
    let a = own_at c i there in
    let other : i ≢ j = (λ s. absurd (omega (arith, s, before))) in
    let b : slice_index (raised c (At j)) i ≡ slice_index c i = get_or-set_other c j i (suc (slice_index c j)) 0 other in
    let s : slice_index (raised c (At i)) i ≡ slice_index (raised c (At j)) i = ap (λ z. slice_index z i) e in
    omega (arith, a, b, s)
raised_apart c (At i) Rest there before e =
    let a = own_at c i there in
    let s : slice_index (raised c (At i)) i ≡ slice_index c i = ap (λ z. slice_index z i) e in
    omega (arith, a, s)
raised_apart c Rest q there before e = before

all_apart : (c : List ℕ) (ps : List Place) → ((p : Place) → Contains ps p → IsPlaceOf (length c) p) → AreRising IsPlaceBefore ps → AreApart (map (λ p. raised c p) ps)
all_apart c [] there rising = tt
all_apart c (p ∷ ps) there rising = (other, all_apart c ps (λ q h. there q (is_later p ps q h)) rising.1)
  where
    other : ¬ Contains (map (λ q. raised c q) ps) (raised c p)
    other h =
        let (q, held, e) = from_map (λ z. raised c z) ps (raised c p) h in
        raised_apart c p q (there p (is_first p ps)) (all_at (IsPlaceBefore p) ps q rising.0 held) (sym e)

module _ (hold fail : TermId → Option ExprId → Type 0) (sh : Shape) (n : TermId) (ts : List Triple) where
  -- places of a triple are no more than the counts that they lead to
  few_places : (j : ℕ) (d : Triple) (c : List ℕ) (places : List Place) → j < length ts → AreCountsOf hold fail sh n (take j ts) c → ArePlacesFor hold fail sh n (get_or ts j d) places →
      (bound : ℕ) → IsBound hold fail sh n ts bound → length places ≤ bound
  few_places j d c places within (ps, allowed, long, counts) are bound b =
      let m = length-map places (λ p. raised c p) in
      let few = b.few (j + 1) (map (λ p. raised c p) places)
      (all_apart c places (λ p h. subst (λ k. IsPlaceOf k p) (sym long) (allowed_there hold fail sh n (get_or ts j d) p ((are.same p).0 h))) are.rising)
      (λ x h.
      let (p, held, e) = from_map (λ z. raised c z) places x h in
      subst (λ z. AreCountsOf hold fail sh n (take (j + 1) ts) z) e
      (came_next hold fail sh n ts j d c p within (ps, allowed, long, counts) ((are.same p).0 held))) in
      omega (arith, m, few)

  allowed_at : (us : List Triple) (ps : List Place) → AreAllowed hold fail sh n us ps → (j : ℕ) (d : Triple) → j < length us → (p : Place) × IsAllowed hold fail sh n (get_or us j d) p
  allowed_at [] ps h j d lt = absurd (omega (arith, lt))
  allowed_at (u ∷ us) [] h j d lt = absurd h
  allowed_at (u ∷ us) (p ∷ ps) h zero d lt = (p, h.0)
  allowed_at (u ∷ us) (p ∷ ps) h (suc j) d lt = allowed_at us ps h.1 j d (omega (arith, lt))

  -- where all triples have allowed places, so have the first of them
  some_counts : (ps : List Place) → AreAllowed hold fail sh n ts ps → (d : Triple) (j : ℕ) → j ≤ length ts → (c : List ℕ) × AreCountsOf hold fail sh n (take j ts) c
  some_counts ps h d zero le = ((opening sh).counts, ([], none ts, length-map sh.occs (λ o. 0), opening_at sh))
    where
      none : (us : List Triple) → AreAllowed hold fail sh n (take 0 us) []
      none [] = tt
      none (u ∷ us) = tt
  some_counts ps h d (suc j) le =
      let within : j < length ts = omega (arith, le) in
      let (c, counts) = some_counts ps h d j (omega (arith, le)) in
      let (p, allowed) = allowed_at ts ps h j d within in
      (raised c p, subst (λ k. AreCountsOf hold fail sh n (take k ts) (raised c p)) (let e : j + 1 ≡ suc j = omega arith in e) (came_next hold fail sh n ts j d c p within counts allowed))

  module _ (lists : List (List Place)) (all : AreOffered hold fail sh n ts (length ts) lists) (ps : List Place) (allowed : AreAllowed hold fail sh n ts ps) where
    -- each list has a place
    pub lists_some : (places : List Place) → Contains lists places → 0 < length places
    lists_some places c = go ts lists ps (for_offered hold fail sh n ts lists all) allowed c
      where
        some : (xs : List Place) (p : Place) → Contains xs p → 0 < length xs
        some [] p h = absurd (not_in_none p h)
        some (x ∷ xs) p h = omega arith

        go : (us : List Triple) (ls : List (List Place)) (qs : List Place) → AreFor hold fail sh n us ls → AreAllowed hold fail sh n us qs → Contains ls places → 0 < length places
        go [] [] qs h a held = absurd (not_in_none places held)
        go [] (l ∷ ls) qs h a held = absurd h
        go (u ∷ us) [] qs h a held = absurd h
        go (u ∷ us) (l ∷ ls) [] h a held = absurd a
        go (u ∷ us) (l ∷ ls) (q ∷ qs) h a held = elim (in_rest l ls places held) [
          | inl e ↦ some places q (subst (λ z. Contains z q) e ((h.0.same q).1 a.0))
          | inr later ↦ go us ls qs h.1 a.1 later
        ]

    -- and no more than the bound
    pub lists_few : (bound : ℕ) → IsBound hold fail sh n ts bound → (places : List Place) → Contains lists places → length places ≤ bound
    lists_few bound b places (j, within, is) =
        let count = all.count_is in
        let lt : j < length ts = omega (arith, within, count) in
        go ts refl j lt
      where
        here : slice_get lists j ≡ Some places
        here = slice_get-get_or lists j places within ∙ ap (λ z. Some z) is

        go : (us : List Triple) → ts ≡ us → (k : ℕ) → k < length ts → length places ≤ bound
        go [] none k lt = absurd (let e : length ts ≡ 0 = ap (λ z. length z) none in omega (arith, e, lt))
        go (d ∷ us) some k lt =
            let count = all.count_is in
            let in_ts : j < length ts = omega (arith, within, count) in
            let (c, counts) = some_counts ps allowed d j (omega (arith, in_ts)) in
            few_places j d c places in_ts counts (all.each j (get_or ts j d) places (slice_get-get_or ts j d in_ts) here) bound b

-- ---- ticks

pub looked_next : (start before now done own bound : ℕ) → before ≤ start + (done + 1) * bound → now ≤ before + own → own ≤ bound → now ≤ start + (done + 1 + 1) * bound
looked_next start before now done own bound h k few = omega (arith, h, k, few)
