-- What is found from the places that are allowed for triples are reasons.
use Rattle.std.proofs.Common.{◌≡◌, ℕ, suc, ◌+◌, ◌-◌, ◌^◌, ◌<◌, ◌≤◌, ◌⊎◌, inl, inr, refl, arith, sym, subst, ap, ◌∙◌, Bool, true, false, true≢false, cond, length, List, [], ◌∷◌, ◌++◌, min, not}
use Rattle.std.proofs.lemmas.Bool.{ltb-true}
use Rattle.std.proofs.lemmas.List.Sums.{sum_by-cons}
use Rattle.std.specs.Prelude.{Contains, Option, Some, None, ◌&&◌, ◌||◌, count_by, nat_lt, slice_index}
use Rattle.std.specs.List.{AllByRecursion, flat_map, list_all, list_any}
use Rattle.lists.proofs.Members.{in_rest, is_first, is_later, not_in_none}
use Rattle.lists.proofs.Quantifiers.{all_append}
use Rattle.rdf_terms.specs.declared.terms.TermId.{TermId}
use Rattle.rdf_terms.specs.declared.terms.Triple.{Triple}
use Rattle.rdf_terms.specs.Graphs.{outs}
use Rattle.tally.specs.Plan.{Plan}
use Rattle.tally.specs.Laws.{BoxHoldsCopies}
use Rattle.tally.specs.Symbols.{IsDistinct}
use Rattle.schema_tree.specs.declared.schema.ExprId.{ExprId}
use Rattle.schema_tree.specs.declared.schema.Shape.{Shape}
use Rattle.schema_tree.specs.declared.verdicts.Place.{Place}
use Rattle.schema_tree.specs.Places.{HasPlaces, IsShut}
use Rattle.schema_tree.specs.Relevant.{is_relevant}
use Rattle.bag_match.specs.Least.{ArePlacesFor}
use Rattle.nonconformance.specs.declared.offers.Offer.{Offer}
use Rattle.nonconformance.specs.declared.reason.Reason.{Reason}
use Rattle.nonconformance.specs.declared.reason.Reason.TheVariants.{Forbidden, TooFew, TooMany}
use Rattle.schema_tree.specs.Loaded.{BodyOk}
use Rattle.nonconformance.specs.Bounds.{capped, is_at, least_of, most_of}
use Rattle.nonconformance.specs.Laws.{LeastIsKept, MostIsKept}
use Rattle.nonconformance.specs.Offers.{AddsCounted, AreOffers, Concludes, IsSaidOf, all_bound, all_serving, counted_by, few_by, forbidden_by, is_bound, is_serving, many_by, unmatched_at, unmatched_by}
use Rattle.nonconformance.specs.Reasons.{HasNoMatchingCounts, HasNoMatchingPlaces, IsReason, IsUnmatched, MayServe, MustServe}
use Rattle.nonconformance.specs.Those.{AreThose}
use Rattle.nonconformance.proofs.Hindered.{by_places, no_numbers, numbers_match}
use Rattle.nonconformance.proofs.Items.{passed}
use Rattle.nonconformance.proofs.Serving.{at_one, one_at}

-- the test of one place
pub any_there : (q : Place → Bool) (ps : List Place) → list_any q ps ≡ true → (p : Place) × Contains ps p × (q p ≡ true)
any_there q [] h = absurd (true≢false (sym h))
any_there q (p ∷ ps) h = go (q p) refl h (λ t. any_there q ps t)
  where
    go :
        (b : Bool) → q p ≡ b → b || list_any q ps ≡ true → (list_any q ps ≡ true → (x : Place) × Contains ps x × (q x ≡ true)) →
        (x : Place) × Contains (p ∷ ps) x × (q x ≡ true)
    go true e t deeper = (p, is_first p ps, e)
    go false e t deeper = let (x, c, is) = deeper t in (x, is_later p ps x c, is)

pub none_there : (q : Place → Bool) (ps : List Place) → list_any q ps ≡ false → (p : Place) → Contains ps p → q p ≡ true → ⊥
none_there q [] h p c is = not_in_none p c
none_there q (x ∷ ps) h p c is = go (q x) refl h (in_rest x ps p c) (λ t later. none_there q ps t p later is)
  where
    go : (b : Bool) → q x ≡ b → b || list_any q ps ≡ false → (x ≡ p) ⊎ Contains ps p → (list_any q ps ≡ false → Contains ps p → ⊥) → ⊥
    go true e t w deeper = true≢false t
    go false e t (inl same) deeper = true≢false (sym is ∙ ap q (sym same) ∙ e)
    go false e t (inr later) deeper = deeper t later

pub all_there : (q : Place → Bool) (ps : List Place) → list_all q ps ≡ true → (p : Place) → Contains ps p → q p ≡ true
all_there q [] h p c = absurd (not_in_none p c)
all_there q (x ∷ ps) h p c = go (q x) refl h (in_rest x ps p c) (λ t later. all_there q ps t p later)
  where
    go : (b : Bool) → q x ≡ b → b && list_all q ps ≡ true → (x ≡ p) ⊎ Contains ps p → (list_all q ps ≡ true → Contains ps p → q p ≡ true) → q p ≡ true
    go true e t (inl same) deeper = ap q (sym same) ∙ e
    go true e t (inr later) deeper = deeper t later
    go false e t w deeper = absurd (true≢false (sym t))

pub all_from : (q : Place → Bool) (ps : List Place) → ((p : Place) → Contains ps p → q p ≡ true) → list_all q ps ≡ true
all_from q [] h = refl
all_from q (x ∷ ps) h = go (q x) (h x (is_first x ps)) (all_from q ps (λ p c. h p (is_later x ps p c)))
  where
    go : (b : Bool) → b ≡ true → list_all q ps ≡ true → b && list_all q ps ≡ true
    go true e t = t
    go false e t = absurd (true≢false (sym e))

at_least : (a m k : ℕ) → a ≤ k → min a m ≤ k
at_least a m k h = omega arith

pub serving_short : (cs : List ℕ) (offers : List Offer) → length (all_serving cs offers) ≤ length offers
serving_short cs [] = omega arith
serving_short cs (o ∷ os) = go (list_any (is_at cs) o.places) (serving_short cs os)
  where
    go : (b : Bool) → length (all_serving cs os) ≤ length os → length (cond b (o.triple ∷ []) [] ++ all_serving cs os) ≤ suc (length os)
    go true h = omega arith
    go false h = omega arith

pub bound_short : (cs : List ℕ) (offers : List Offer) → length (all_bound cs offers) ≤ length offers
bound_short cs [] = omega arith
bound_short cs (o ∷ os) = go (list_any (is_at cs) o.places && list_all (is_at cs) o.places) (bound_short cs os)
  where
    go : (b : Bool) → length (all_bound cs os) ≤ length os → length (cond b (o.triple ∷ []) [] ++ all_bound cs os) ≤ suc (length os)
    go true h = omega arith
    go false h = omega arith

count_first : (q : Offer → Bool) (o : Offer) (os : List Offer) → count_by q (o ∷ os) ≡ cond (q o) 1 0 + count_by q os
count_first q o os = sum_by-cons (λ x. cond (q x) 1 0) o os

-- how many triples these are
pub serving_number : (cs : List ℕ) (offers : List Offer) → length (all_serving cs offers) ≡ count_by (is_serving cs) offers
serving_number cs [] = refl
serving_number cs (o ∷ os) = go (is_serving cs o) (serving_number cs os) ∙ sym (count_first (is_serving cs) o os)
  where
    go : (b : Bool) → length (all_serving cs os) ≡ count_by (is_serving cs) os →
        length (cond b (o.triple ∷ []) [] ++ all_serving cs os) ≡ cond b 1 0 + count_by (is_serving cs) os
    go true h = omega (arith, h)
    go false h = omega (arith, h)

pub bound_number : (cs : List ℕ) (offers : List Offer) → length (all_bound cs offers) ≡ count_by (is_bound cs) offers
bound_number cs [] = refl
bound_number cs (o ∷ os) = go (is_bound cs o) (bound_number cs os) ∙ sym (count_first (is_bound cs) o os)
  where
    go : (b : Bool) → length (all_bound cs os) ≡ count_by (is_bound cs) os →
        length (cond b (o.triple ∷ []) [] ++ all_bound cs os) ≡ cond b 1 0 + count_by (is_bound cs) os
    go true h = omega (arith, h)
    go false h = omega (arith, h)

module _ (hold fail : TermId → Option ExprId → Type 0) (sh : Shape) (n : TermId) where
  module _ (cs : List ℕ) (t : Triple) (ps : List Place) (are : ArePlacesFor hold fail sh n t ps) where
    may_from : list_any (is_at cs) ps ≡ true → MayServe hold fail sh n cs t
    may_from h = let (p, c, is) = any_there (is_at cs) ps h in (p, at_one cs p is, (are.same p).0 c)

    may_not : list_any (is_at cs) ps ≡ false → ¬ MayServe hold fail sh n cs t
    may_not h (p, of, allowed) = none_there (is_at cs) ps h p ((are.same p).1 allowed) (one_at cs p of)

    must_from : list_any (is_at cs) ps ≡ true → list_all (is_at cs) ps ≡ true → MustServe hold fail sh n cs t
    must_from h k = (may_from h, λ p allowed. at_one cs p (all_there (is_at cs) ps k p ((are.same p).1 allowed)))

    must_all : MustServe hold fail sh n cs t → list_all (is_at cs) ps ≡ true
    must_all h = all_from (is_at cs) ps (λ p c. one_at cs p (h.1 p ((are.same p).0 c)))

  -- those that one of the constraints may take
  pub those_serving : (cs : List ℕ) (ts : List Triple) (offers : List Offer) → AreOffers hold fail sh n ts offers → AreThose (MayServe hold fail sh n cs) ts (all_serving cs offers)
  those_serving cs [] [] h = refl
  those_serving cs [] (o ∷ os) h = absurd h
  those_serving cs (t ∷ ts) [] h = absurd h
  those_serving cs (t ∷ ts) (o ∷ os) h = go (list_any (is_at cs) o.places) refl (those_serving cs ts os h.1)
    where
      go :
          (b : Bool) → list_any (is_at cs) o.places ≡ b → AreThose (MayServe hold fail sh n cs) ts (all_serving cs os) →
          AreThose (MayServe hold fail sh n cs) (t ∷ ts) (cond b (o.triple ∷ []) [] ++ all_serving cs os)
      go true e those = inl (sym h.0.0, may_from cs t o.places h.0.1 e, those)
      go false e those = passed (MayServe hold fail sh n cs) t ts (all_serving cs os) (may_not cs t o.places h.0.1 e) those

  -- those that they alone may take
  pub those_bound : (cs : List ℕ) (ts : List Triple) (offers : List Offer) → AreOffers hold fail sh n ts offers → AreThose (MustServe hold fail sh n cs) ts (all_bound cs offers)
  those_bound cs [] [] h = refl
  those_bound cs [] (o ∷ os) h = absurd h
  those_bound cs (t ∷ ts) [] h = absurd h
  those_bound cs (t ∷ ts) (o ∷ os) h = go (list_any (is_at cs) o.places) (list_all (is_at cs) o.places) refl refl (those_bound cs ts os h.1)
    where
      go :
          (a b : Bool) → list_any (is_at cs) o.places ≡ a → list_all (is_at cs) o.places ≡ b → AreThose (MustServe hold fail sh n cs) ts (all_bound cs os) →
          AreThose (MustServe hold fail sh n cs) (t ∷ ts) (cond (a && b) (o.triple ∷ []) [] ++ all_bound cs os)
      go true true e f those = inl (sym h.0.0, must_from cs t o.places h.0.1 e f, those)
      go true false e f those = passed (MustServe hold fail sh n cs) t ts (all_bound cs os) (λ m. true≢false (sym (must_all cs t o.places h.0.1 m) ∙ f)) those
      go false b e f those = passed (MustServe hold fail sh n cs) t ts (all_bound cs os) (λ m. may_not cs t o.places h.0.1 e m.0) those

  module _ (g : List Triple) (ts : List Triple) where
    abbrev Reasons : List Reason → Type 0
    Reasons rs = AllByRecursion (IsReason hold fail g sh n ts) rs

    pub forbidden_are : (t : Triple) → Contains (outs g n) t → Reasons (forbidden_by sh n t)
    forbidden_are t out = go sh.closed (is_relevant sh.occs n t) refl refl
      where
        go : (a b : Bool) → sh.closed ≡ a → is_relevant sh.occs n t ≡ b → Reasons (cond (a && not b) (Forbidden t ∷ []) [])
        go true true e f = tt
        go true false e f = (record { closed = e; out = out; alone = f }, tt)
        go false b e f = tt

    pub unmatched_are : (t : Triple) (ps : List Place) → Contains ts t → ArePlacesFor hold fail sh n t ps → Reasons (unmatched_at t ps)
    unmatched_are t [] there are = (record { there = there; nowhere = λ p allowed. not_in_none p ((are.same p).1 allowed) }, tt)
    unmatched_are t (p ∷ ps) there are = tt

    module _ (c : Plan) (is : sh.body ≡ Some c) (distinct : IsDistinct c) (cs : List ℕ) (offers : List Offer) (are : AreOffers hold fail sh n ts offers) where
      pub few_are : LeastIsKept → Reasons (few_by (all_serving cs offers) cs (min (least_of cs c) (2 ^ 64 - 1)))
      few_are law = go (nat_lt (length (all_serving cs offers)) (min (least_of cs c) (2 ^ 64 - 1))) refl
        where
          go : (b : Bool) → nat_lt (length (all_serving cs offers)) (min (least_of cs c) (2 ^ 64 - 1)) ≡ b →
              Reasons (cond b (TooFew cs (min (least_of cs c) (2 ^ 64 - 1)) (all_serving cs offers) ∷ []) [])
          go true e = (
            record {
              expression = c;
              is = is;
              take = λ places h. at_least (least_of cs c) (2 ^ 64 - 1) _ (law c cs distinct places h);
              those = those_serving cs ts offers are;
              short = ltb-true (length (all_serving cs offers)) (min (least_of cs c) (2 ^ 64 - 1)) e;
            },
            tt,
          )
          go false e = tt

      pub many_are : MostIsKept → length offers < 2 ^ 31 → Reasons (many_by (all_bound cs offers) cs (capped (most_of cs c)))
      many_are law few = by (most_of cs c) refl
        where
          by : (x : Option ℕ) → most_of cs c ≡ x → Reasons (many_by (all_bound cs offers) cs (capped x))
          by None e = tt
          by (Some m) e = go (nat_lt (min m (2 ^ 64 - 1)) (length (all_bound cs offers))) refl
            where
              go : (b : Bool) → nat_lt (min m (2 ^ 64 - 1)) (length (all_bound cs offers)) ≡ b →
                  Reasons (cond b (TooMany cs (min m (2 ^ 64 - 1)) (all_bound cs offers) ∷ []) [])
              go true f =
                  let over : min m (2 ^ 64 - 1) < length (all_bound cs offers) = ltb-true (min m (2 ^ 64 - 1)) (length (all_bound cs offers)) f in
                  let short : length (all_bound cs offers) ≤ length offers = bound_short cs offers in
                  let same : m ≡ min m (2 ^ 64 - 1) = omega arith in (
                    record {
                      expression = c;
                      is = is;
                      take = law c cs (min m (2 ^ 64 - 1)) distinct (e ∙ ap (λ k. Some k) same);
                      those = those_bound cs ts offers are;
                      over = over;
                    },
                    tt,
                  )
              go false f = tt

      pub counted_are : LeastIsKept → MostIsKept → length offers < 2 ^ 31 → Reasons (counted_by c offers cs)
      counted_are least most few =
          all_append (IsReason hold fail g sh n ts) (few_by (all_serving cs offers) cs (min (least_of cs c) (2 ^ 64 - 1)))
          (many_by (all_bound cs offers) cs (capped (most_of cs c))) (few_are least) (many_are most few)

    -- of all of several
    pub all_flat : {X : Type 0} (f : X → List Reason) (xs : List X) → ((x : X) → Contains xs x → Reasons (f x)) → Reasons (flat_map f xs)
    all_flat f [] h = tt
    all_flat f (x ∷ xs) h = all_append (IsReason hold fail g sh n ts) (f x) (flat_map f xs) (h x (is_first x xs)) (all_flat f xs (λ y c. h y (is_later x xs y c)))

    pub all_unmatched : (rest : List Triple) (offers : List Offer) → ((t : Triple) → Contains rest t → Contains ts t) → AreOffers hold fail sh n rest offers → Reasons (flat_map unmatched_by offers)
    all_unmatched [] [] inside h = tt
    all_unmatched [] (o ∷ os) inside h = absurd h
    all_unmatched (t ∷ rest) [] inside h = absurd h
    all_unmatched (t ∷ rest) (o ∷ os) inside h =
        all_append (IsReason hold fail g sh n ts) (unmatched_at o.triple o.places) (flat_map unmatched_by os)
        (subst (λ u. Reasons (unmatched_at u o.places)) (sym h.0.0) (unmatched_are t o.places (inside t (is_first t rest)) h.0.1))
        (all_unmatched rest os (λ u c. inside u (is_later t rest u c)) h.1)

    pub all_counted : LeastIsKept → MostIsKept → BodyOk sh.occs sh.body → (offers : List Offer) → AreOffers hold fail sh n ts offers → length offers < 2 ^ 31 →
        (old new : List Reason) → AddsCounted (length sh.occs) sh.body offers old new → Reasons old → Reasons new
    all_counted least most ok offers are few old new adds h = go sh.body refl ok adds
      where
        go : (b : Option Plan) → sh.body ≡ b → BodyOk sh.occs b → AddsCounted (length sh.occs) b offers old new → Reasons new
        go None is ok same = subst Reasons (sym same) h
        go (Some c) is ok (sets, singles, same) =
            subst Reasons (sym same) (all_append (IsReason hold fail g sh n ts) old (flat_map (counted_by c offers) sets) h
            (all_flat (counted_by c offers) sets (λ cs of. counted_are c is ok.0 cs offers are least most few)))

    pub concluded_are :
        BoxHoldsCopies → ¬ HasPlaces hold fail g sh n ts → BodyOk sh.occs sh.body → (offers : List Offer) → AreOffers hold fail sh n ts offers →
        (old new : List Reason) → (old ≡ [] → (¬ IsShut g sh n) × ((t : Triple) → ¬ IsUnmatched hold fail g sh n ts t)) →
        Concludes (length sh.occs) sh.body offers old new → Reasons old → Reasons new
    concluded_are box none ok offers are (r ∷ rs) new apart same h = subst Reasons (sym same) h
    concluded_are box none ok offers are [] new apart said h = go sh.body refl ok said
      where
        by : ((low high : List ℕ) → ¬ HasNoMatchingCounts hold fail g sh n ts low high) → HasNoMatchingPlaces hold fail g sh n ts
        by counted = by_places hold fail g sh n ts none (apart refl).0 (apart refl).1 counted

        go : (b : Option Plan) → sh.body ≡ b → BodyOk sh.occs b → IsSaidOf (length sh.occs) b offers new → Reasons new
        go None is ok same = subst Reasons (sym same) (by (no_numbers hold fail g sh n ts is), tt)
        go (Some c) is ok (low, high, ranges, inl (no_copy, same)) = subst Reasons (sym same) (
          record {
            expression = c;
            is = is;
            low_is = ranges.least.0;
            high_is = ranges.most.0;
            least = λ i lt. (all_bound (i ∷ []) offers, those_bound (i ∷ []) ts offers are, ranges.least.1 i lt);
            most = λ i lt. (all_serving (i ∷ []) offers, those_serving (i ∷ []) ts offers are, ranges.most.1 i lt);
            none = λ counts under over copies. no_copy (box c (slice_index low) counts (slice_index high) 1 under over copies);
          },
          tt,
        )
        go (Some c) is ok (low, high, ranges, inr (has, same)) = subst Reasons (sym same) (
          by (numbers_match hold fail g sh n ts c is ok low high
              (λ i lt. (all_bound (i ∷ []) offers, those_bound (i ∷ []) ts offers are, ranges.least.1 i lt))
              (λ i lt. (all_serving (i ∷ []) offers, those_serving (i ∷ []) ts offers are, ranges.most.1 i lt)) has),
          tt,
        )

pub some_left : (count : ℕ) (b : Option Plan) (offers : List Offer) (old new : List Reason) → Concludes count b offers old new → 0 < length new
some_left count b offers (r ∷ rs) new same = subst (λ z. 0 < length z) (sym same) (omega arith)
some_left count None offers [] new same = subst (λ z. 0 < length z) (sym same) (omega arith)
some_left count (Some c) offers [] new (low, high, ranges, inl (no_copy, same)) = subst (λ z. 0 < length z) (sym same) (omega arith)
some_left count (Some c) offers [] new (low, high, ranges, inr (has, same)) = subst (λ z. 0 < length z) (sym same) (omega arith)
