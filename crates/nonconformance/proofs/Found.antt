-- What is found of a node with a Shape are reasons.
use Rattle.std.proofs.Common.{◌≡◌, ℕ, ◌^◌, ◌<◌, ◌≤◌, refl, arith, inl, inr, sym, subst, ap, ◌∙◌, ◌-◌, min, length, List, [], ◌∷◌, ◌++◌, Bool, true, false, true≢false, cond, not}
use Rattle.std.proofs.lemmas.Bool.{ltb-false}
use Rattle.std.proofs.lemmas.List.Sorted.{Contains-permutation, IsPermutation-sym}
use Rattle.std.specs.Prelude.{Contains, Option, ◌&&◌, Some, None, nat_lt}
use Rattle.std.specs.List.{AllByRecursion, flat_map}
use Rattle.std.proofs.lemmas.List.Elements.{Contains-append_left, Contains-append_right}
use Rattle.lists.proofs.Beside.{beside, same_length}
use Rattle.lists.proofs.Members.{in_flat_map, in_one, is_first, not_in_none}
use Rattle.bag_match.specs.Least.{ArePlacesFor}
use Rattle.schema_tree.specs.declared.verdicts.Place.{Place}
use Rattle.lists.proofs.Ordered.{sorted_same}
use Rattle.lists.proofs.Quantifiers.{all_append, all_at}
use Rattle.lists.specs.Sorting.{sorted_by}
use Rattle.rdf_terms.specs.declared.terms.Term.{Term}
use Rattle.rdf_terms.specs.declared.terms.TermId.{TermId}
use Rattle.rdf_terms.specs.declared.terms.Triple.{Triple}
use Rattle.rdf_terms.specs.Graphs.{outs}
use Rattle.rdf_terms.specs.Order.{by_object}
use Rattle.tally.specs.Laws.{BoxHoldsCopies, IntervalHasCopies, OwnSymbolsDecide}
use Rattle.tally.specs.Plan.{Plan}
use Rattle.schema_tree.specs.declared.schema.ExprId.{ExprId}
use Rattle.schema_tree.specs.declared.schema.Shape.{Shape}
use Rattle.schema_tree.specs.Loaded.{BodyOk}
use Rattle.schema_tree.specs.Places.{HasPlaces, IsAllowed, IsShut}
use Rattle.schema_tree.specs.Relevant.{is_relevant, relevant_in_order}
use Rattle.bag_match.proofs.Neighbours.{relevant_few}
use Rattle.nonconformance.specs.declared.offers.Offer.{Offer}
use Rattle.nonconformance.specs.declared.reason.Reason.{Reason}
use Rattle.nonconformance.specs.declared.reason.Reason.TheVariants.{Forbidden, Unmatched, TooFew, TooMany, NoMatchingCounts, NoMatchingPlaces}
use Rattle.nonconformance.specs.Bounds.{capped, least_of, most_of}
use Rattle.nonconformance.specs.Laws.{LeastIsKept, MostIsKept}
use Rattle.nonconformance.specs.Offers.{AddsCounted, AreOffers, Concludes, IsSaidOf, all_bound, all_serving, counted_by, few_by, forbidden_by, many_by, unmatched_at, unmatched_by}
use Rattle.nonconformance.specs.Found.{AreFound, single_reasons}
use Rattle.nonconformance.specs.Reasons.{CountsFor, HasFlatBody, HaveNoChoice, IsNamed, IsOfTriple, IsReason, IsUnmatched, MayServe, MustServe}
use Rattle.nonconformance.specs.Those.{AreThose}
use Rattle.nonconformance.proofs.Items.{those_one}
use Rattle.nonconformance.proofs.Naming.{counted_named, forbidden_named, left_none, named_before, never_empty, never_without_places, not_shut, old_none, unmatched_named}
use Rattle.nonconformance.proofs.Offering.{all_counted, all_flat, all_unmatched, concluded_are, forbidden_are, those_bound, those_serving}

module _ (hold fail : TermId → Option ExprId → Type 0) (terms : List Term) (g : List Triple) (sh : Shape) (n : TermId) where
  abbrev ts : List Triple
  ts = relevant_in_order terms g sh n

  abbrev lent_outs : List Triple
  lent_outs = sorted_by (by_object terms) (outs g n)

  abbrev Found : List Reason → Type 0
  Found rs = AreFound hold fail terms g sh n rs

  pub few_offers : (triples : List Triple) (offers : List Offer) (held : ℕ) → triples ≡ ts → AreOffers hold fail sh n triples offers → held ≡ length g → held ≤ 4000000 →
      length offers < 2 ^ 31
  few_offers triples offers held same are count most =
      let long : length ts ≡ length offers = same_length _ ts offers (subst (λ us. AreOffers hold fail sh n us offers) same are) in
      bounded (length offers) (length ts) (length g) held long (relevant_few terms g sh n) count most
    where
      bounded : (a b c d : ℕ) → b ≡ a → b ≤ c → d ≡ c → d ≤ 4000000 → a < 2 ^ 31
      bounded a b c d e f h k = omega arith

  pub found_from :
      (lent triples : List Triple) (offers again twice thrice : List Offer) (held : ℕ) (r₀ r₁ r₂ r₃ rs : List Reason) → lent ≡ lent_outs →
      triples ≡ ts → AreOffers hold fail sh n triples offers → held ≡ length g → held ≤ 4000000 →
      r₀ ≡ [] → r₁ ≡ r₀ ++ flat_map (forbidden_by sh n) lent → again ≡ offers → r₂ ≡ r₁ ++ flat_map unmatched_by again → twice ≡ offers →
      AddsCounted (length sh.occs) sh.body twice r₂ r₃ → thrice ≡ offers → Concludes (length sh.occs) sh.body thrice r₃ rs → Found rs
  found_from lent triples offers again twice thrice held r₀ r₁ r₂ r₃ rs lent_are same are count most none first a second b adds d last =
      let start : r₁ ≡ flat_map (forbidden_by sh n) lent_outs =
      first ∙ ap (λ z. z ++ flat_map (forbidden_by sh n) lent) none ∙ ap (λ z. flat_map (forbidden_by sh n) z) lent_are in
      let next : r₂ ≡ single_reasons hold fail terms g sh n offers =
      second ∙ ap (λ z. z ++ flat_map unmatched_by again) start ∙ ap (λ z. flat_map (forbidden_by sh n) lent_outs ++ flat_map unmatched_by z) a in
      record {
        offers = offers;
        are = subst (λ us. AreOffers hold fail sh n us offers) same are;
        few = few_offers triples offers held same are count most;
        before = r₃;
        counted = subst (λ z. AddsCounted (length sh.occs) sh.body z (single_reasons hold fail terms g sh n offers) r₃) b
            (subst (λ z. AddsCounted (length sh.occs) sh.body twice z r₃) next adds);
        is = subst (λ z. Concludes (length sh.occs) sh.body z r₃ rs) d last;
      }

  into : (t : Triple) → Contains (outs g n) t → Contains lent_outs t
  into t c = Contains-permutation (outs g n) lent_outs t (sorted_same (by_object terms) (outs g n)) c

  forbidden_there : (t : Triple) → sh.closed ≡ true → is_relevant sh.occs n t ≡ false → Contains (forbidden_by sh n t) (Forbidden t)
  forbidden_there t closed none = go sh.closed (is_relevant sh.occs n t) closed none
    where
      go : (a b : Bool) → a ≡ true → b ≡ false → Contains (cond (a && not b) (Forbidden t ∷ []) []) (Forbidden t)
      go true true e f = absurd (true≢false f)
      go true false e f = is_first (Forbidden t) []
      go false b e f = absurd (true≢false (sym e))

  unmatched_there : (t : Triple) (ps : List Place) → ArePlacesFor hold fail sh n t ps → ((p : Place) → ¬ IsAllowed hold fail sh n t p) → Contains (unmatched_at t ps) (Unmatched t)
  unmatched_there t [] are nowhere = is_first (Unmatched t) []
  unmatched_there t (p ∷ ps) are nowhere = absurd (nowhere p ((are.same p).0 (is_first p ps)))

  -- each reason of one triple alone is among those of single triples
  single_there : (offers : List Offer) → AreOffers hold fail sh n ts offers → (r : Reason) → IsOfTriple r → IsReason hold fail g sh n ts r →
      Contains (single_reasons hold fail terms g sh n offers) r
  single_there offers are (Forbidden t) of h =
      Contains-append_left (flat_map (forbidden_by sh n) lent_outs) (flat_map unmatched_by offers) (Forbidden t)
      (in_flat_map (forbidden_by sh n) lent_outs t (Forbidden t) (into t h.out) (forbidden_there t h.closed h.alone))
  single_there offers are (Unmatched t) of h =
      let (o, c, both) = beside _ ts offers are t h.there in
      Contains-append_right (flat_map (forbidden_by sh n) lent_outs) (flat_map unmatched_by offers) (Unmatched t)
      (in_flat_map unmatched_by offers o (Unmatched t) c
      (subst (λ u. Contains (unmatched_at u o.places) (Unmatched t)) (sym both.0) (unmatched_there t o.places both.1 h.nowhere)))
  single_there offers are (TooFew cs least found) of h = absurd of
  single_there offers are (TooMany cs most found) of h = absurd of
  single_there offers are (NoMatchingCounts low high) of h = absurd of
  single_there offers are NoMatchingPlaces of h = absurd of

  -- where nothing is found of single triples and of numbers, the pair is not shut, and no triple is unmatched
  nothing_single : (rs : List Reason) (x : Found rs) → x.before ≡ [] → (¬ IsShut g sh n) × ((t : Triple) → ¬ IsUnmatched hold fail g sh n ts t)
  nothing_single rs x e = (
    not_shut hold fail g sh n lent_outs into (left_none (flat_map (forbidden_by sh n) lent_outs) (flat_map unmatched_by x.offers) nothing),
    (λ t h. not_in_none (Unmatched t) (subst (λ z. Contains z (Unmatched t)) nothing (single_there x.offers x.are (Unmatched t) tt h))),
  )
    where
      nothing : single_reasons hold fail terms g sh n x.offers ≡ []
      nothing = old_none hold fail g sh n ts sh.body x.offers (single_reasons hold fail terms g sh n x.offers)
          (subst (λ z. AddsCounted (length sh.occs) sh.body x.offers (single_reasons hold fail terms g sh n x.offers) z) e x.counted)

  pub found_sound :
      LeastIsKept → MostIsKept → BoxHoldsCopies → BodyOk sh.occs sh.body → (rs : List Reason) → Found rs → ¬ HasPlaces hold fail g sh n ts →
      AllByRecursion (IsReason hold fail g sh n ts) rs
  found_sound least most box ok rs x none =
      concluded_are hold fail sh n g ts box none ok x.offers x.are x.before rs (nothing_single rs x) x.is
      (all_counted hold fail sh n g ts least most ok x.offers x.are x.few _ x.before x.counted
      (all_append (IsReason hold fail g sh n ts) (flat_map (forbidden_by sh n) lent_outs) (flat_map unmatched_by x.offers)
      (all_flat hold fail sh n g ts (forbidden_by sh n) lent_outs (λ t c. forbidden_are hold fail sh n g ts t (out t c)))
      (all_unmatched hold fail sh n g ts ts x.offers (λ t c. c) x.are)))
    where
      out : (t : Triple) → Contains lent_outs t → Contains (outs g n) t
      out t c = Contains-permutation lent_outs (outs g n) t (IsPermutation-sym (outs g n) lent_outs (sorted_same (by_object terms) (outs g n))) c

  pub found_forced :
      IntervalHasCopies → OwnSymbolsDecide → BodyOk sh.occs sh.body → (rs : List Reason) → Found rs → ¬ HasPlaces hold fail g sh n ts → HaveNoChoice hold fail sh n ts →
      ¬ Contains rs NoMatchingPlaces
  found_forced interval own ok rs x none one =
      never_without_places hold fail g sh n ts lent_outs into x.offers x.are one interval own none ok x.before rs x.counted x.is

  pub found_named :
      BodyOk sh.occs sh.body → (rs : List Reason) → Found rs → ¬ HasPlaces hold fail g sh n ts → HasFlatBody sh.body → HaveNoChoice hold fail sh n ts → AllByRecursion IsNamed rs
  found_named ok rs x none flat one = go x.before refl
    where
      go : (before : List Reason) → x.before ≡ before → AllByRecursion IsNamed rs
      go [] e =
          absurd (never_empty hold fail g sh n ts lent_outs into x.offers x.are one none ok flat x.few
          (subst (λ z. AddsCounted (length sh.occs) sh.body x.offers (single_reasons hold fail terms g sh n x.offers) z) e x.counted))
      go (r ∷ before) e =
          subst (λ z. AllByRecursion IsNamed z) (sym (subst (λ z. Concludes (length sh.occs) sh.body x.offers z rs) e x.is))
          (subst (λ z. AllByRecursion IsNamed z) e (named_before hold fail g sh n ts lent_outs into x.offers x.are one x.before x.counted))

  -- what is among those found first is among all
  first_there : (old : List Reason) (b : Option Plan) (offers : List Offer) (before rs : List Reason) → AddsCounted (length sh.occs) b offers old before →
      Concludes (length sh.occs) sh.body offers before rs → (r : Reason) → Contains old r → Contains rs r
  first_there old b offers before rs adds said r c = ended before said (in_before b adds)
    where
      in_before : (b : Option Plan) → AddsCounted (length sh.occs) b offers old before → Contains before r
      in_before None same = subst (λ z. Contains z r) (sym same) c
      in_before (Some p) (sets, singles, same) = subst (λ z. Contains z r) (sym same) (Contains-append_left old _ r c)

      ended : (before : List Reason) → Concludes (length sh.occs) sh.body offers before rs → Contains before r → Contains rs r
      ended [] said d = absurd (not_in_none r d)
      ended (x ∷ xs) same d = subst (λ z. Contains z r) (sym same) d

  pub found_whole : (rs : List Reason) → Found rs → (r : Reason) → IsOfTriple r → IsReason hold fail g sh n ts r → Contains rs r
  found_whole rs x r of h = first_there _ sh.body x.offers x.before rs x.counted x.is r (single_there x.offers x.are r of h)

  -- what is found ahead of a conclusion is among all
  at_last : (before rs : List Reason) (offers : List Offer) → Concludes (length sh.occs) sh.body offers before rs → (r : Reason) → Contains before r → Contains rs r
  at_last [] rs offers said r d = absurd (not_in_none r d)
  at_last (x ∷ xs) rs offers same r d = subst (λ z. Contains z r) (sym same) d

  few_there : (found : List Triple) (cs : List ℕ) (least : ℕ) → length found < least → Contains (few_by found cs least) (TooFew cs least found)
  few_there found cs least lt = go (nat_lt (length found) least) refl
    where
      go : (b : Bool) → nat_lt (length found) least ≡ b → Contains (cond b (TooFew cs least found ∷ []) []) (TooFew cs least found)
      go true e = is_first (TooFew cs least found) []
      go false e = absurd (let ge : least ≤ length found = ltb-false (length found) least e in omega arith)

  many_there : (found : List Triple) (cs : List ℕ) (x : Option ℕ) (most : ℕ) → x ≡ Some most → most < length found → Contains (many_by found cs x) (TooMany cs most found)
  many_there found cs x most is lt = subst (λ z. Contains (many_by found cs z) (TooMany cs most found)) (sym is) (go (nat_lt most (length found)) refl)
    where
      go : (b : Bool) → nat_lt most (length found) ≡ b → Contains (cond b (TooMany cs most found ∷ []) []) (TooMany cs most found)
      go true e = is_first (TooMany cs most found) []
      go false e = absurd (let ge : length found ≤ most = ltb-false most (length found) e in omega arith)

  -- what is wrong with the number of triples for some constraints is all that is
  counted_there :
      (offers : List Offer) → AreOffers hold fail sh n ts offers → (c : Plan) (cs : List ℕ) (r : Reason) → CountsFor cs c r → IsReason hold fail g sh n ts r →
      Contains (counted_by c offers cs) r
  counted_there offers are c cs (TooFew these least found) (of, is) h =
      let same : found ≡ all_serving cs offers =
      those_one (MayServe hold fail sh n cs) ts found (all_serving cs offers) (subst (λ z. AreThose (MayServe hold fail sh n z) ts found) of h.those) (those_serving hold fail sh n cs ts offers are) in
      Contains-append_left (few_by (all_serving cs offers) cs (min (least_of cs c) (2 ^ 64 - 1))) (many_by (all_bound cs offers) cs (capped (most_of cs c))) (TooFew these least found)
      (subst (λ z. Contains (few_by (all_serving cs offers) cs (min (least_of cs c) (2 ^ 64 - 1))) (TooFew z least found)) (sym of)
      (subst (λ k. Contains (few_by (all_serving cs offers) cs k) (TooFew cs least found)) is
      (subst (λ z. Contains (few_by z cs least) (TooFew cs least found)) same (few_there found cs least h.short))))
  counted_there offers are c cs (TooMany these most found) (of, is) h =
      let same : found ≡ all_bound cs offers =
      those_one (MustServe hold fail sh n cs) ts found (all_bound cs offers) (subst (λ z. AreThose (MustServe hold fail sh n z) ts found) of h.those) (those_bound hold fail sh n cs ts offers are) in
      Contains-append_right (few_by (all_serving cs offers) cs (min (least_of cs c) (2 ^ 64 - 1))) (many_by (all_bound cs offers) cs (capped (most_of cs c))) (TooMany these most found)
      (subst (λ z. Contains (many_by (all_bound cs offers) cs (capped (most_of cs c))) (TooMany z most found)) (sym of)
      (subst (λ z. Contains (many_by z cs (capped (most_of cs c))) (TooMany cs most found)) same (many_there found cs (capped (most_of cs c)) most is h.over)))
  counted_there offers are c cs (Forbidden t) of h = absurd of
  counted_there offers are c cs (Unmatched t) of h = absurd of
  counted_there offers are c cs (NoMatchingCounts low high) of h = absurd of
  counted_there offers are c cs NoMatchingPlaces of h = absurd of

  pub found_counted :
      (rs : List Reason) → Found rs → (c : Plan) → sh.body ≡ Some c → (i : ℕ) → i < length sh.occs → (r : Reason) → CountsFor (i ∷ []) c r →
      IsReason hold fail g sh n ts r → Contains rs r
  found_counted rs x c is i lt r of h =
      at_last x.before rs x.offers x.is r (by (subst (λ b. AddsCounted (length sh.occs) b x.offers (single_reasons hold fail terms g sh n x.offers) x.before) is x.counted))
    where
      by : AddsCounted (length sh.occs) (Some c) x.offers (single_reasons hold fail terms g sh n x.offers) x.before → Contains x.before r
      by (sets, singles, same) =
          subst (λ z. Contains z r) (sym same)
          (Contains-append_right (single_reasons hold fail terms g sh n x.offers) (flat_map (counted_by c x.offers) sets) r
          (in_flat_map (counted_by c x.offers) sets (i ∷ []) r (singles i lt) (counted_there x.offers x.are c (i ∷ []) r of h)))

  -- a reason that names nothing stands alone
  pub found_alone : (rs : List Reason) → Found rs → (r : Reason) → ¬ IsNamed r → Contains rs r → rs ≡ r ∷ []
  found_alone rs x r unnamed there = go x.before refl
    where
      sole : (y : Reason) → rs ≡ y ∷ [] → rs ≡ r ∷ []
      sole y same = same ∙ ap (λ z. z ∷ []) (in_one y r (subst (λ z. Contains z r) same there))

      said : (b : Option Plan) → IsSaidOf (length sh.occs) b x.offers rs → rs ≡ r ∷ []
      said None same = sole NoMatchingPlaces same
      said (Some c) (low, high, ranges, inl (none, same)) = sole (NoMatchingCounts low high) same
      said (Some c) (low, high, ranges, inr (has, same)) = sole NoMatchingPlaces same

      named : AllByRecursion IsNamed x.before
      named = counted_named (length sh.occs) sh.body x.offers (single_reasons hold fail terms g sh n x.offers) x.before x.counted
          (all_append IsNamed (flat_map (forbidden_by sh n) lent_outs) (flat_map unmatched_by x.offers) (forbidden_named sh n lent_outs) (unmatched_named x.offers))

      go : (before : List Reason) → x.before ≡ before → rs ≡ r ∷ []
      go [] e = said sh.body (subst (λ z. Concludes (length sh.occs) sh.body x.offers z rs) e x.is)
      go (y ∷ before) e =
          let same : rs ≡ y ∷ before = subst (λ z. Concludes (length sh.occs) sh.body x.offers z rs) e x.is in
          absurd (unnamed (all_at IsNamed rs r (subst (λ z. AllByRecursion IsNamed z) (sym same) (subst (λ z. AllByRecursion IsNamed z) e named)) there))
