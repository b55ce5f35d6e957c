-- Witnesses while pairs go.
use Rattle.std.proofs.Common.{◌≡◌, ◌≢◌, ◌∙◌, ℕ, ◌+◌, ◌<◌, ◌≤◌, ◌⊎◌, inl, inr, List, [], ◌∷◌, ◌++◌, refl, sym, subst, ap, length, drop, take, get_or, ltb, Bool, true, false}
use borrow.Author.Tests.{ltb-true}
use Rattle.std.proofs.lemmas.Option.{slice_get_read}
use Rattle.std.proofs.lemmas.Bool.{and_parts, cases_eq}
use Rattle.std.proofs.lemmas.List.{drop_all, drop_more, nil_from_length}
use Rattle.std.proofs.lemmas.List.Elements.{Contains-append_cases, Contains-append_left, Contains-append_right}
use Rattle.std.specs.Bool.{OnTrue}
use Rattle.std.specs.Global.{Box}
use Rattle.std.specs.List.{Any}
use Rattle.std.specs.Prelude.{◌↔◌, Contains, IfOk, IfSome, Option, Some, None, Result, Ok, Err, option_map, slice_get, slice_set}
use Rattle.lists.proofs.Decided.{Decided, decide_member, from_test}
use Rattle.lists.proofs.Members.{got_in, in_map, in_rest, not_in_none}
use Rattle.rdf_terms.specs.declared.terms.Term.{Term}
use Rattle.rdf_terms.specs.declared.terms.TermId.{TermId}
use Rattle.rdf_terms.specs.declared.terms.Triple.{Triple}
use Rattle.rdf_terms.specs.Graphs.{same_id}
use Rattle.rdf_terms.proofs.SameTerms.{same_is}
use Rattle.schema_tree.specs.declared.schema.ExprId.{ExprId}
use Rattle.schema_tree.specs.declared.schema.Occurrence.{Occurrence}
use Rattle.schema_tree.specs.declared.schema.Pair.{Pair}
use Rattle.schema_tree.specs.declared.schema.Schema.{Schema}
use Rattle.schema_tree.specs.declared.schema.Shape.{Shape}
use Rattle.schema_tree.specs.declared.schema.ShapeId.{ShapeId}
use Rattle.schema_tree.specs.declared.verdicts.Lean.TheVariants.{Possible}
use Rattle.schema_tree.specs.declared.verdicts.Place.{Place}
use Rattle.schema_tree.specs.declared.verdicts.Verdict.{Verdict}
use Rattle.schema_tree.specs.declared.verdicts.Verdict.TheVariants.{Yes, No, Unknown}
use Rattle.schema_tree.specs.Edges.{StandsIn}
use Rattle.schema_tree.specs.Entries.{pair_of, shape_at}
use Rattle.schema_tree.specs.Matches.{fits, near_end, other_end}
use Rattle.schema_tree.specs.Needs.{Needs}
use Rattle.schema_tree.specs.Places.{AreAllowed, CanMatch, HaveCounts, IsAllowed, MayFail, MayHold, PairCanMatch, times}
use Rattle.schema_tree.specs.Relevant.{relevant_in_order}
use Rattle.schema_tree.specs.Satisfies.{Sat}
use Rattle.schema_tree.specs.Sure.{Known, PairIs}
use Rattle.schema_tree.proofs.Leans.{all_weaker_allowed}
use Rattle.schema_tree.proofs.Needed.{in_graph, need_of}
use Rattle.schema_tree.proofs.ToPlaces.{forward_parts}
use Rattle.removal_laws.specs.Marks.{known_by, marked, outside}
use Rattle.removal_laws.proofs.Carried.{AreAlike, fail_alike, hold_alike}
use Rattle.removal_laws.proofs.Known.{set_other}
use Rattle.removal_laws.proofs.Marking.{from_mark, to_mark}
use Rattle.bag_match.specs.Outcomes.{IsOutcome, IsOutcomeOf}
use Rattle.bag_match.specs.declared.outcome.Outcome.TheVariants.{Placed}
use Rattle.bag_match.specs.Counts.{ArePlacesOf, IsPlaceOf}
use Rattle.bag_match.proofs.Offered.{allowed_there}
use Rattle.graph_index.proofs.Held.{triple_decides, same_triple}
use Rattle.typing_refiner.specs.declared.ground.Ground.{Ground}
use Rattle.typing_refiner.specs.declared.witness.Witness.{Witness}
use Rattle.typing_refiner.specs.Holding.{AllShow, AllShowBut, CanMatchAt, Holds}
use Rattle.typing_refiner.specs.Ready.{GoesBack, IsAmong, IsReady, Waits, known_of}
use Rattle.typing_refiner.specs.Witnessed.{FitAlike, IsStanding, IsTally, IsWitness, IsWitnessBut, IsWitnessOf, all_between, between}
use Rattle.typing_refiner.proofs.Tallies.{all_allowed, more_free, one_allowed, repeated}
use Rattle.typing_refiner.proofs.Waiting.{in_more}

-- ---- what is known of another pair does not change with a mark

module _ (elsewhere : Known) (pairs : List Pair) (marks : List Verdict) (at : ℕ) (w : Verdict) (q : Pair) (here : slice_get pairs at ≡ Some q) where
  abbrev marks' : List Verdict
  marks' = slice_set marks at w

  other_place : (u : Pair) → u ≢ q → (i : ℕ) → slice_get pairs i ≡ Some u → i ≢ at
  other_place u ne i there e = ne (let both : Some u ≡ Some q = sym there ∙ (ap (λ k. slice_get pairs k) e ∙ here) in cc)

  on : (u : Pair) → u ≢ q → (v : Verdict) (others : List Pair) → Contains (marked v pairs marks ++ outside pairs others) u → Contains (marked v pairs marks' ++ outside pairs others) u
  on u ne v others c = elim (Contains-append_cases (marked v pairs marks) (outside pairs others) u c) [
    | inl m ↦ (let (i, there, mark) = to_mark v pairs marks u m in
        Contains-append_left (marked v pairs marks') (outside pairs others) u (from_mark v pairs marks' u (i, there, set_other marks at i w (other_place u ne i there) ∙ mark)))
    | inr o ↦ Contains-append_right (marked v pairs marks') (outside pairs others) u o
  ]

  back : (u : Pair) → u ≢ q → (v : Verdict) (others : List Pair) → Contains (marked v pairs marks' ++ outside pairs others) u → Contains (marked v pairs marks ++ outside pairs others) u
  back u ne v others c = elim (Contains-append_cases (marked v pairs marks') (outside pairs others) u c) [
    | inl m ↦ (let (i, there, mark) = to_mark v pairs marks' u m in
        Contains-append_left (marked v pairs marks) (outside pairs others) u (from_mark v pairs marks u (i, there, sym (set_other marks at i w (other_place u ne i there)) ∙ mark)))
    | inr o ↦ Contains-append_right (marked v pairs marks) (outside pairs others) u o
  ]

  pub known_alike : (u : Pair) → u ≢ q → (v : Verdict) → PairIs (known_by elsewhere pairs marks) u v ↔ PairIs (known_by elsewhere pairs marks') u v
  known_alike u ne Yes = (on u ne Yes elsewhere.yes, back u ne Yes elsewhere.yes)
  known_alike u ne No = (
    (λ h. ((λ c. h.0 (back u ne Yes elsewhere.yes c)), on u ne No elsewhere.no h.1)),
    (λ h. ((λ c. h.0 (on u ne Yes elsewhere.yes c)), back u ne No elsewhere.no h.1)),
  )
  known_alike u ne Unknown = (
    (λ h. ((λ c. h.0 (back u ne Yes elsewhere.yes c)), (λ c. h.1 (back u ne No elsewhere.no c)))),
    (λ h. ((λ c. h.0 (on u ne Yes elsewhere.yes c)), (λ c. h.1 (on u ne No elsewhere.no c)))),
  )

-- ---- an occurrence that fits a triple at a node, with its other end

fits_between : (o : Occurrence) (n m : TermId) (t : Triple) → fits o n t ≡ true → other_end o.inverse t ≡ m → between o.inverse o.predicate n m ≡ t
fits_between o n m t fit end = by o.inverse (and_parts (same_id o.predicate t.p) (same_id (near_end o.inverse t) n) fit) end
  where
    by : (b : Bool) → (same_id o.predicate t.p ≡ true) × (same_id (near_end b t) n ≡ true) → other_end b t ≡ m → between b o.predicate n m ≡ t
    by false (p, near) e = let a = same_is o.predicate t.p p in let b = same_is t.s n near in λ i. record { s = sym b i; p = a i; o = sym e i }
    by true (p, near) e = let a = same_is o.predicate t.p p in let b = same_is t.o n near in λ i. record { s = sym e i; p = a i; o = sym b i }

-- ---- places stay allowed where what they rest on is known alike

module _ (s : Schema) (terms : List Term) (a b : Known) (q : Pair) (alike : (u : Pair) → u ≢ q → (v : Verdict) → PairIs a u v ↔ PairIs b u v) (sh : Shape) (n : TermId) where
  -- no value that the triple is held against asks for the pair
  abbrev IsApartFrom : Triple → Type 0
  IsApartFrom t = (o : Occurrence) → Contains sh.occs o → fits o n t ≡ true → (e : ExprId) → o.value ≡ Some e → (i : ShapeId) (sign : Bool) → StandsIn s i e sign →
      pair_of (other_end o.inverse t) i ≢ q

  at_end : (t : Triple) → IsApartFrom t → (o : Occurrence) → Contains sh.occs o → fits o n t ≡ true → (e : ExprId) → o.value ≡ Some e → AreAlike s terms a b (other_end o.inverse t) e
  at_end t apart o of fit e value i sign st = alike (pair_of (other_end o.inverse t) i) (apart o of fit e value i sign st)

  pub place_stays : (t : Triple) (p : Place) → IsApartFrom t → IsAllowed (MayHold s terms a Possible) (MayFail s terms a Possible) sh n t p →
      IsAllowed (MayHold s terms b Possible) (MayFail s terms b Possible) sh n t p
  place_stays t p apart h =
      (all_weaker_allowed (MayHold s terms a Possible) (MayFail s terms a Possible) (MayHold s terms b Possible) (MayFail s terms b Possible) sh n IsApartFrom
      (λ u o far of fit. hold_alike s terms a b (other_end o.inverse u) Possible o.value (at_end u far o of fit))
      (λ u o far extra of forward.
      let parts = forward_parts (Sat s terms []) [] sh n u o forward in
      fail_alike s terms a b u.o Possible o.value
      (subst (λ d. (e : ExprId) → o.value ≡ Some e → AreAlike s terms a b (other_end d u) e) parts.0 (at_end u far o of parts.1)))
      (t ∷ []) (p ∷ [])
      (λ u c. subst (λ v. IsApartFrom v) (only t u c) apart) (h, tt)).0
    where
      only : (x y : Triple) → Contains (x ∷ []) y → x ≡ y
      only x y c = elim (in_rest x [] y c) [ inl e ↦ e | inr later ↦ absurd (not_in_none y later) ]

-- ---- a witness when a pair goes

module _ (h : Ground) (a b : Known) (q : Pair) (alike : (u : Pair) → u ≢ q → (v : Verdict) → PairIs a u v ↔ PairIs b u v) (p : Pair) (w : Witness) where
  abbrev Stands : Known → Shape → List Triple → Type 0
  Stands view sh free = IsStanding (MayHold h.schema.now h.terms.now view Possible) (MayFail h.schema.now h.terms.now view Possible) sh p.node free w

  with_standing : (sh : Shape) (free less : List Triple) → IsWitness h a p sh free w → Stands b sh less → IsWitness h b p sh less w
  with_standing sh free less r s = record { open_to = r.open_to; triples = r.triples; tally = r.tally; standing = s }

  -- it stays one where the pair is not needed
  pub shows_on : IsWitnessOf h a p w → ¬ Needs h.schema.now h.graph.now.triples p q → IsWitnessOf h b p w
  shows_on (sh, is, r) none = (sh, is, with_standing sh _ _ r (record { allowed = each; spelled = r.standing.spelled }))
    where
      each : (i : ℕ) (t : Triple) (pl : Place) → slice_get w.triples i ≡ Some t → slice_get w.places.items i ≡ Some pl →
          Contains [] t ⊎ IsAllowed (MayHold h.schema.now h.terms.now b Possible) (MayFail h.schema.now h.terms.now b Possible) sh p.node t pl
      each i t pl at spot = elim (r.standing.allowed i t pl at spot) [
        | inl bad ↦ inl bad
        | inr ok ↦ inr (place_stays h.schema.now h.terms.now a b q alike sh p.node t pl apart ok)
      ]
        where
          held : Contains h.graph.now.triples t
          held = in_graph h.terms.now h.graph.now.triples sh p.node t (subst (λ ts. Contains ts t) r.triples (got_in w.triples i t at))

          apart : (o : Occurrence) → Contains sh.occs o → fits o p.node t ≡ true → (e : ExprId) → o.value ≡ Some e → (j : ShapeId) (sign : Bool) → StandsIn h.schema.now j e sign →
              pair_of (other_end o.inverse t) j ≢ q
          apart o of fit e value j sign st same =
              none (subst (λ u. Needs h.schema.now h.graph.now.triples p u) same (need_of h.schema.now h.graph.now.triples p sh is t held o of fit e value j sign st))

  -- and else but for triples that end at its node
  pub shows_but : IsWitnessOf h a p w → IsWitnessBut h b q p w
  shows_but (sh, is, r) = (sh, is, with_standing sh _ _ r (record { allowed = each; spelled = r.standing.spelled }))
    where
      each : (i : ℕ) (t : Triple) (pl : Place) → slice_get w.triples i ≡ Some t → slice_get w.places.items i ≡ Some pl →
          Contains (all_between sh.occs p.node q.node) t ⊎ IsAllowed (MayHold h.schema.now h.terms.now b Possible) (MayFail h.schema.now h.terms.now b Possible) sh p.node t pl
      each i t pl at spot = elim (decide_member (λ x y. from_test (same_triple x y) (triple_decides x y)) (all_between sh.occs p.node q.node) t) [
        | inl c ↦ inl c
        | inr far ↦ elim (r.standing.allowed i t pl at spot) [
          | inl bad ↦ absurd (not_in_none t bad)
          | inr ok ↦ inr (place_stays h.schema.now h.terms.now a b q alike sh p.node t pl
              (λ o of fit e value j sign st same. far (subst (λ u. Contains (all_between sh.occs p.node q.node) u)
              (fits_between o p.node q.node t fit (ap (λ u. u.node) same)) (in_map (λ c. between c.inverse c.predicate p.node q.node) sh.occs o of))) ok)
        ]
      ]

-- ---- what a witness shows

pub shows_can : (h : Ground) (view : Known) (p : Pair) (w : Witness) → IsWitnessOf h view p w → PairCanMatch h.schema.now h.terms.now h.graph.now.triples view Possible p
shows_can h view p w (sh, is, r) =
    subst (λ x. CanMatch h.schema.now h.terms.now h.graph.now.triples view Possible p.node x) (sym is) (record {
      open_to = r.open_to;
      places = w.places.items;
      allowed = subst (λ ts. AreAllowed (MayHold h.schema.now h.terms.now view Possible) (MayFail h.schema.now h.terms.now view Possible) sh p.node ts w.places.items) r.triples
          (all_allowed (MayHold h.schema.now h.terms.now view Possible) (MayFail h.schema.now h.terms.now view Possible) sh p.node w.triples w.places.items r.tally.each
          (λ i t pl a b. elim (r.standing.allowed i t pl a b) [ inl bad ↦ absurd (not_in_none t bad) | inr ok ↦ ok ]));
      spelled = r.standing.spelled;
    })

-- ---- a witness as it is made

inside_allowed : (hold fail : TermId → Option ExprId → Type 0) (sh : Shape) (n : TermId) (ts : List Triple) (ps : List Place) → AreAllowed hold fail sh n ts ps → ArePlacesOf (length sh.occs) ps
inside_allowed hold fail sh n ts [] h p c = absurd (not_in_none p c)
inside_allowed hold fail sh n [] (q ∷ ps) h p c = absurd h
inside_allowed hold fail sh n (t ∷ ts) (q ∷ ps) h p c = elim (in_rest q ps p c) [
  | inl e ↦ subst (λ r. IsPlaceOf (length sh.occs) r) e (allowed_there hold fail sh n t q h.0)
  | inr later ↦ inside_allowed hold fail sh n ts ps h.1 p later
]

module _ (h : Ground) (view : Known) (p : Pair) (sh : Shape) (is : shape_at h.schema.now p.shape ≡ Some sh) (places : List Place)
    (outcome : IsOutcome h.schema.now h.terms.now h.graph.now.triples view Possible p (Placed places)) where
  found : IsOutcomeOf h.schema.now h.terms.now h.graph.now.triples view Possible p.node (Some sh) (Placed places)
  found = subst (λ x. IsOutcomeOf h.schema.now h.terms.now h.graph.now.triples view Possible p.node x (Placed places)) is outcome

  pub places_inside : ArePlacesOf (length sh.occs) places
  places_inside = inside_allowed (MayHold h.schema.now h.terms.now view Possible) (MayFail h.schema.now h.terms.now view Possible) sh p.node _ places found.1.allowed

  pub shows_it : (w : Witness) → w.triples ≡ relevant_in_order h.terms.now h.graph.now.triples sh p.node → w.places.items ≡ places → IsTally (length sh.occs) w → IsWitnessOf h view p w
  shows_it w triples same tally = (
    sh,
    is,
    record {
      open_to = found.0;
      triples = triples;
      tally = tally;
      standing = record {
        allowed = λ i t pl at spot. inr (one_allowed (MayHold h.schema.now h.terms.now view Possible) (MayFail h.schema.now h.terms.now view Possible) sh p.node _ places found.1.allowed i t pl (ap (λ ts. slice_get ts i) (sym triples) ∙ at) (ap (λ ps. slice_get ps i) (sym same) ∙ spot));
        spelled = subst (λ ps. HaveCounts sh.body (times ps)) (sym same) found.1.spelled;
      };
    },
  )

-- ---- the triples of one occurrence after the other are looked at again

module _ (hold fail : TermId → Option ExprId → Type 0) (sh : Shape) (n m : TermId) where
  pub stands_next : (rest later : List Occurrence) (o : Occurrence) → rest ≡ o ∷ later → (t : Triple) → t ≡ between o.inverse o.predicate n m → (w : Witness) →
      IsStanding hold fail sh n (all_between rest n m) w → IsStanding hold fail sh n (t ∷ all_between later n m) w
  stands_next rest later o cut t is w s =
      subst (λ u. IsStanding hold fail sh n (u ∷ all_between later n m) w) (sym is) (subst (λ os. IsStanding hold fail sh n (all_between os n m) w) cut s)

  pub stands_all : (rest : List Occurrence) → length rest ≡ 0 → (w : Witness) → IsStanding hold fail sh n (all_between rest n m) w → IsStanding hold fail sh n [] w
  stands_all rest none w s = subst (λ os. IsStanding hold fail sh n (all_between os n m) w) (nil_from_length rest none) s

  -- what a later occurrence fits, too, is left to that one
  pub left_to : (later : List Occurrence) (o : Occurrence) (t : Triple) → t ≡ between o.inverse o.predicate n m → Any (FitAlike o) later → (w : Witness) →
      IsStanding hold fail sh n (t ∷ all_between later n m) w → IsStanding hold fail sh n (all_between later n m) w
  left_to later o t is (k, x, within, at, (predicate, inverse)) w s = repeated hold fail sh n w t (all_between later n m)
      (subst (λ u. Contains (all_between later n m) u) (sym (is ∙ (λ i. between (inverse i) (predicate i) n m))) (in_map (λ c. between c.inverse c.predicate n m) later x (k, within, at))) s

-- ---- the witnesses of the pairs that need one that went

pub decide_among : (o : Option (List ℕ)) (i : ℕ) → Decided (IsAmong o i)
decide_among None i = inr (λ h. h)
decide_among (Some js) i = decide_member cases_eq js i

module _ (h : Ground) (ready : IsReady h) (elsewhere : Known) (marks : List Verdict) (at : ℕ) (q : Pair) (here : slice_get h.table.now at ≡ Some q)
    (marks' : List Verdict) (marked : marks' ≡ slice_set marks at No) where
  alike : (u : Pair) → u ≢ q → (v : Verdict) → PairIs (known_of h elsewhere marks) u v ↔ PairIs (known_of h elsewhere marks') u v
  alike u ne v = subst (λ ms. PairIs (known_of h elsewhere marks) u v ↔ PairIs (known_of h elsewhere ms) u v) (sym marked) (known_alike elsewhere h.table.now marks at No q here u ne v)

  pub all_but : (held : List (ℕ × Box Witness)) → AllShow h (known_of h elsewhere marks) held →
      AllShowBut h (known_of h elsewhere marks') q (option_map (λ v. v.items) (slice_get h.needing.now at)) held
  all_but held all i w p holds there = elim (decide_among (option_map (λ v. v.items) (slice_get h.needing.now at)) i) [
    | inl among ↦ inr (among, shows_but h (known_of h elsewhere marks) (known_of h elsewhere marks') q alike p w (all i w p holds there))
    | inr apart ↦ inl (shows_on h (known_of h elsewhere marks) (known_of h elsewhere marks') q alike p w (all i w p holds there) (λ need. apart (ready.needing at i q p here there need)))
  ]

module _ (h : Ground) (view : Known) (q : Pair) where
  any_free : (p : Pair) (w : Witness) → IsWitnessOf h view p w → IsWitnessBut h view q p w
  any_free p w (sh, is, r) = (
    sh,
    is,
    record {
      open_to = r.open_to;
      triples = r.triples;
      tally = r.tally;
      standing = more_free (MayHold h.schema.now h.terms.now view Possible) (MayFail h.schema.now h.terms.now view Possible) sh p.node w _ r.standing;
    },
  )

  -- what is known of each witness before it is looked at again
  pub but_at : (numbers : Option (List ℕ)) (held : List (ℕ × Box Witness)) → AllShowBut h view q numbers held → (i : ℕ) (w : Witness) (p : Pair) →
      Holds held i w → slice_get h.table.now i ≡ Some p → IsWitnessBut h view q p w
  but_at numbers held all i w p holds there = elim (all i w p holds there) [ inl s ↦ any_free p w s | inr t ↦ t.1 ]

  -- and once that of one number is
  pub next_but : (numbers : List ℕ) (j : ℕ) (held new : List (ℕ × Box Witness)) → j < length numbers → AllShowBut h view q (Some (drop j numbers)) held →
      ((i : ℕ) (w : Witness) → Holds new i w → ((i ≢ get_or numbers j 0) × Holds held i w) ⊎ ((i ≡ get_or numbers j 0) × ((p : Pair) → slice_get h.table.now i ≡ Some p → IsWitnessOf h view p w))) →
      AllShowBut h view q (Some (drop (j + 1) numbers)) new
  next_but numbers j held new within all step i w p holds there = elim (step i w holds) [
    | inr t ↦ inl (t.1 p there)
    | inl t ↦ elim (all i w p t.1 there) [
      | inl s ↦ inl s
      | inr u ↦ elim (in_rest (get_or numbers j 0) (drop (j + 1) numbers) i (subst (λ xs. Contains xs i) (drop_more numbers j 0 within) u.0)) [
        | inl e ↦ absurd (t.0 (sym e))
        | inr later ↦ inr (later, u.1)
      ]
    ]
  ]

  pub none_but : (numbers : List ℕ) (j : ℕ) (held : List (ℕ × Box Witness)) → length numbers ≤ j → AllShowBut h view q (Some (drop j numbers)) held → AllShow h view held
  none_but numbers j held past all i w p holds there = elim (all i w p holds there) [
    | inl s ↦ s
    | inr t ↦ absurd (not_in_none i (subst (λ xs. Contains xs i) (drop_all j numbers past) t.0))
  ]

  pub no_numbers : (held : List (ℕ × Box Witness)) → AllShowBut h view q None held → AllShow h view held
  no_numbers held all i w p holds there = elim (all i w p holds there) [ inl s ↦ s | inr t ↦ absurd t.0 ]

-- ---- one witness is looked at again

module _ (h : Ground) (view : Known) (q p : Pair) (sh : Shape) (is : shape_at h.schema.now p.shape ≡ Some sh) where
  -- a witness is of the Shape that the pair has
  pub but_of : (w : Witness) → IsWitnessBut h view q p w → IsWitness h view p sh (all_between sh.occs p.node q.node) w
  but_of w (own, at, r) = subst (λ x. IsWitness h view p x (all_between x.occs p.node q.node) w) (let both : Some own ≡ Some sh = sym at ∙ is in cc) r

  pub shows_if : (old new : Witness) → IsWitnessBut h view q p old → new.triples ≡ old.triples → IsTally (length sh.occs) new → (b : Bool) →
      OnTrue b (IsStanding (MayHold h.schema.now h.terms.now view Possible) (MayFail h.schema.now h.terms.now view Possible) sh p.node (all_between sh.occs p.node q.node) old →
      IsStanding (MayHold h.schema.now h.terms.now view Possible) (MayFail h.schema.now h.terms.now view Possible) sh p.node [] new) → OnTrue b (IsWitnessOf h view p new)
  shows_if old new but triples tally false stands = tt
  shows_if old new but triples tally true stands =
      let r = but_of old but in (sh, is, record { open_to = r.open_to; triples = triples ∙ r.triples; tally = tally; standing = stands r.standing })

  pub shows_ok : {E : Type 0} (old new : Witness) → IsWitnessBut h view q p old → new.triples ≡ old.triples → IsTally (length sh.occs) new → (r : Result Bool E) →
      IfOk r (λ b. OnTrue b (IsStanding (MayHold h.schema.now h.terms.now view Possible) (MayFail h.schema.now h.terms.now view Possible) sh p.node (all_between sh.occs p.node q.node) old →
      IsStanding (MayHold h.schema.now h.terms.now view Possible) (MayFail h.schema.now h.terms.now view Possible) sh p.node [] new)) → IfOk r (λ b. OnTrue b (IsWitnessOf h view p new))
  shows_ok old new but triples tally (Ok b) stands = shows_if old new but triples tally b stands
  shows_ok old new but triples tally (Err e) stands = tt

-- ---- what is on the agenda meanwhile

module _ (h : Ground) (view : Known) (k : ℕ) (marks : List Verdict) (numbers : List ℕ) (j : ℕ) (within : j < length numbers) (first old new : List ℕ) where
  abbrev other : ℕ
  other = get_or numbers j 0

  pub put_next : ((q : ℕ) → Contains old q → Contains first q ⊎ (Contains (take j numbers) q × Waits h k marks Unknown q)) →
      ((q : ℕ) → Contains new q → Contains old q ⊎ ((q ≡ other) × Waits h k marks Unknown q)) →
      (q : ℕ) → Contains new q → Contains first q ⊎ (Contains (take (j + 1) numbers) q × Waits h k marks Unknown q)
  put_next before step q c = elim (step q c) [
    | inl o ↦ elim (before q o) [ inl f ↦ inl f | inr t ↦ inr ((in_more numbers j q within).1 (inl t.0), t.1) ]
    | inr t ↦ inr ((in_more numbers j q within).1 (inr t.0), t.1)
  ]

  pub settled_next : ((q : ℕ) → Contains (take j numbers) q → Waits h k marks Unknown q → Contains old q ⊎ CanMatchAt h view q) →
      ((q : ℕ) → Contains old q → Contains new q) → (Waits h k marks Unknown other → Contains new other ⊎ CanMatchAt h view other) →
      (q : ℕ) → Contains (take (j + 1) numbers) q → Waits h k marks Unknown q → Contains new q ⊎ CanMatchAt h view q
  settled_next before kept step q c waits = elim ((in_more numbers j q within).0 c) [
    | inl sooner ↦ elim (before q sooner waits) [ inl o ↦ inl (kept q o) | inr can ↦ inr can ]
    | inr own ↦ subst (λ i. Contains new i ⊎ CanMatchAt h view i) (sym own) (step (subst (λ i. Waits h k marks Unknown i) own waits))
  ]

-- a witness that stands shows it at its number
pub can_at : (h : Ground) (view : Known) (i : ℕ) (p : Pair) (w : Witness) → slice_get h.table.now i ≡ Some p → IsWitnessOf h view p w → CanMatchAt h view i
can_at h view i p w there shows u at = subst (λ z. PairCanMatch h.schema.now h.terms.now h.graph.now.triples view Possible z)
    (let both : Some p ≡ Some u = sym there ∙ at in cc) (shows_can h view p w shows)

-- what is held once a witness is put
pub put_shows : (h : Ground) (view : Known) (old new : List (ℕ × Box Witness)) (at : ℕ) (x : Witness) → AllShow h view old →
    ((i : ℕ) (w : Witness) → Holds new i w → Holds old i w ⊎ ((i ≡ at) × (w ≡ x))) → (p : Pair) → slice_get h.table.now at ≡ Some p → IsWitnessOf h view p x → AllShow h view new
put_shows h view old new at x all step p here shows i w u holds there = elim (step i w holds) [
  | inl o ↦ all i w u o there
  | inr t ↦ subst (λ z. IsWitnessOf h view u z) (sym t.1) (subst (λ z. IsWitnessOf h view z x)
      (let both : Some p ≡ Some u = sym here ∙ (ap (λ k. slice_get h.table.now k) (sym t.0) ∙ there) in cc) shows)
]

-- what is made of places shows it, if it is made
pub shows_some : {E : Type 0} (h : Ground) (p : Pair) (sh : Shape) (places : List Place) → shape_at h.schema.now p.shape ≡ Some sh → (ts : List Triple) →
    ts ≡ relevant_in_order h.terms.now h.graph.now.triples sh p.node → (r : Result (Option Witness) E) → IfOk r (λ o. IfSome o (λ w. w.triples ≡ ts)) →
    IfOk r (λ o. IfSome o (λ w. w.places.items ≡ places)) →
    IfOk r (λ o. IfSome o (λ w. IsTally (length sh.occs) w)) →
    IfOk r (λ o. IfSome o (λ w. (view : Known) → IsOutcome h.schema.now h.terms.now h.graph.now.triples view Possible p (Placed places) → IsWitnessOf h view p w))
shows_some h p sh places is ts order (Ok (Some w)) a b c = λ view outcome. shows_it h view p sh is places outcome w (a ∙ order) b c
shows_some h p sh places is ts order (Ok None) a b c = tt
shows_some h p sh places is ts order (Err e) a b c = tt

-- ---- one witness is taken out and put back

module _ (h : Ground) (view : Known) (other : ℕ) (old mid : List (ℕ × Box Witness))
    (left : (i : ℕ) (w : Witness) → Holds mid i w → (i ≢ other) × Holds old i w) where
  abbrev Stays : List (ℕ × Box Witness) → Type 0
  Stays new = (i : ℕ) (w : Witness) → Holds new i w →
      ((i ≢ other) × Holds old i w) ⊎ ((i ≡ other) × ((p : Pair) → slice_get h.table.now i ≡ Some p → IsWitnessOf h view p w))

  pub out_stays : Stays mid
  out_stays i w holds = inl (left i w holds)

  pub back_stays : (pair : Pair) → slice_get h.table.now other ≡ Some pair → (x : Witness) → IsWitnessOf h view pair x → (new : List (ℕ × Box Witness)) →
      ((i : ℕ) (w : Witness) → Holds new i w → Holds mid i w ⊎ ((i ≡ other) × (w ≡ x))) → Stays new
  back_stays pair there x shows new put i w holds = elim (put i w holds) [
    | inl m ↦ inl (left i w m)
    | inr t ↦ inr (
      t.0,
      λ p at. subst (λ z. IsWitnessOf h view p z) (sym t.1) (subst (λ z. IsWitnessOf h view z x)
          (let both : Some pair ≡ Some p = sym there ∙ (ap (λ k. slice_get h.table.now k) (sym t.0) ∙ at) in cc) shows),
    )
  ]

-- ---- the numbers that need the pair of a number

module _ (h : Ground) (k at : ℕ) (marks : List Verdict) (needing lent : List ℕ) (is : option_map (λ v. v.items) (slice_get h.needing.now at) ≡ Some needing) (same : lent ≡ needing) where
  pub to_back : (q : ℕ) → Contains lent q × Waits h k marks Unknown q → GoesBack h k at marks Unknown q
  to_back q t = (subst (λ o. IsAmong o q) (sym is) (subst (λ ys. Contains ys q) same t.0), t.1)

  pub from_back : (q : ℕ) → GoesBack h k at marks Unknown q → Contains lent q
  from_back q t = subst (λ ys. Contains ys q) (sym same) (subst (λ o. IsAmong o q) is t.0)

  pub lent_but : (view : Known) (q : Pair) (held : List (ℕ × Box Witness)) → AllShowBut h view q (option_map (λ v. v.items) (slice_get h.needing.now at)) held → AllShowBut h view q (Some lent) held
  lent_but view q held all = subst (λ ys. AllShowBut h view q (Some ys) held) (sym same) (subst (λ o. AllShowBut h view q o held) is all)

  module _ (view : Known) (first next : List ℕ) where
    pub put_of : ((q : ℕ) → Contains next q → Contains first q ⊎ (Contains lent q × Waits h k marks Unknown q)) → (q : ℕ) → Contains next q → Contains first q ⊎ GoesBack h k at marks Unknown q
    put_of put q c = elim (put q c) [ inl f ↦ inl f | inr t ↦ inr (to_back q t) ]

    pub settled_of : ((q : ℕ) → Contains lent q → Waits h k marks Unknown q → Contains next q ⊎ CanMatchAt h view q) → (q : ℕ) → GoesBack h k at marks Unknown q → Contains next q ⊎ CanMatchAt h view q
    settled_of settled q t = settled q (from_back q t) t.1

-- the pair of a number, read
pub table_read : (h : Ground) (ps : List Pair) (i : ℕ) (p : Pair) → ps ≡ h.table.now → true ≡ ltb i (length ps) → p ≡ get_or ps i p → slice_get h.table.now i ≡ Some p
table_read h ps i p same within at = ap (λ l. slice_get l i) (sym same) ∙ slice_get_read ps (length ps) i p refl (ltb-true i (length ps) (sym within)) at

pub some_of : {X : Type 0} (P : X → Type 0) (o : Option X) (x : X) → o ≡ Some x → IfSome o P → P x
some_of P o x is h = subst (λ z. IfSome z P) is h
