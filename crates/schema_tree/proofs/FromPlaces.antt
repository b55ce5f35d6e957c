-- A node with a list of allowed places with matching counts has the Shape.
use Rattle.std.proofs.Common.{◌≡◌, ℕ, suc, ◌<◌, inl, inr, List, [], ◌∷◌, ◌++◌, refl, arith, sym, subst, ap, ◌∙◌, Bool, true, false, cond, not, length, map, filter, true≢false, append-nil, append_assoc}
use Rattle.std.proofs.lemmas.Bool.{eq-eqb, not_from_false, and_from}
use Rattle.std.proofs.lemmas.List.Elements.{Contains-append_cases}
use Rattle.std.proofs.lemmas.Option.{slice_get_within}
use Rattle.std.proofs.lemmas.List.Sorted.{IsPermutation-refl, IsPermutation-trans, IsPermutation-sym, IsPermutation-append, IsPermutation-cons, IsPermutation-middle, IsPermutation-filter_both, Contains-permutation}
use Rattle.std.specs.Prelude.{Contains, Option, Some, None, slice_get, nat_eq, ◌||◌, ◌&&◌}
use Rattle.std.specs.List.{AllByRecursion, list_any, flat_map}
use Rattle.std.specs.List.Sorted.{IsPermutation}
use Rattle.rdf_terms.specs.declared.terms.TermId.{TermId}
use Rattle.rdf_terms.specs.declared.terms.Triple.{Triple}
use Rattle.rdf_terms.specs.Graphs.{neigh, outs, same_id}
use Rattle.tally.specs.Plan.{Plan}
use Rattle.tally.specs.Span.{IsSound}
use Rattle.tally.specs.Symbols.{IsDistinct, has_symbol}
use Rattle.tally.proofs.CopyLaws.{copies_agree}
use Rattle.schema_tree.specs.declared.schema.Occurrence.{Occurrence}
use Rattle.schema_tree.specs.declared.schema.Shape.{Shape}
use Rattle.schema_tree.specs.declared.schema.ExprId.{ExprId}
use Rattle.schema_tree.specs.declared.verdicts.Place.{Place}
use Rattle.schema_tree.specs.declared.verdicts.Place.TheVariants.{At, Rest}
use Rattle.schema_tree.specs.Matches.{Takes, SatValue, fits, near_end, other_end}
use Rattle.schema_tree.specs.Shapes.{ShapeHolds, RestOk, MatchesBody, IsMatchable, IsMentioned}
use Rattle.schema_tree.specs.Places.{MayTake, MayStay, MayStayOut, AreAllowed, times, HaveCounts, IsShut, HasPlaces}
use Rattle.lists.proofs.Members.{not_in_none, in_rest, any_true}
use Rattle.lists.proofs.Filters.{filter_has, in_filter}
use Rattle.lists.proofs.Quantifiers.{all_at}
use Rattle.schema_tree.proofs.Placed.{Placed, triples, count_of, IsPlaced}
use Rattle.schema_tree.proofs.Parted.{parts_of, Parts}
use Rattle.schema_tree.proofs.ToPlaces.{Spot, holds, fails, IsGood, mentioned, mentioned_fits, same_true}
use Rattle.schema_tree.specs.Relevant.{is_relevant, is_forward}
use Rattle.schema_tree.proofs.Made.{IsWellMade}

-- the triples that take an occurrence, and those that stay
abbrev pub placed_in : List Spot → List Placed
placed_in [] = []
placed_in ((t, At i) ∷ xs) = (t, i) ∷ placed_in xs
placed_in ((t, Rest) ∷ xs) = placed_in xs

abbrev pub left_in : List Spot → List Triple
left_in [] = []
left_in ((t, At i) ∷ xs) = left_in xs
left_in ((t, Rest) ∷ xs) = t ∷ left_in xs

pub sorted_out : (xs : List Spot) → IsPermutation (map (λ x. x.0) xs) (triples (placed_in xs) ++ left_in xs)
sorted_out [] = IsPermutation-refl []
sorted_out ((t, At i) ∷ xs) = IsPermutation-cons t _ _ (sorted_out xs)
sorted_out ((t, Rest) ∷ xs) =
    IsPermutation-trans _ _ _ (IsPermutation-cons t _ _ (sorted_out xs)) (IsPermutation-sym _ _ (IsPermutation-middle (triples (placed_in xs)) t (left_in xs)))

pub counted : (xs : List Spot) (i : ℕ) → times (map (λ x. x.1) xs) i ≡ count_of (placed_in xs) i
counted [] i = refl
counted ((t, At j) ∷ xs) i = ap (λ k. cond (nat_eq i j) (suc k) k) (counted xs i)
counted ((t, Rest) ∷ xs) i = counted xs i

pub none_placed : (xs : List Spot) → ((i : ℕ) → times (map (λ x. x.1) xs) i ≡ 0) → placed_in xs ≡ []
none_placed [] h = refl
none_placed ((t, At i) ∷ xs) h =
    let e : cond true (suc (times (map (λ x. x.1) xs) i)) (times (map (λ x. x.1) xs) i) ≡ 0 =
    subst (λ b. cond b (suc (times (map (λ x. x.1) xs) i)) (times (map (λ x. x.1) xs) i) ≡ 0) (eq-eqb i i refl) (h i) in
    absurd (omega arith)
none_placed ((t, Rest) ∷ xs) h = none_placed xs h

module _ (sat : TermId → ExprId → Type 0) (g : List Triple) (sh : Shape) (n : TermId) where
  abbrev good : Spot → Type 0
  good x = IsGood sat g sh n x

  record Spotted (ts : List Triple) (ps : List Place) : Type 0 where
    pub spots : List Spot
    pub firsts : map (λ x. x.0) spots ≡ ts
    pub seconds : map (λ x. x.1) spots ≡ ps
    pub all : AllByRecursion good spots

  spotted : (ts : List Triple) (ps : List Place) → AreAllowed (holds sat g sh n) (fails sat g sh n) sh n ts ps → Spotted ts ps
  spotted [] [] h = record { spots = []; firsts = refl; seconds = refl; all = tt }
  spotted [] (p ∷ ps) h = absurd h
  spotted (t ∷ ts) [] h = absurd h
  spotted (t ∷ ts) (p ∷ ps) h =
      let r = spotted ts ps h.1 in
      record { spots = (t, p) ∷ r.spots; firsts = ap (λ us. t ∷ us) r.firsts; seconds = ap (λ qs. p ∷ qs) r.seconds; all = (h.0, r.all) }

  takes : (x : Option Occurrence) (t : Triple) → MayTake (holds sat g sh n) (fails sat g sh n) sh n t x → Takes sat n x t
  takes None t h = h
  takes (Some o) t h = h

  all_placed : (xs : List Spot) → AllByRecursion good xs → IsPlaced sat sh.occs n (placed_in xs)
  all_placed [] h = tt
  all_placed ((t, At i) ∷ xs) h = (takes (slice_get sh.occs i) t h.0, all_placed xs h.1)
  all_placed ((t, Rest) ∷ xs) h = all_placed xs h.1

  all_left : (xs : List Spot) → AllByRecursion good xs → (t : Triple) → Contains (left_in xs) t → good (t, Rest)
  all_left [] h t c = absurd (not_in_none t c)
  all_left ((u, At i) ∷ xs) h t c = all_left xs h.1 t c
  all_left ((u, Rest) ∷ xs) h t c = elim (in_rest u (left_in xs) t c) [
    | inl e ↦ subst (λ v. good (v, Rest)) e h.0
    | inr later ↦ all_left xs h.1 t later
  ]

  in_range : (x : Option Occurrence) (i : ℕ) (t : Triple) → slice_get sh.occs i ≡ x → Takes sat n x t → i < length sh.occs
  in_range None i t e h = absurd h
  in_range (Some o) i t e h = slice_get_within sh.occs i o e

  all_within :
      (has : ℕ → Bool) → ((i : ℕ) → i < length sh.occs → has i ≡ true) → (ps : List Placed) → IsPlaced sat sh.occs n ps →
      AllByRecursion (λ q. has q.1 ≡ true) ps
  all_within has stands [] h = tt
  all_within has stands (q ∷ ps) h = (stands q.1 (in_range (slice_get sh.occs q.1) q.1 q.0 refl h.0), all_within has stands ps h.1)

  -- what an arc out that stays meets
  stays_out :
      (t : Triple) → t.s ≡ n → good (t, Rest) → MayStayOut (holds sat g sh n) (fails sat g sh n) sh n t (list_any (is_forward n t) sh.occs)
  stays_out t out h = subst (λ b. MayStay (holds sat g sh n) (fails sat g sh n) sh n t b) (same_true sat g sh n t.s n out) h

  stays_mentioned : (t : Triple) → IsMatchable sh.occs n t → good (t, Rest) → MayStayOut (holds sat g sh n) (fails sat g sh n) sh n t true
  stays_mentioned t can h =
      subst (λ b. MayStayOut (holds sat g sh n) (fails sat g sh n) sh n t b) (mentioned_fits sat g sh n t can.0 can.1) (stays_out t can.0 h)

  closed_mentioned : (t : Triple) → t.s ≡ n → sh.closed ≡ true → good (t, Rest) → IsMentioned sh.occs t.p
  closed_mentioned t out closed h = go (list_any (is_forward n t) sh.occs) refl (stays_out t out h)
    where
      go :
          (b : Bool) → list_any (is_forward n t) sh.occs ≡ b → MayStayOut (holds sat g sh n) (fails sat g sh n) sh n t b →
          IsMentioned sh.occs t.p
      go true e m = mentioned sat g sh n t e
      go false e m = absurd (true≢false (sym closed ∙ m))

  -- an irrelevant triple is mentioned by no forward occurrence
  mention_relevant : (t : Triple) → IsMatchable sh.occs n t → is_relevant sh.occs n t ≡ true
  mention_relevant t (out, (o, held, forward, same)) =
      any_true (λ u. fits u n t) sh.occs o held (go o.inverse forward)
    where
      go : (b : Bool) → b ≡ false → same_id o.predicate t.p && same_id (near_end b t) n ≡ true
      go true e = absurd (true≢false e)
      go false e = rw (same_true sat g sh n o.predicate t.p same, same_true sat g sh n t.s n out) refl

  rest_ok :
      ¬ IsShut g sh n → (left apart : List Triple) → ((t : Triple) → Contains left t → good (t, Rest)) →
      ((t : Triple) → Contains apart t → Contains (neigh g n) t × (not (is_relevant sh.occs n t) ≡ true)) → RestOk sat sh n (left ++ apart)
  rest_ok open_to left apart stays irrelevant = record {
    unmatched = λ t o held can of forward take. elim (Contains-append_cases left apart t held) [
      | inl l ↦ all_at (λ u. ¬ SatValue (sat t.o) u.value) (filter (is_forward n t) sh.occs) o (stays_mentioned t can (stays t l)).1
          (filter_has (is_forward n t) sh.occs o of (and_from (not o.inverse) (fits o n t) (not_from_false o.inverse forward) take.0))
          (subst (λ b. SatValue (sat (other_end b t)) o.value) forward take.1)
      | inr a ↦ clash t (irrelevant t a).1 (any_true (λ u. fits u n t) sh.occs o of take.0)
    ];
    in_extra = λ t held can. elim (Contains-append_cases left apart t held) [
      | inl l ↦ (stays_mentioned t can (stays t l)).0
      | inr a ↦ absurd (clash t (irrelevant t a).1 (mention_relevant t can))
    ];
    in_closed = λ closed t held out. elim (Contains-append_cases left apart t held) [
      | inl l ↦ (out, closed_mentioned t out closed (stays t l))
      | inr a ↦ absurd (let (there, not_rel) = irrelevant t a in open_to (
        closed,
        any_true (λ u. not (is_relevant sh.occs n u)) (outs g n) t
            (filter_has (λ u. same_id u.s n) g t (in_filter (λ u. same_id u.s n || same_id u.o n) g t there).0 (same_true sat g sh n t.s n out)) not_rel,
      ))
    ];
  }
    where
      clash : (t : Triple) → not (is_relevant sh.occs n t) ≡ true → is_relevant sh.occs n t ≡ true → ⊥
      clash t a b = true≢false (sym a ∙ ap not b)

  -- the matched part of the placed triples
  record Matched (body : Option Plan) (ps : List Placed) : Type 0 where
    pub matched : List Triple
    pub deals : IsPermutation (triples ps) matched
    pub body_ok : MatchesBody sat sh.occs n body matched

  one_part : (fit : List Triple → Type 0) (ts : List Triple) → Parts fit 1 ts → (part : List Triple) × IsPermutation ts part × fit part
  one_part fit ts r = go r.parts r.many r.deals r.all
    where
      go :
          (parts : List (List Triple)) → length parts ≡ 1 → IsPermutation ts (flat_map (λ p. p) parts) → AllByRecursion fit parts →
          (part : List Triple) × IsPermutation ts part × fit part
      go [] e d a = absurd (omega arith)
      go (p ∷ []) e d a = (p, subst (λ us. IsPermutation ts us) (append-nil p) d, a.0)
      go (p ∷ q ∷ ps) e d a = absurd (omega arith)

  matched_of :
      (body : Option Plan) →
      ((c : Plan) → body ≡ Some c → IsDistinct c × IsSound c × ((i : ℕ) → i < length sh.occs → has_symbol i c ≡ true)) →
      (xs : List Spot) → AllByRecursion good xs → HaveCounts body (times (map (λ x. x.1) xs)) → Matched body (placed_in xs)
  matched_of None loaded xs all counts =
      record { matched = []; deals = subst (λ ps. IsPermutation (triples ps) []) (sym (none_placed xs counts)) (IsPermutation-refl []); body_ok = refl }
  matched_of (Some c) loaded xs all counts =
      let (distinct, sound, stands) = loaded c refl in
      let taken = all_placed xs all in
      let (part, deals, fit) = one_part _ _ (parts_of sat sh.occs n c distinct sound 1 (placed_in xs) taken (all_within (λ i. has_symbol i c) stands (placed_in xs) taken)
      (copies_agree c (times (map (λ x. x.1) xs)) (count_of (placed_in xs)) 1 (λ i e. counted xs i) counts)) in
      record { matched = part; deals = deals; body_ok = fit }

  -- allowed places with matching counts, in whatever order of the neighbourhood, give the Shape
  pub from_places :
      IsWellMade sh →
      (order : List Triple) → IsPermutation (neigh g n) order →
      HasPlaces (holds sat g sh n) (fails sat g sh n) g sh n (filter (is_relevant sh.occs n) order) → ShapeHolds sat g n (Some sh)
  from_places loaded order ordered h =
      let r = spotted (filter (is_relevant sh.occs n) order) h.places h.allowed in
      let m = matched_of sh.body loaded r.spots r.all (subst (λ ps. HaveCounts sh.body (times ps)) (sym r.seconds) h.spelled) in
      let apart : List Triple = filter (λ t. not (is_relevant sh.occs n t)) order in
      let relevant_part : IsPermutation (filter (is_relevant sh.occs n) order) (m.matched ++ left_in r.spots) =
      IsPermutation-trans _ _ _ (subst (λ ts. IsPermutation ts (triples (placed_in r.spots) ++ left_in r.spots)) r.firsts (sorted_out r.spots))
      (IsPermutation-append _ _ _ _ m.deals (IsPermutation-refl (left_in r.spots))) in
      let halves : IsPermutation order (filter (is_relevant sh.occs n) order ++ apart) =
      IsPermutation-filter_both (is_relevant sh.occs n) (λ t. not (is_relevant sh.occs n t)) (λ x. refl) order in
      let whole : IsPermutation (neigh g n) ((m.matched ++ left_in r.spots) ++ apart) =
      IsPermutation-trans _ _ _ ordered (IsPermutation-trans _ _ _ halves (IsPermutation-append _ _ _ _ relevant_part (IsPermutation-refl apart))) in (
        m.matched,
        left_in r.spots ++ apart,
        subst (λ ts. IsPermutation (neigh g n) (m.matched ++ ts)) (sym (append-nil (left_in r.spots ++ apart)))
            (subst (λ ts. IsPermutation (neigh g n) ts) (append_assoc m.matched (left_in r.spots) apart) whole),
        m.body_ok,
        rest_ok h.open_to (left_in r.spots) apart (all_left r.spots r.all)
            (λ t c. let (there, not_rel) = in_filter (λ u. not (is_relevant sh.occs n u)) order t c in (Contains-permutation _ _ t (IsPermutation-sym _ _ ordered) there, not_rel)),
      )
