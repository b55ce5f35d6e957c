-- A node that has a Shape has a list of allowed places with matching counts.
use Rattle.std.proofs.Common.{◌≡◌, ℕ, suc, ◌+◌, inl, inr, List, [], ◌∷◌, ◌++◌, refl, arith, sym, subst, ap, ◌∙◌, Bool, true, false, cond, not, map, filter, true≢false, append-nil}
use Rattle.std.proofs.lemmas.Bool.{eq-eqb, and_parts, or_left}
use Rattle.std.proofs.lemmas.List.{map-append}
use Rattle.std.proofs.lemmas.List.Elements.{Contains-append_cases}
use Rattle.std.proofs.lemmas.List.Folds.{Any-from_list_any}
use Rattle.std.proofs.lemmas.List.Sums.{sum_by-cons, sum_by-append}
use Rattle.std.proofs.lemmas.List.Sorted.{IsPermutation-refl, IsPermutation-trans, IsPermutation-sym, IsPermutation-append, IsPermutation-map, Contains-permutation, sum_by-IsPermutation}
use Rattle.std.specs.Prelude.{Contains, Option, Some, None, slice_get, nat_eq, ◌||◌, ◌&&◌}
use Rattle.std.specs.List.{AllByRecursion, list_any, sum_by}
use Rattle.std.specs.List.Sorted.{IsPermutation}
use Rattle.rdf_terms.specs.declared.terms.TermId.{TermId}
use Rattle.rdf_terms.specs.declared.terms.Triple.{Triple}
use Rattle.rdf_terms.specs.Graphs.{neigh, outs, same_id}
use Rattle.tally.specs.Plan.{Plan}
use Rattle.tally.specs.Symbols.{IsDistinct}
use Rattle.tally.proofs.CopyLaws.{copies_agree}
use Rattle.schema_tree.specs.declared.schema.Occurrence.{Occurrence}
use Rattle.schema_tree.specs.declared.schema.Shape.{Shape}
use Rattle.schema_tree.specs.declared.schema.ExprId.{ExprId}
use Rattle.schema_tree.specs.declared.verdicts.Place.{Place}
use Rattle.schema_tree.specs.declared.verdicts.Place.TheVariants.{At, Rest}
use Rattle.schema_tree.specs.Matches.{Takes, SatValue, fits, near_end, other_end}
use Rattle.schema_tree.specs.Shapes.{ShapeHolds, RestOk, MatchesBody, IsMatchable, IsMentioned}
use Rattle.schema_tree.specs.Places.{MayTake, MayStay, MayStayOut, IsAllowed, AreAllowed, times, add_place, HaveCounts, IsShut, HasPlaces}
use Rattle.lists.proofs.Members.{is_first, is_later, from_map, got_in, any_true}
use Rattle.lists.proofs.Filters.{filter_has, in_filter, all_filter, all_passing, filter_images}
use Rattle.lists.proofs.Quantifiers.{all_at, all_append, all_permuted, all_of}
use Rattle.schema_tree.proofs.Placed.{Placed, triples, count_of, IsPlaced, placing_of}
use Rattle.schema_tree.proofs.Lifted.{lift}
use Rattle.rdf_terms.proofs.SameTerms.{same_is}
use Rattle.schema_tree.specs.Relevant.{is_relevant, is_forward}

-- a triple with its place
abbrev pub Spot : Type 0
Spot = Triple × Place

pub times_is : (ps : List Place) (i : ℕ) → times ps i ≡ sum_by (λ p. add_place i p 0) ps
times_is [] i = refl
times_is (p ∷ ps) i = rw (sum_by-cons (λ q. add_place i q 0) p ps) (one p ∙ ap (λ k. add_place i p 0 + k) (times_is ps i))
  where
    pick : (b : Bool) (k : ℕ) → cond b (suc k) k ≡ cond b 1 0 + k
    pick true k = omega arith
    pick false k = omega arith

    one : (q : Place) → add_place i q (times ps i) ≡ add_place i q 0 + times ps i
    one (At j) = pick (nat_eq i j) (times ps i)
    one Rest = omega arith

pub times_permuted : (ps qs : List Place) (i : ℕ) → IsPermutation ps qs → times qs i ≡ times ps i
times_permuted ps qs i h = times_is qs i ∙ sum_by-IsPermutation (λ p. add_place i p 0) ps qs h ∙ sym (times_is ps i)

pub times_append : (ps qs : List Place) (i : ℕ) → times (ps ++ qs) i ≡ times ps i + times qs i
times_append ps qs i = rw (times_is (ps ++ qs) i, times_is ps i, times_is qs i) (sum_by-append (λ p. add_place i p 0) ps qs)

-- counts that agree match the same
pub counts_agree : (body : Option Plan) (c d : ℕ → ℕ) → ((i : ℕ) → c i ≡ d i) → HaveCounts body c → HaveCounts body d
counts_agree None c d same h = λ i. sym (same i) ∙ h i
counts_agree (Some e) c d same h = copies_agree e c d 1 (λ i has. same i) h

module _ (sat : TermId → ExprId → Type 0) (g : List Triple) (sh : Shape) (n : TermId) where
  abbrev pub holds : TermId → Option ExprId → Type 0
  holds m v = SatValue (sat m) v

  abbrev pub fails : TermId → Option ExprId → Type 0
  fails m v = ¬ SatValue (sat m) v

  abbrev pub IsGood : Spot → Type 0
  IsGood x = IsAllowed holds fails sh n x.0 x.1

  may_take : (x : Option Occurrence) (t : Triple) → Takes sat n x t → MayTake holds fails sh n t x
  may_take None t h = h
  may_take (Some o) t h = h

  abbrev spots_of : List Placed → List Spot
  spots_of ps = map (λ q. (q.0, At q.1)) ps

  -- a triple that an occurrence takes is relevant
  taken_relevant :
      (t : Triple) (x : Option Occurrence) → ((o : Occurrence) → x ≡ Some o → Contains sh.occs o) → MayTake holds fails sh n t x →
      is_relevant sh.occs n t ≡ true
  taken_relevant t None of h = absurd h
  taken_relevant t (Some o) of h = any_true (λ u. fits u n t) sh.occs o (of o refl) h.0

  good_relevant : (t : Triple) (i : ℕ) → IsGood (t, At i) → is_relevant sh.occs n t ≡ true
  good_relevant t i h = taken_relevant t (slice_get sh.occs i) (λ o e. got_in sh.occs i o e) h

  -- a forward occurrence that fits mentions the predicate
  pub forward_parts : (t : Triple) (o : Occurrence) → is_forward n t o ≡ true → (o.inverse ≡ false) × (fits o n t ≡ true)
  forward_parts t o e = let (a, b) = and_parts (not o.inverse) (fits o n t) e in (flip o.inverse a, b)
    where
      flip : (b : Bool) → not b ≡ true → b ≡ false
      flip true e = absurd (true≢false (sym e))
      flip false e = refl

  pub mentioned : (t : Triple) → list_any (is_forward n t) sh.occs ≡ true → IsMentioned sh.occs t.p
  mentioned t e =
      let (k, o, within, at, forward) = Any-from_list_any (is_forward n t) sh.occs e in
      let parts = forward_parts t o forward in
      let match = and_parts (same_id o.predicate t.p) (same_id (near_end o.inverse t) n) parts.1 in
      (o, (k, within, at), parts.0, same_is o.predicate t.p match.0)

  pub same_true : (a b : TermId) → a ≡ b → same_id a b ≡ true
  same_true a b e = eq-eqb a.0 b.0 (ap (λ x. x.0) e)

  -- where the predicate is mentioned, a forward occurrence fits an arc out
  pub mentioned_fits : (t : Triple) → t.s ≡ n → IsMentioned sh.occs t.p → list_any (is_forward n t) sh.occs ≡ true
  mentioned_fits t out (o, held, forward, same) = any_true (is_forward n t) sh.occs o held (go o.inverse forward)
    where
      go : (b : Bool) → b ≡ false → not b && (same_id o.predicate t.p && same_id (near_end b t) n) ≡ true
      go true e = absurd (true≢false e)
      go false e = rw (same_true o.predicate t.p same, same_true t.s n out) refl

  rest_good : (rest : List Triple) → RestOk sat sh n rest → (t : Triple) → Contains rest t → IsGood (t, Rest)
  rest_good rest ok t held = at_end (same_id t.s n) refl
    where
      stay : t.s ≡ n → (b : Bool) → list_any (is_forward n t) sh.occs ≡ b → MayStayOut holds fails sh n t b
      stay out true e =
          let can : IsMatchable sh.occs n t = (out, mentioned t e) in (
            ok.in_extra t held can,
            all_passing (λ o. Contains sh.occs o) (λ o. fails t.o o.value) (is_forward n t)
                (λ o forward of value. let parts = forward_parts t o forward in
                ok.unmatched t o held can of parts.0 (parts.1, subst (λ b. SatValue (sat (other_end b t)) o.value) (sym parts.0) value))
                sh.occs (all_of (λ o. Contains sh.occs o) sh.occs (λ o c. c)),
          )
      stay out false e = not_closed sh.closed refl
        where
          not_closed : (b : Bool) → sh.closed ≡ b → b ≡ false
          not_closed true c = absurd (true≢false (sym (mentioned_fits t out (ok.in_closed c t held out).1) ∙ e))
          not_closed false c = refl

      at_end : (b : Bool) → same_id t.s n ≡ b → MayStay holds fails sh n t b
      at_end true e = stay (same_is t.s n e) (list_any (is_forward n t) sh.occs) refl
      at_end false e = tt

  -- allowed places for all triples of a list
  allowed_of : (xs : List Spot) → AllByRecursion IsGood xs → AreAllowed holds fails sh n (map (λ x. x.0) xs) (map (λ x. x.1) xs)
  allowed_of [] h = tt
  allowed_of (x ∷ xs) h = (h.0, allowed_of xs h.1)

  -- leaving out irrelevant triples changes no count
  times_relevant :
      (xs : List Spot) → AllByRecursion IsGood xs → (i : ℕ) →
      times (map (λ x. x.1) (filter (λ x. is_relevant sh.occs n x.0) xs)) i ≡ times (map (λ x. x.1) xs) i
  times_relevant [] h i = refl
  times_relevant (x ∷ xs) h i = go x.1 (λ j e. good_relevant x.0 j (subst (λ p. IsGood (x.0, p)) e h.0)) (is_relevant sh.occs n x.0) refl (times_relevant xs h.1 i)
    where
      kept : List Spot
      kept = filter (λ y. is_relevant sh.occs n y.0) xs

      go :
          (p : Place) → ((j : ℕ) → x.1 ≡ At j → is_relevant sh.occs n x.0 ≡ true) → (b : Bool) → is_relevant sh.occs n x.0 ≡ b →
          times (map (λ y. y.1) (filter (λ y. is_relevant sh.occs n y.0) xs)) i ≡ times (map (λ y. y.1) xs) i →
          times (map (λ y. y.1) (cond b (x ∷ filter (λ y. is_relevant sh.occs n y.0) xs) (filter (λ y. is_relevant sh.occs n y.0) xs))) i ≡ add_place i x.1 (times (map (λ y. y.1) xs) i)
      go p must true e rest = ap (add_place i x.1) rest
      go p must false e rest = none x.1 must
        where
          none : (q : Place) → ((j : ℕ) → q ≡ At j → is_relevant sh.occs n x.0 ≡ true) →
              times (map (λ y. y.1) (filter (λ y. is_relevant sh.occs n y.0) xs)) i ≡ add_place i q (times (map (λ y. y.1) xs) i)
          none (At j) must = absurd (true≢false (sym (must j refl) ∙ e))
          none Rest must = rest

  -- what the matched part gives: its triples with places
  pub record Taken (matched : List Triple) (body : Option Plan) : Type 0 where
    pub placed : List Placed
    pub deals : IsPermutation matched (triples placed)
    pub taken : IsPlaced sat sh.occs n placed
    pub spelled : HaveCounts body (count_of placed)

  taken_of :
      (matched : List Triple) (body : Option Plan) → ((c : Plan) → body ≡ Some c → IsDistinct c) →
      MatchesBody sat sh.occs n body matched → Taken matched body
  taken_of matched None distinct h = record { placed = []; deals = subst (λ ts. IsPermutation ts []) (sym h) (IsPermutation-refl []); taken = tt; spelled = λ i. refl }
  taken_of matched (Some c) distinct h =
      let r = placing_of sat sh.occs n c (distinct c refl) matched h in
      record { placed = r.placed; deals = r.deals; taken = r.taken; spelled = r.spelled }

  spots_good : (ps : List Placed) → IsPlaced sat sh.occs n ps → AllByRecursion IsGood (spots_of ps)
  spots_good [] h = tt
  spots_good (q ∷ ps) h = (may_take (slice_get sh.occs q.1) q.0 h.0, spots_good ps h.1)

  spots_triples : (ps : List Placed) → map (λ x. x.0) (spots_of ps) ≡ triples ps
  spots_triples [] = refl
  spots_triples (q ∷ ps) = ap (λ ts. q.0 ∷ ts) (spots_triples ps)

  spots_times : (ps : List Placed) (i : ℕ) → times (map (λ x. x.1) (spots_of ps)) i ≡ count_of ps i
  spots_times [] i = refl
  spots_times (q ∷ ps) i = ap (λ k. cond (nat_eq i q.1) (suc k) k) (spots_times ps i)

  abbrev rests : List Triple → List Spot
  rests ts = map (λ t. (t, Rest)) ts

  rests_good : (ts : List Triple) → ((t : Triple) → Contains ts t → IsGood (t, Rest)) → AllByRecursion IsGood (rests ts)
  rests_good [] h = tt
  rests_good (t ∷ ts) h = (h t (is_first t ts), rests_good ts (λ u c. h u (is_later t ts u c)))

  rests_triples : (ts : List Triple) → map (λ x. x.0) (rests ts) ≡ ts
  rests_triples [] = refl
  rests_triples (t ∷ ts) = ap (λ us. t ∷ us) (rests_triples ts)

  rests_times : (ts : List Triple) (i : ℕ) → times (map (λ x. x.1) (rests ts)) i ≡ 0
  rests_times [] i = refl
  rests_times (t ∷ ts) i = rests_times ts i

  -- a closed Shape whose node has an arc out that no occurrence fits is had by no node
  not_shut :
      (matched rest : List Triple) → IsPermutation (neigh g n) (matched ++ rest) → (r : Taken matched sh.body) → RestOk sat sh n rest → ¬ IsShut g sh n
  not_shut matched rest deals r ok (closed, some) =
      let (k, t, within, at, apart) = Any-from_list_any (λ u. not (is_relevant sh.occs n u)) (outs g n) some in
      let (held, out) = in_filter (λ u. same_id u.s n) g t (k, within, at) in
      let near : same_id t.s n || same_id t.o n ≡ true = or_left (same_id t.s n) (same_id t.o n) out in
      let there = Contains-permutation _ _ t deals (filter_has (λ u. same_id u.s n || same_id u.o n) g t held near) in
      let clash : is_relevant sh.occs n t ≡ true → ⊥ = λ e. true≢false (sym apart ∙ ap not e) in
      elim (Contains-append_cases matched rest t there) [
        | inl m ↦ (let (q, in_placed, is) = from_map (λ q. q.0) r.placed t (Contains-permutation _ _ t r.deals m) in
            clash (subst (λ u. is_relevant sh.occs n u ≡ true) is (good_relevant q.0 q.1 (may_take (slice_get sh.occs q.1) q.0 (all_at _ r.placed q r.taken in_placed)))))
        | inr m ↦ clash (let same = same_is t.s n out in forward_relevant t (mentioned_fits t same (ok.in_closed closed t m same).1))
      ]
    where
      forward_relevant : (t : Triple) → list_any (is_forward n t) sh.occs ≡ true → is_relevant sh.occs n t ≡ true
      forward_relevant t e =
          let (k, o, within, at, forward) = Any-from_list_any (is_forward n t) sh.occs e in
          any_true (λ u. fits u n t) sh.occs o (k, within, at) (forward_parts t o forward).1

  -- a node that has the Shape has allowed places with matching counts, in whatever order its neighbourhood is read
  pub to_places :
      ((c : Plan) → sh.body ≡ Some c → IsDistinct c) → (order : List Triple) → IsPermutation (neigh g n) order →
      ShapeHolds sat g n (Some sh) → HasPlaces holds fails g sh n (filter (is_relevant sh.occs n) order)
  to_places distinct order ordered (matched, rest, deals, body, ok) =
      let r = taken_of matched sh.body distinct body in
      let deals' : IsPermutation (neigh g n) (matched ++ rest) = subst (λ ts. IsPermutation (neigh g n) (matched ++ ts)) (append-nil rest) deals in
      let spots : List Spot = spots_of r.placed ++ rests rest in
      let firsts : map (λ x. x.0) spots ≡ triples r.placed ++ rest =
      (map-append (λ x. x.0) (spots_of r.placed) (rests rest) ∙ ap (λ ts. ts ++ map (λ x. x.0) (rests rest)) (spots_triples r.placed)) ∙ ap (λ ts. triples r.placed ++ ts) (rests_triples rest) in
      let whole : IsPermutation (neigh g n) (triples r.placed ++ rest) =
      IsPermutation-trans _ _ _ deals' (IsPermutation-append matched (triples r.placed) rest rest r.deals (IsPermutation-refl rest)) in
      let l = lift (λ x. x.0) spots order (subst (λ ts. IsPermutation ts order) (sym firsts) (IsPermutation-trans _ _ _ (IsPermutation-sym _ _ whole) ordered)) in
      let good : AllByRecursion IsGood l.lifted =
      all_permuted IsGood spots l.lifted l.moved (all_append IsGood (spots_of r.placed) (rests rest) (spots_good r.placed r.taken) (rests_good rest (rest_good rest ok))) in
      let kept : List Spot = filter (λ x. is_relevant sh.occs n x.0) l.lifted in
      record {
        open_to = not_shut matched rest deals' r ok;
        places = map (λ x. x.1) kept;
        allowed = subst (λ ts. AreAllowed holds fails sh n ts (map (λ x. x.1) kept))
            (filter_images (λ x. x.0) (is_relevant sh.occs n) l.lifted ∙ ap (filter (is_relevant sh.occs n)) l.is)
            (allowed_of kept (all_filter IsGood (λ x. is_relevant sh.occs n x.0) l.lifted good));
        spelled = counts_agree sh.body (count_of r.placed) (times (map (λ x. x.1) kept)) (λ i. sym (count_is r rest l.lifted l.moved good i)) r.spelled;
      }
    where
      count_is :
          (r : Taken matched sh.body) (rest : List Triple) (lifted : List Spot) → IsPermutation (spots_of r.placed ++ rests rest) lifted →
          AllByRecursion IsGood lifted → (i : ℕ) →
          times (map (λ x. x.1) (filter (λ x. is_relevant sh.occs n x.0) lifted)) i ≡ count_of r.placed i
      count_is r rest lifted moved good i =
          let a = times_relevant lifted good i in
          let b = times_permuted _ _ i (IsPermutation-map (λ x. x.1) (spots_of r.placed ++ rests rest) lifted moved) in
          let c = ap (λ ps. times ps i) (map-append (λ x. x.1) (spots_of r.placed) (rests rest)) in
          let d = times_append (map (λ x. x.1) (spots_of r.placed)) (map (λ x. x.1) (rests rest)) i in
          let e = spots_times r.placed i in
          let z = rests_times rest i in
          a ∙ b ∙ c ∙ d ∙ (let s : times (map (λ x. x.1) (spots_of r.placed)) i + times (map (λ x. x.1) (rests rest)) i ≡ count_of r.placed i = omega (arith, e, z) in s)
