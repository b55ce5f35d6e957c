-- A search that goes back: what it knows where it stands, and after each turn.
use Rattle.std.proofs.Common.{◌≡◌, ℕ, suc, ◌+◌, ◌*◌, ◌-◌, ◌^◌, ◌<◌, ◌≤◌, ◌⊎◌, inl, inr, length, get_or, take, drop, replicate, List, [], ◌∷◌, ◌++◌, arith, ap, sym, subst, ◌∙◌, add-one, mul-le-mul_right, slice_index, refl}
use Rattle.std.proofs.lemmas.List.{append-nil, drop_more, length-append, length-map, take_more, take-append-drop}
use Rattle.std.proofs.lemmas.List.Elements.{Contains-append_cases}
use Rattle.std.proofs.lemmas.Option.{get_or_from_slice_get, slice_get-get_or, slice_get_within}
use Rattle.std.specs.BTreeSet.{BTreeSet}
use Rattle.std.specs.Global.{Vec}
use Rattle.std.specs.Prelude.{Contains, Option, Some, slice_get}
use Rattle.rdf_terms.specs.declared.terms.TermId.{TermId}
use Rattle.rdf_terms.specs.declared.terms.Triple.{Triple}
use Rattle.schema_tree.specs.declared.schema.ExprId.{ExprId}
use Rattle.schema_tree.specs.declared.schema.Shape.{Shape}
use Rattle.schema_tree.specs.declared.verdicts.Place.{Place}
use Rattle.schema_tree.specs.Loaded.{BodyOk}
use Rattle.schema_tree.specs.Places.{times}
use Rattle.schema_tree.specs.States.{no_counts}
use Rattle.tally.specs.Laws.{IntervalHasCopies}
use Rattle.lists.proofs.Members.{got_in, in_rest, not_in_none}
use Rattle.bag_match.specs.Bounds.{AreCountsOf}
use Rattle.bag_match.specs.Counts.{ArePlacesOf, IsPlaceOf, raised, state_of}
use Rattle.bag_match.specs.Hopes.{AreOffers, IsHopeless, offers}
use Rattle.bag_match.specs.Least.{AreLeast, AreOffered, ArePlacesFor, Finishes, FinishesLeast, IsNotBehind, IsPlaceBefore}
use Rattle.bag_match.specs.Searches.{AreFailed, AreLost, AreTried, FinishesNever, HasFailed, IsLost, IsOpenFrom, IsSearch, IsTaken, IsWay, turns, turns_left}
use Rattle.bag_match.proofs.Came.{came_next, opening_came}
use Rattle.bag_match.proofs.Finishing.{finish_cons, finish_some, finish_split, walk_end, walk_start}
use Rattle.bag_match.proofs.Hopeful.{hopeless_ends, hopes_spelled}
use Rattle.bag_match.proofs.Offers.{for_drop, for_few, for_offered, offers_left}
use Rattle.bag_match.proofs.Rising.{in_push, rising_behind}
use Rattle.bag_match.proofs.Stepping.{drop_few, offered_at, opening_at, opening_is, places_there, raised_long, raised_most}

-- ---- turns

same_some : {X : Type 0} (a b : X) → Some a ≡ Some b → a ≡ b
same_some a b e = cc

turns_begin : (lists : List (List Place)) → turns_left lists [] 0 < turns lists
turns_begin [] = omega arith
turns_begin (places ∷ lists) =
    let e : (length places - 0) * turns lists ≡ length places * turns lists = ap (λ k. k * turns lists) (let z : length places - 0 ≡ length places = omega arith in z) in
    omega (arith, e)

pub turns_enter : (lists : List (List Place)) (tried : List ℕ) (from at : ℕ) (own : List Place) → slice_get lists (length tried) ≡ Some own → from ≤ at → at < length own →
    turns_left lists (tried ++ at ∷ []) 0 < turns_left lists tried from
turns_enter [] tried from at own there le lt = absurd (let bad : ⊥ = cc in bad)
turns_enter (places ∷ lists) [] from at own there le lt =
    let same : length places ≡ length own = ap (λ z. length z) (same_some places own there) in
    let less : suc (length places - suc at) ≤ length places - from = omega (arith, same, le, lt) in
    let more : suc (length places - suc at) * turns lists ≤ (length places - from) * turns lists = mul-le-mul_right (turns lists) less in
    let e : suc (length places - suc at) * turns lists ≡ (length places - suc at) * turns lists + turns lists = omega arith in
    let b = turns_begin lists in
    omega (arith, more, e, b)
turns_enter (places ∷ lists) (k ∷ tried) from at own there le lt = let h = turns_enter lists tried from at own there le lt in omega (arith, h)

pub turns_leave : (lists : List (List Place)) (tried : List ℕ) (at from : ℕ) → length tried + 1 < length lists → turns_left lists tried (suc at) < turns_left lists (tried ++ at ∷ []) from
turns_leave [] tried at from lt = absurd (omega (arith, lt))
turns_leave (places ∷ []) [] at from lt = absurd (omega (arith, lt))
turns_leave (places ∷ next ∷ lists) [] at from lt = omega arith
turns_leave (places ∷ lists) (k ∷ tried) at from lt = let h = turns_leave lists tried at from (omega (arith, lt)) in omega (arith, h)

-- ---- ways

no_set : (left : ℕ) (c : List ℕ) → ¬ HasFailed [] left c
no_set left c (s, e, held) = let bad : ⊥ = cc in bad

-- no counts have failed yet
pub none_failed : (hold fail : TermId → Option ExprId → Type 0) (sh : Shape) (n : TermId) (ts : List Triple) → AreFailed hold fail sh n ts []
none_failed hold fail sh n ts done left c e has = absurd (no_set left c has)

module _ (hold fail : TermId → Option ExprId → Type 0) (sh : Shape) (n : TermId) (ts : List Triple) (lists : List (List Place)) where
  abbrev Never : ℕ → List ℕ → Type 0
  Never j c = FinishesNever hold fail sh n ts j c

  abbrev Way : ℕ → List ℕ → List Place → List ℕ → List ℕ → Type 0
  Way j c ps ks end = IsWay hold fail sh n ts lists j c ps ks end

  abbrev Taken : ℕ → List ℕ → Place → ℕ → Type 0
  Taken j c p k = IsTaken hold fail sh n ts lists j c p k

  pub way_same : (j : ℕ) (c : List ℕ) (ps : List Place) (ks end : List ℕ) → Way j c ps ks end → length ks ≡ length ps
  way_same j c [] [] end h = refl
  way_same j c [] (k ∷ ks) end h = absurd h
  way_same j c (p ∷ ps) [] end h = absurd h
  way_same j c (p ∷ ps) (k ∷ ks) end h = let e = way_same (suc j) (raised c p) ps ks end h.1 in omega (arith, e)

  pub way_long : (j : ℕ) (c : List ℕ) (ps : List Place) (ks end : List ℕ) → Way j c ps ks end → length end ≡ length c
  way_long j c [] [] end h = ap (λ z. length z) (sym h)
  way_long j c [] (k ∷ ks) end h = absurd h
  way_long j c (p ∷ ps) [] end h = absurd h
  way_long j c (p ∷ ps) (k ∷ ks) end h = way_long (suc j) (raised c p) ps ks end h.1 ∙ raised_long c p

  pub way_most : (j : ℕ) (c : List ℕ) (ps : List Place) (ks end : List ℕ) → Way j c ps ks end → ((i : ℕ) → slice_index c i ≤ j) → (i : ℕ) → slice_index end i ≤ j + length ps
  way_most j c [] [] end h most i = let e : slice_index c i ≡ slice_index end i = ap (λ z. slice_index z i) h in let m = most i in omega (arith, e, m)
  way_most j c [] (k ∷ ks) end h most i = absurd h
  way_most j c (p ∷ ps) [] end h most i = absurd h
  way_most j c (p ∷ ps) (k ∷ ks) end h most i = let e = way_most (suc j) (raised c p) ps ks end h.1 (raised_most c p j most) i in omega (arith, e)

  pub way_push : (j : ℕ) (c : List ℕ) (ps : List Place) (ks end : List ℕ) (p : Place) (k d : ℕ) → d ≡ j + length ps → Way j c ps ks end → Taken d end p k →
      Way j c (ps ++ p ∷ []) (ks ++ k ∷ []) (raised end p)
  way_push j c [] [] end p k d e h taken =
      let at : d ≡ j = omega (arith, e) in
      (subst (λ z. Taken j z p k) (sym h) (subst (λ i. Taken i end p k) at taken), ap (λ z. raised z p) h)
  way_push j c [] (i ∷ ks) end p k d e h taken = absurd h
  way_push j c (q ∷ ps) [] end p k d e h taken = absurd h
  way_push j c (q ∷ ps) (i ∷ ks) end p k d e h taken = (h.0, way_push (suc j) (raised c q) ps ks end p k d (omega (arith, e)) h.1 taken)

  pub way_pop : (j : ℕ) (c : List ℕ) (ps : List Place) (ks end : List ℕ) (p : Place) (k d : ℕ) → d ≡ j + length ps → length ks ≡ length ps → Way j c (ps ++ p ∷ []) (ks ++ k ∷ []) end →
      (before : List ℕ) × Way j c ps ks before × Taken d before p k × (raised before p ≡ end)
  way_pop j c [] [] end p k d e same (taken, is) = (c, refl, subst (λ i. Taken i c p k) (let at : j ≡ d = omega (arith, e) in at) taken, is)
  way_pop j c [] (i ∷ ks) end p k d e same h = absurd (omega (arith, same))
  way_pop j c (q ∷ ps) [] end p k d e same h = absurd (omega (arith, same))
  way_pop j c (q ∷ ps) (i ∷ ks) end p k d e same (taken, h) =
      let (before, way, last, is) = way_pop (suc j) (raised c q) ps ks end p k d (omega (arith, e)) (omega (arith, same)) h in
      (before, (taken, way), last, is)

  module _ (all : AreOffered hold fail sh n ts (length ts) lists) where
    -- the list of a triple is that of its places
    own_places : (j : ℕ) (own : List Place) → slice_get lists j ≡ Some own → (d : Triple) × (slice_get ts j ≡ Some (get_or ts j d)) × ArePlacesFor hold fail sh n (get_or ts j d) own
    own_places j own at =
        let lt = slice_get_within lists j own at in
        let count = all.count_is in
        let within : j < length ts = omega (arith, lt, count) in
        let (d, are) = offered_at hold fail sh n ts lists all j own within at in
        (d, slice_get-get_or ts j d within, are)

    pub own_there : (j : ℕ) (own : List Place) → slice_get lists j ≡ Some own → (k : ℕ) → k ≡ length sh.occs → ArePlacesOf k own
    own_there j own at k is =
        let (d, t, are) = own_places j own at in
        subst (λ m. ArePlacesOf m own) (sym is) (places_there hold fail sh n ts (get_or ts j d) own are)

    -- the counts at the end of a way are those of its places
    way_came : (j : ℕ) (c : List ℕ) (ps : List Place) (ks end : List ℕ) (d : ℕ) → d ≡ j + length ps → AreCountsOf hold fail sh n (take j ts) c →
        Way j c ps ks end → AreCountsOf hold fail sh n (take d ts) end
    way_came j c [] [] end d e came h =
        let at : j ≡ d = omega (arith, e) in
        subst (λ z. AreCountsOf hold fail sh n (take d ts) z) h (subst (λ i. AreCountsOf hold fail sh n (take i ts) c) at came)
    way_came j c [] (k ∷ ks) end d e came h = absurd h
    way_came j c (p ∷ ps) [] end d e came h = absurd h
    way_came j c (p ∷ ps) (k ∷ ks) end d e came ((own, at, here, tried), h) =
        let (t, there, are) = own_places j own at in
        way_came (suc j) (raised c p) ps ks end d (omega (arith, e))
        (subst (λ i. AreCountsOf hold fail sh n (take i ts) (raised c p)) (add-one j)
        (came_next hold fail sh n ts j t c p (slice_get_within ts j (get_or ts j t) there) came ((are.same p).0 (got_in own k p here)))) h

    -- where all places finish nothing, neither do the counts before them
    pub never_before : (j : ℕ) (c : List ℕ) (own : List Place) → length c ≡ length sh.occs → slice_get lists j ≡ Some own → AreTried hold fail sh n ts j c own → Never j c
    never_before j c own long at tried ps fin = let (d, t, are) = own_places j own at in go d t are ps fin
      where
        go : (d : Triple) → slice_get ts j ≡ Some (get_or ts j d) → ArePlacesFor hold fail sh n (get_or ts j d) own → (qs : List Place) → ¬ Finishes hold fail sh n ts (state_of j c) qs
        go d t are [] f = finish_some hold fail sh n ts j c (get_or ts j d) t f
        go d t are (q ∷ qs) f =
            let (place_there, ok, behind) = finish_split hold fail sh n ts j c (get_or ts j d) q qs t long f in
            tried q ((are.same q).1 ok) qs behind

    -- nor do counts that are lost
    pub never_lost : (j left : ℕ) (c more : List ℕ) (failed : List (BTreeSet (Vec ℕ))) → suc j + left ≡ length ts → AreOffers (length sh.occs) (drop (suc j) lists) more →
        AreFailed hold fail sh n ts failed → IsLost sh.body more failed left c → Never (suc j) c
    never_lost j left c more failed e held failed_are (inl dead) ps = hopeless_ends hold fail sh n ts lists all (suc j) c more held dead ps
    never_lost j left c more failed e held failed_are (inr found) ps = (failed_are (suc j) left c e found).0 ps

    -- the least places from counts on, with the place that leads to them
    taken_least : (j : ℕ) (c : List ℕ) (p : Place) (k : ℕ) → length c ≡ length sh.occs → Taken j c p k → (rest : List Place) → FinishesLeast hold fail sh n ts (state_of (suc j) (raised c p)) rest →
        FinishesLeast hold fail sh n ts (state_of j c) (p ∷ rest)
    taken_least j c p k long (own, at, here, tried) rest (fin, least) = let (d, t, are) = own_places j own at in go d t are
      where
        p_is : p ≡ get_or own k p
        p_is = sym (get_or_from_slice_get own k p p here)

        within : k < length own
        within = slice_get_within own k p here

        go : (d : Triple) → slice_get ts j ≡ Some (get_or ts j d) → ArePlacesFor hold fail sh n (get_or ts j d) own → FinishesLeast hold fail sh n ts (state_of j c) (p ∷ rest)
        go d t are =
            (finish_cons hold fail sh n ts j c (get_or ts j d) p rest t (own_there j own at (length c) long p (got_in own k p here)) ((are.same p).0 (got_in own k p here)) fin, λ qs other. before qs other)
          where
            before : (qs : List Place) → Finishes hold fail sh n ts (state_of j c) qs → IsNotBehind (p ∷ rest) qs
            before [] other = absurd (finish_some hold fail sh n ts j c (get_or ts j d) t other)
            before (q ∷ qs) other =
                let (place_there, ok, behind) = finish_split hold fail sh n ts j c (get_or ts j d) q qs t long other in
                elim (Contains-append_cases (take k own) (drop k own) q (subst (λ zs. Contains zs q) (sym (take-append-drop k own)) ((are.same q).1 ok))) [
                  | inl sooner ↦ absurd (tried q sooner qs behind)
                  | inr later ↦ elim (in_rest (get_or own k p) (drop (k + 1) own) q (subst (λ zs. Contains zs q) (drop_more own k p within) later)) [
                    | inl same ↦ inr (p_is ∙ same, least qs (subst (λ z. Finishes hold fail sh n ts (state_of (suc j) (raised c z)) qs) (sym (p_is ∙ same)) behind))
                    | inr after ↦ inl (subst (λ z. IsPlaceBefore z q) (sym p_is) (rising_behind IsPlaceBefore own k p within are.rising q after))
                  ]
                ]

    way_least : (j : ℕ) (c : List ℕ) (ps : List Place) (ks end : List ℕ) (d : ℕ) → d ≡ j + length ps → length c ≡ length sh.occs → Way j c ps ks end → (rest : List Place) →
        FinishesLeast hold fail sh n ts (state_of d end) rest → FinishesLeast hold fail sh n ts (state_of j c) (ps ++ rest)
    way_least j c [] [] end d e long h rest fin =
        let at : d ≡ j = omega (arith, e) in
        subst (λ z. FinishesLeast hold fail sh n ts (state_of j z) rest) (sym h) (subst (λ i. FinishesLeast hold fail sh n ts (state_of i end) rest) at fin)
    way_least j c [] (k ∷ ks) end d e long h rest fin = absurd h
    way_least j c (p ∷ ps) [] end d e long h rest fin = absurd h
    way_least j c (p ∷ ps) (k ∷ ks) end d e long h rest fin =
        taken_least j c p k long h.0 (ps ++ rest) (way_least (suc j) (raised c p) ps ks end d (omega (arith, e)) (raised_long c p ∙ long) h.1 rest fin)

    -- ---- the numbers of places that are left

    module _ (j : ℕ) (own : List Place) (at : slice_get lists j ≡ Some own) where
      own_offers : (i : ℕ) → offers (drop j lists) i ≡ times own i + offers (drop (suc j) lists) i
      own_offers i =
          let b = offers_left lists j [] i (slice_get_within lists j own at) in
          let c : times (get_or lists j []) i ≡ times own i = ap (λ z. times z i) (get_or_from_slice_get lists j own [] at) in
          let e : offers (drop (j + 1) lists) i ≡ offers (drop (suc j) lists) i = ap (λ k. offers (drop k lists) i) (add-one j) in
          omega (arith, b, c, e)

      pub own_some : (more : List ℕ) → AreOffers (length sh.occs) (drop j lists) more → (i : ℕ) → times own i ≤ slice_index more i
      own_some more left i = let a = left.1 i in let b = own_offers i in omega (arith, a, b)

      pub own_left : (more now : List ℕ) → AreOffers (length sh.occs) (drop j lists) more → length now ≡ length more → ((i : ℕ) → slice_index more i ≡ slice_index now i + times own i) →
          AreOffers (length sh.occs) (drop (suc j) lists) now
      own_left more now left long taken = (long ∙ left.0, λ i. let a = left.1 i in let b = own_offers i in let c = taken i in omega (arith, a, b, c))

      pub own_back : (now again : List ℕ) → AreOffers (length sh.occs) (drop (suc j) lists) now → length again ≡ length now → ((i : ℕ) → slice_index again i ≡ slice_index now i + times own i) →
          AreOffers (length sh.occs) (drop j lists) again
      own_back now again left long added = (long ∙ left.0, λ i. let a = left.1 i in let b = own_offers i in let c = added i in omega (arith, a, b, c))

      pub own_room : (now : List ℕ) → AreOffers (length sh.occs) (drop (suc j) lists) now → length ts < 2 ^ 31 → (i : ℕ) → slice_index now i + times own i < 2 ^ 31
      own_room now left few i =
          let a = left.1 i in
          let b = own_offers i in
          let c = for_few hold fail sh n (drop j ts) (drop j lists) (for_drop hold fail sh n j ts lists (for_offered hold fail sh n ts lists all)) i in
          let e = drop_few j ts in
          omega (arith, a, b, c, e, few)

    -- ---- where a search stands

    abbrev pub Search : List Place → List ℕ → List ℕ → List ℕ → List (BTreeSet (Vec ℕ)) → ℕ → Type 0
    Search places tried counts more failed from = IsSearch hold fail sh n ts lists places tried counts more failed from

    none_first : (own : List Place) (q : Place) → ¬ Contains (take 0 own) q
    none_first [] q c = not_in_none q c
    none_first (p ∷ own) q c = not_in_none q c

    zeros_are : (counts : List ℕ) → counts ≡ replicate (length sh.occs) 0 → no_counts sh.occs ≡ counts
    zeros_are counts zeros = ap (λ x. x.counts) (opening_is sh counts zeros)

    pub search_starts : (places : List Place) (tried counts more : List ℕ) (failed : List (BTreeSet (Vec ℕ))) → places ≡ [] → tried ≡ [] →
        counts ≡ replicate (length sh.occs) 0 → AreOffers (length sh.occs) lists more → failed ≡ [] →
        ¬ IsHopeless sh.body counts more → Search places tried counts more failed 0
    search_starts places tried counts more failed none untried zeros left clean alive =
        subst (λ z. Search z tried counts more failed 0) (sym none)
        (subst (λ z. Search [] z counts more failed 0) (sym untried)
        (subst (λ z. Search [] [] counts more z 0) (sym clean) (record {
          within = omega arith;
          way = zeros_are counts zeros;
          left = left;
          failed_are = none_failed hold fail sh n ts;
          next = λ own at q c. absurd (none_first own q c);
          alive = λ past. alive;
        })))

    -- nothing finishes from the opening counts where they are hopeless
    pub hopeless_none : (counts more : List ℕ) → counts ≡ replicate (length sh.occs) 0 → AreOffers (length sh.occs) lists more → IsHopeless sh.body counts more → Never 0 (no_counts sh.occs)
    hopeless_none counts more zeros left dead ps =
        subst (λ z. ¬ Finishes hold fail sh n ts (state_of 0 z) ps) (sym (zeros_are counts zeros)) (hopeless_ends hold fail sh n ts lists all 0 counts more left dead ps)

    module _ (places : List Place) (tried counts more : List ℕ) (failed : List (BTreeSet (Vec ℕ))) (from : ℕ) (s : Search places tried counts more failed from) where
      pub search_long : length counts ≡ length sh.occs
      search_long = way_long 0 (no_counts sh.occs) places tried counts s.way ∙ length-map sh.occs (λ o. 0)

      pub search_same : length tried ≡ length places
      search_same = way_same 0 (no_counts sh.occs) places tried counts s.way

      pub search_came : AreCountsOf hold fail sh n (take (length places) ts) counts
      search_came = way_came 0 (no_counts sh.occs) places tried counts (length places) (omega arith) (opening_came hold fail sh n ts) s.way

      pub search_small : length ts < 2 ^ 31 → (i : ℕ) → slice_index counts i < 2 ^ 31
      search_small few i =
          let m = way_most 0 (no_counts sh.occs) places tried counts s.way (λ k. let z = opening_at sh k in omega (arith, z)) i in
          let w = s.within in
          omega (arith, m, w, few)

      pub search_ends : IntervalHasCopies → BodyOk sh.occs sh.body → length ts ≤ length places → AreLeast hold fail sh n ts places
      search_ends law body past =
          let fin = hopes_spelled hold fail sh n ts lists all law body (length places) counts more search_long past s.left (s.alive past) in
          let least = way_least 0 (no_counts sh.occs) places tried counts (length places) (omega arith) (length-map sh.occs (λ o. 0)) s.way []
          (walk_end hold fail sh n ts (length places) counts past [] fin) in
          subst (λ z. AreLeast hold fail sh n ts z) (append-nil places) (walk_start hold fail sh n ts (no_counts sh.occs) refl (places ++ []) least)

      module _ (own : List Place) (at_own : slice_get lists (length places) ≡ Some own) (left : ℕ) (count : suc (length places) + left ≡ length ts) (now : List ℕ)
          (now_are : AreOffers (length sh.occs) (drop (suc (length places)) lists) now) where
        tried_now : (some : List Place) → AreLost sh.body now failed left counts (take from own) some → AreTried hold fail sh n ts (length places) counts some
        tried_now some lost q c = elim (lost q c) [
          | inl first ↦ s.next own at_own q first
          | inr gone ↦ never_lost (length places) left (raised counts q) now failed count now_are s.failed_are gone
        ]

        pub search_enters : (at : ℕ) → IsOpenFrom sh.body now failed left counts own from at → (p : Place) → slice_get own at ≡ Some p → (ps : List Place) (ks c : List ℕ) →
            ps ≡ places ++ p ∷ [] → ks ≡ tried ++ at ∷ [] → c ≡ raised counts p → Search ps ks c now failed 0
        search_enters at (q, there, hopes, lost) p here ps ks c ps_is ks_is c_is =
            let same : q ≡ p = same_some q p (sym there ∙ here) in
            let long : length ps ≡ suc (length places) = (let a : length ps ≡ length (places ++ p ∷ []) = ap (λ z. length z) ps_is in let b = length-append places (p ∷ []) in omega (arith, a, b)) in
            record {
              within = omega (arith, long, count);
              way =
                  subst (λ z. Way 0 (no_counts sh.occs) z ks c) (sym ps_is)
                  (subst (λ z. Way 0 (no_counts sh.occs) (places ++ p ∷ []) z c) (sym ks_is)
                  (subst (λ z. Way 0 (no_counts sh.occs) (places ++ p ∷ []) (tried ++ at ∷ []) z) (sym c_is)
                  (way_push 0 (no_counts sh.occs) places tried counts p at (length places) (omega arith) s.way (own, at_own, here, tried_now (take at own) lost))));
              left = subst (λ k. AreOffers (length sh.occs) (drop k lists) now) (sym long) now_are;
              failed_are = s.failed_are;
              next = λ some is r held. absurd (none_first some r held);
              alive = λ past. subst (λ z. ¬ IsHopeless sh.body z now) (sym (c_is ∙ ap (λ z. raised counts z) (sym same))) hopes;
            }

        pub search_stops : AreLost sh.body now failed left counts (take from own) own → Never (length places) counts
        search_stops lost = never_before (length places) counts own search_long at_own (tried_now own lost)

    -- one more of the counts has failed
    pub failed_more : (old new : List (BTreeSet (Vec ℕ))) (j left : ℕ) (counts lent : List ℕ) → AreFailed hold fail sh n ts old → j + left ≡ length ts →
        Never j counts → AreCountsOf hold fail sh n (take j ts) counts → lent ≡ counts →
        ((k : ℕ) (c : List ℕ) → HasFailed new k c → HasFailed old k c ⊎ ((k ≡ left) × (lent ≡ c))) → AreFailed hold fail sh n ts new
    failed_more old new j left counts lent are count never came same put done k c e has = elim (put k c has) [
      | inl before ↦ are done k c e before
      | inr own ↦
          let at = own.0 in
          let here : j ≡ done = omega (arith, e, count, at) in (
            subst (λ i. Never i c) here (subst (λ z. Never j z) (sym same ∙ own.1) never),
            subst (λ i. AreCountsOf hold fail sh n (take i ts) c) here (subst (λ z. AreCountsOf hold fail sh n (take j ts) z) (sym same ∙ own.1) came),
          )
    ]

    -- ---- one place is given back

    module _ (places : List Place) (tried counts : List ℕ) (within : length places ≤ length ts) (way : Way 0 (no_counts sh.occs) places tried counts) (never : Never (length places) counts) where
      -- nothing finishes from the opening counts where no triple has a place
      pub none_finish : places ≡ [] → Never 0 (no_counts sh.occs)
      none_finish none = go places tried none way never
        where
          go : (ps : List Place) (ks : List ℕ) → ps ≡ [] → Way 0 (no_counts sh.occs) ps ks counts → Never (length ps) counts → Never 0 (no_counts sh.occs)
          go [] [] e w h = subst (λ z. Never 0 z) (sym w) h
          go [] (k ∷ ks) e w h = absurd w
          go (p ∷ ps) ks e w h = absurd (let bad : ⊥ = cc in bad)

      module _ (ps : List Place) (p : Place) (ps_is : places ≡ ps ++ p ∷ []) (ks : List ℕ) (k : ℕ) (ks_is : tried ≡ ks ++ k ∷ []) where
        long : length places ≡ suc (length ps)
        long = let a : length places ≡ length (ps ++ p ∷ []) = ap (λ z. length z) ps_is in let b = length-append ps (p ∷ []) in omega (arith, a, b)

        as_long : length ks ≡ length ps
        as_long =
            let a : length tried ≡ length (ks ++ k ∷ []) = ap (λ z. length z) ks_is in
            let b = length-append ks (k ∷ []) in
            let c = way_same 0 (no_counts sh.occs) places tried counts way in
            let l = long in
            omega (arith, a, b, c, l)

        came : (before : List ℕ) × Way 0 (no_counts sh.occs) ps ks before × Taken (length ps) before p k × (raised before p ≡ counts)
        came =
            way_pop 0 (no_counts sh.occs) ps ks counts p k (length ps) (omega arith) as_long
            (subst (λ z. Way 0 (no_counts sh.occs) z (ks ++ k ∷ []) counts) ps_is (subst (λ z. Way 0 (no_counts sh.occs) places z counts) ks_is way))

        -- what the counts were
        pub back_came : (before : List ℕ) × IsPlaceOf (length before) p × (counts ≡ raised before p)
        back_came =
            let (before, w, (own, at, here, passed), is) = came in
            (before, own_there (length ps) own at (length before) (way_long 0 (no_counts sh.occs) ps ks before w ∙ length-map sh.occs (λ o. 0)) p (got_in own k p here), sym is)

        pub back_more : (more : List ℕ) → AreOffers (length sh.occs) (drop (length places) lists) more → AreOffers (length sh.occs) (drop (suc (length ps)) lists) more
        back_more more left = subst (λ i. AreOffers (length sh.occs) (drop i lists) more) long left

        pub back_some : length places < length ts → length ks + 1 < length lists
        back_some less = let l = long in let e = as_long in let count = all.count_is in omega (arith, l, e, count, less)

        pub back_within : (own : List Place) → slice_get lists (length ps) ≡ Some own → k < length own
        back_within own at =
            let (before, w, (o, o_at, here, passed), is) = came in
            let lt = slice_get_within o k p here in
            let e : length o ≡ length own = ap (λ z. length z) (same_some o own (sym o_at ∙ at)) in
            omega (arith, lt, e)

        pub search_leaves : (own : List Place) → slice_get lists (length ps) ≡ Some own → (c more again : List ℕ) (failed : List (BTreeSet (Vec ℕ))) →
            ((before : List ℕ) → counts ≡ raised before p → c ≡ before) →
            AreOffers (length sh.occs) (drop (length places) lists) more → length again ≡ length more →
            ((i : ℕ) → slice_index again i ≡ slice_index more i + times own i) → AreFailed hold fail sh n ts failed →
            Search ps ks c again failed (suc k)
        search_leaves own at c more again failed lowered left same added failed_are =
            let (before, w, (o, o_at, here, passed), is) = came in
            let c_is : c ≡ before = lowered before (sym is) in
            record {
              within = let l = long in omega (arith, l, within);
              way = subst (λ z. Way 0 (no_counts sh.occs) ps ks z) (sym c_is) w;
              left = own_back (length ps) own at more again (subst (λ i. AreOffers (length sh.occs) (drop i lists) more) long left) same added;
              failed_are = failed_are;
              next = λ some some_at q held. subst (λ z. Never (suc (length ps)) (raised z q)) (sym c_is) (next_never before o o_at here passed is some some_at q held);
              alive = λ past. absurd (let l = long in omega (arith, l, within, past));
            }
          where
            next_never : (before : List ℕ) (o : List Place) → slice_get lists (length ps) ≡ Some o → slice_get o k ≡ Some p →
                AreTried hold fail sh n ts (length ps) before (take k o) → raised before p ≡ counts →
                (some : List Place) → slice_get lists (length ps) ≡ Some some → (q : Place) → Contains (take (suc k) some) q → Never (suc (length ps)) (raised before q)
            next_never before o o_at here passed is some some_at q held =
                let same_list : some ≡ o = same_some some o (sym some_at ∙ o_at) in
                let in_own : Contains (take k o ++ get_or o k p ∷ []) q =
                subst (λ zs. Contains zs q) (take_more o k p (slice_get_within o k p here))
                (subst (λ i. Contains (take i o) q) (sym (add-one k)) (subst (λ z. Contains (take (suc k) z) q) same_list held)) in
                elim (in_push (take k o) (get_or o k p) q in_own) [
                  | inl sooner ↦ passed q sooner
                  | inr last ↦
                      let q_is : p ≡ q = sym (get_or_from_slice_get o k p p here) ∙ last in
                      subst (λ z. Never (suc (length ps)) (raised before z)) q_is
                      (subst (λ z. Never (suc (length ps)) z) (sym is) (subst (λ i. Never i counts) long never))
                ]
