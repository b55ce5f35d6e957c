-- How often occurrences stand among places, a place and a list at a time.
use Rattle.std.proofs.Common.{◌≡◌, ℕ, zero, suc, ◌+◌, ◌-◌, ◌^◌, ◌<◌, ◌≤◌, inl, inr, length, get_or, set, take, drop, List, [], ◌∷◌, ◌++◌, refl, arith, ap, sym, subst, ◌∙◌, Bool, true, false, cond, slice_index, get_or-set_same, get_or-set_other}
use Rattle.std.proofs.lemmas.Bool.{cases_eq, eqb-true}
use Rattle.std.proofs.lemmas.Bool.Decides.{nat_tests}
use Rattle.std.proofs.lemmas.Grind.{same_number_lists}
use Rattle.std.proofs.lemmas.List.{drop_more, length-set, take_all, take_more, take-append-drop}
use Rattle.std.proofs.lemmas.List.Elements.{Contains-get_or}
use Rattle.std.specs.List.{AllByRecursion}
use Rattle.std.specs.Prelude.{Contains, Option, Some, nat_eq, slice_get}
use Rattle.rdf_terms.specs.declared.terms.TermId.{TermId}
use Rattle.rdf_terms.specs.declared.terms.Triple.{Triple}
use Rattle.schema_tree.specs.declared.schema.ExprId.{ExprId}
use Rattle.schema_tree.specs.declared.schema.Shape.{Shape}
use Rattle.schema_tree.specs.declared.verdicts.Place.{Place}
use Rattle.schema_tree.specs.declared.verdicts.Place.TheVariants.{At, Rest}
use Rattle.schema_tree.specs.Places.{AreAllowed, add_place, times}
use Rattle.schema_tree.specs.Rising.{AreRising}
use Rattle.schema_tree.proofs.ToPlaces.{times_append}
use Rattle.bag_match.specs.Counts.{ArePlacesOf, IsPlaceOf, raised}
use Rattle.bag_match.specs.Hopes.{ArePlacesOfEach, AreOffers, offers}
use Rattle.bag_match.specs.Least.{AreOffered, ArePlacesFor, IsPlaceBefore}
use Rattle.lists.proofs.Members.{in_rest, not_in_none}
use Rattle.bag_match.proofs.Counting.{add_least, times_next}
use Rattle.bag_match.proofs.Finishing.{count_raised}
use Rattle.bag_match.proofs.Offered.{allowed_there}
use Rattle.bag_match.proofs.Stepping.{raised_long}

-- ---- one place

add_on : (i : ℕ) (p : Place) (k : ℕ) → add_place i p k ≡ add_place i p 0 + k
add_on i (At a) k = go (nat_eq i a)
  where
    go : (b : Bool) → cond b (suc k) k ≡ cond b 1 0 + k
    go true = omega arith
    go false = omega arith
add_on i Rest k = omega arith

pub raised_at : (counts : List ℕ) (p : Place) → IsPlaceOf (length counts) p → (i : ℕ) → slice_index (raised counts p) i ≡ slice_index counts i + add_place i p 0
raised_at counts p there i = let e = count_raised counts p there [] i in let z : times [] i ≡ 0 = refl in omega (arith, e, z)

-- counts with the place of a triple among them came of others
pub came_of : (counts : List ℕ) (p : Place) → IsPlaceOf (length counts) p → ((i : ℕ) → add_place i p 0 ≤ slice_index counts i) →
    (before : List ℕ) × IsPlaceOf (length before) p × (counts ≡ raised before p)
came_of counts Rest there some = (counts, tt, refl)
came_of counts (At j) there some =
    (before, (let l = length-set counts j (slice_index counts j - 1) in subst (λ k. j < k) (sym l) there), sym (same_number_lists (raised before (At j)) counts long each))
  where
    before : List ℕ
    before = set counts j (slice_index counts j - 1)

    long : length (raised before (At j)) ≡ length counts
    long = raised_long before (At j) ∙ length-set counts j (slice_index counts j - 1)

    one : 1 ≤ slice_index counts j
    one = go (nat_eq j j) (same j) (some j)
      where
        same : (k : ℕ) → nat_eq k k ≡ true
        same k = grind (arith, nat_tests)

        go : (b : Bool) → b ≡ true → cond b 1 0 ≤ slice_index counts j → 1 ≤ slice_index counts j
        go true e h = h
        go false e h = absurd (let bad : ⊥ = cc in bad)

    within : j < length before
    within = let l = length-set counts j (slice_index counts j - 1) in subst (λ k. j < k) (sym l) there

    each : (k : ℕ) → k < length (raised before (At j)) → slice_index (raised before (At j)) k ≡ slice_index counts k
    each k lt = elim (cases_eq k j) [
      | inl at ↦
          let a : slice_index (raised before (At j)) j ≡ suc (slice_index before j) = get_or-set_same before j (suc (slice_index before j)) 0 within in
          let b : slice_index before j ≡ slice_index counts j - 1 = get_or-set_same counts j (slice_index counts j - 1) 0 there in
          let e : slice_index (raised before (At j)) j ≡ slice_index counts j = omega (arith, a, b, one) in
          subst (λ i. slice_index (raised before (At j)) i ≡ slice_index counts i) (sym at) e
      | inr other ↦ get_or-set_other before j k (suc (slice_index before j)) 0 other ∙ get_or-set_other counts j k (slice_index counts j - 1) 0 other
    ]

times_on : (ps : List Place) (j : ℕ) (d : Place) (i : ℕ) → j < length ps → times (take (j + 1) ps) i ≡ add_place i (get_or ps j d) 0 + times (take j ps) i
times_on ps j d i within = times_next ps j d i within ∙ add_on i (get_or ps j d) (times (take j ps) i)

-- the first places have no more of an occurrence than all
times_part : (ps : List Place) (j i : ℕ) → times (take j ps) i ≤ times ps i
times_part ps j i =
    let a : times (take j ps ++ drop j ps) i ≡ times ps i = ap (λ z. times z i) (take-append-drop j ps) in
    let b = times_append (take j ps) (drop j ps) i in
    omega (arith, a, b)

-- ---- the places of one list

module _ (old : List ℕ) (places : List Place) where
  pub record AreAdded (j : ℕ) (counts : List ℕ) : Type 0 where
    pub len : length counts ≡ length old
    pub added : (i : ℕ) → slice_index counts i ≡ slice_index old i + times (take j places) i

  pub added_none : AreAdded 0 old
  added_none = record { len = refl; added = λ i. (let z : times (take 0 places) i ≡ 0 = none i places in omega (arith, z)) }
    where
      none : (i : ℕ) (ps : List Place) → times (take 0 ps) i ≡ 0
      none i [] = refl
      none i (p ∷ ps) = refl

  pub added_next : (j : ℕ) (d : Place) (counts new : List ℕ) → j < length places → IsPlaceOf (length counts) (get_or places j d) → AreAdded j counts →
      new ≡ raised counts (get_or places j d) → AreAdded (j + 1) new
  added_next j d counts new within there h is = subst (λ z. AreAdded (j + 1) z) (sym is) (record {
    len = raised_long counts (get_or places j d) ∙ h.len;
    added = λ i.
        let a = raised_at counts (get_or places j d) there i in
        let b = h.added i in
        let c = times_on places j d i within in
        omega (arith, a, b, c);
  })

  pub added_small : (j : ℕ) (counts : List ℕ) → AreAdded j counts → ((i : ℕ) → slice_index old i + times places i < 2 ^ 31) → (i : ℕ) → slice_index counts i < 2 ^ 31
  added_small j counts h small i = let a = h.added i in let b = times_part places j i in let c = small i in omega (arith, a, b, c)

  pub added_all : (j : ℕ) (counts : List ℕ) → length places ≤ j → AreAdded j counts → (i : ℕ) → slice_index counts i ≡ slice_index old i + times places i
  added_all j counts past h i = h.added i ∙ ap (λ z. slice_index old i + times z i) (take_all j places past)

  pub record AreTaken (j : ℕ) (counts : List ℕ) : Type 0 where
    pub len : length counts ≡ length old
    pub taken : (i : ℕ) → slice_index old i ≡ slice_index counts i + times (take j places) i

  pub taken_none : AreTaken 0 old
  taken_none = record { len = refl; taken = λ i. (let z : times (take 0 places) i ≡ 0 = none i places in omega (arith, z)) }
    where
      none : (i : ℕ) (ps : List Place) → times (take 0 ps) i ≡ 0
      none i [] = refl
      none i (p ∷ ps) = refl

  module _ (j : ℕ) (d : Place) (counts : List ℕ) (within : j < length places) (there : IsPlaceOf (length counts) (get_or places j d)) (h : AreTaken j counts) where
    pub taken_came : ((i : ℕ) → times places i ≤ slice_index old i) → (before : List ℕ) × IsPlaceOf (length before) (get_or places j d) × (counts ≡ raised before (get_or places j d))
    taken_came some = came_of counts (get_or places j d) there (λ i.
        let a = h.taken i in
        let b = times_on places j d i within in
        let c = times_part places (j + 1) i in
        let e = some i in
        omega (arith, a, b, c, e))

    pub taken_next : (before new : List ℕ) → IsPlaceOf (length before) (get_or places j d) → counts ≡ raised before (get_or places j d) → new ≡ before → AreTaken (j + 1) new
    taken_next before new held came is = subst (λ z. AreTaken (j + 1) z) (sym is) (record {
      len = sym (raised_long before (get_or places j d)) ∙ ap (λ z. length z) (sym came) ∙ h.len;
      taken = λ i.
          let a = raised_at before (get_or places j d) held i in
          let b : slice_index counts i ≡ slice_index (raised before (get_or places j d)) i = ap (λ z. slice_index z i) came in
          let c = h.taken i in
          let e = times_on places j d i within in
          omega (arith, a, b, c, e);
    })

  pub taken_all : (j : ℕ) (counts : List ℕ) → length places ≤ j → AreTaken j counts → (i : ℕ) → slice_index old i ≡ slice_index counts i + times places i
  taken_all j counts past h i = h.taken i ∙ ap (λ z. slice_index counts i + times z i) (take_all j places past)

-- a place of the list, read
pub read_there : (n : ℕ) (places : List Place) (j : ℕ) (d : Place) → j < length places → ArePlacesOf n places → IsPlaceOf n (get_or places j d)
read_there n places j d within h = h (get_or places j d) (Contains-get_or places j d within)

-- ---- the lists

offers_append : (a b : List (List Place)) (i : ℕ) → offers (a ++ b) i ≡ offers a i + offers b i
offers_append [] b i = omega arith
offers_append (l ∷ a) b i = let h = offers_append a b i in omega (arith, h)

pub offers_next : (lists : List (List Place)) (j : ℕ) (d : List Place) (i : ℕ) → j < length lists → offers (take (j + 1) lists) i ≡ offers (take j lists) i + times (get_or lists j d) i
offers_next lists j d i within =
    let a : offers (take (j + 1) lists) i ≡ offers (take j lists ++ get_or lists j d ∷ []) i = ap (λ z. offers z i) (take_more lists j d within) in
    let b = offers_append (take j lists) (get_or lists j d ∷ []) i in
    omega (arith, a, b)

pub offers_part : (lists : List (List Place)) (j i : ℕ) → offers (take j lists) i ≤ offers lists i
offers_part lists j i =
    let a : offers (take j lists ++ drop j lists) i ≡ offers lists i = ap (λ z. offers z i) (take-append-drop j lists) in
    let b = offers_append (take j lists) (drop j lists) i in
    omega (arith, a, b)

pub offers_left : (lists : List (List Place)) (j : ℕ) (d : List Place) (i : ℕ) → j < length lists → offers (drop j lists) i ≡ times (get_or lists j d) i + offers (drop (j + 1) lists) i
offers_left lists j d i within = ap (λ z. offers z i) (drop_more lists j d within)

-- ---- allowed places

times_has : (l : List Place) (p : Place) (i : ℕ) → Contains l p → add_place i p 0 ≤ times l i
times_has [] p i c = absurd (not_in_none p c)
times_has (q ∷ l) p i c = elim (in_rest q l p c) [
  | inl e ↦
      let a : add_place i q 0 ≡ add_place i p 0 = ap (λ z. add_place i z 0) e in
      let b = add_on i q (times l i) in
      omega (arith, a, b)
  | inr later ↦
      let a = times_has l p i later in
      let b = add_least i q (times l i) in
      omega (arith, a, b)
]

-- places that rise have each occurrence once
times_none : (l : List Place) (a i : ℕ) → i ≡ a → AllByRecursion (IsPlaceBefore (At a)) l → times l i ≡ 0
times_none [] a i at h = refl
times_none (Rest ∷ l) a i at h = times_none l a i at h.1
times_none (At k ∷ l) a i at h = go (nat_eq i k) refl (times_none l a i at h.1)
  where
    go : (b : Bool) → nat_eq i k ≡ b → times l i ≡ 0 → cond b (suc (times l i)) (times l i) ≡ 0
    go true e z = absurd (let same = eqb-true i k e in let lt = h.0 in omega (arith, same, lt, at))
    go false e z = z

pub times_once : (l : List Place) (i : ℕ) → AreRising IsPlaceBefore l → times l i ≤ 1
times_once [] i h = omega arith
times_once (Rest ∷ l) i h = times_once l i h.1
times_once (At a ∷ l) i h = go (nat_eq i a) refl (times_once l i h.1)
  where
    go : (b : Bool) → nat_eq i a ≡ b → times l i ≤ 1 → cond b (suc (times l i)) (times l i) ≤ 1
    go true e most = let z = times_none l a i (eqb-true i a e) h.0 in omega (arith, z)
    go false e most = most

module _ (hold fail : TermId → Option ExprId → Type 0) (sh : Shape) (n : TermId) where
  -- each list has the places that are allowed for its triple
  abbrev pub AreFor : List Triple → List (List Place) → Type 0
  AreFor [] [] = Unit {0}
  AreFor [] (l ∷ ls) = ⊥
  AreFor (t ∷ ts) [] = ⊥
  AreFor (t ∷ ts) (l ∷ ls) = ArePlacesFor hold fail sh n t l × AreFor ts ls

  for_each : (ts : List Triple) (ls : List (List Place)) → length ls ≡ length ts →
      ((j : ℕ) (t : Triple) (l : List Place) → slice_get ts j ≡ Some t → slice_get ls j ≡ Some l → ArePlacesFor hold fail sh n t l) → AreFor ts ls
  for_each [] [] count each = tt
  for_each [] (l ∷ ls) count each = absurd (omega (arith, count))
  for_each (t ∷ ts) [] count each = absurd (omega (arith, count))
  for_each (t ∷ ts) (l ∷ ls) count each = (each 0 t l refl refl, for_each ts ls (omega (arith, count)) (λ j u k at here. each (suc j) u k at here))

  pub for_offered : (ts : List Triple) (ls : List (List Place)) → AreOffered hold fail sh n ts (length ts) ls → AreFor ts ls
  for_offered ts ls h = for_each ts ls h.count_is h.each

  pub for_drop : (j : ℕ) (ts : List Triple) (ls : List (List Place)) → AreFor ts ls → AreFor (drop j ts) (drop j ls)
  for_drop zero ts ls h = h
  for_drop (suc j) [] [] h = tt
  for_drop (suc j) [] (l ∷ ls) h = absurd h
  for_drop (suc j) (t ∷ ts) [] h = absurd h
  for_drop (suc j) (t ∷ ts) (l ∷ ls) h = for_drop j ts ls h.1

  pub for_there : (ts : List Triple) (ls : List (List Place)) → AreFor ts ls → ArePlacesOfEach (length sh.occs) ls
  for_there [] [] h places c = absurd (not_in_none places c)
  for_there [] (l ∷ ls) h places c = absurd h
  for_there (t ∷ ts) [] h places c = absurd h
  for_there (t ∷ ts) (l ∷ ls) h places c = elim (in_rest l ls places c) [
    | inl e ↦ subst (λ z. ArePlacesOf (length sh.occs) z) e (λ p held. allowed_there hold fail sh n t p ((h.0.same p).0 held))
    | inr later ↦ for_there ts ls h.1 places later
  ]

  -- allowed places have no more of an occurrence than the lists
  pub for_most : (ts : List Triple) (ls : List (List Place)) (ps : List Place) → AreFor ts ls → AreAllowed hold fail sh n ts ps → (i : ℕ) → times ps i ≤ offers ls i
  for_most [] [] [] h a i = omega arith
  for_most [] [] (p ∷ ps) h a i = absurd a
  for_most [] (l ∷ ls) ps h a i = absurd h
  for_most (t ∷ ts) [] ps h a i = absurd h
  for_most (t ∷ ts) (l ∷ ls) [] h a i = absurd a
  for_most (t ∷ ts) (l ∷ ls) (p ∷ ps) h a i =
      let b = times_has l p i ((h.0.same p).1 a.0) in
      let c = for_most ts ls ps h.1 a.1 i in
      let e = add_on i p (times ps i) in
      omega (arith, b, c, e)

  pub for_few : (ts : List Triple) (ls : List (List Place)) → AreFor ts ls → (i : ℕ) → offers ls i ≤ length ts
  for_few [] [] h i = omega arith
  for_few [] (l ∷ ls) h i = absurd h
  for_few (t ∷ ts) [] h i = absurd h
  for_few (t ∷ ts) (l ∷ ls) h i =
      let b = times_once l i h.0.rising in
      let c = for_few ts ls h.1 i in
      omega (arith, b, c)

-- ---- the lists, one after the other

module _ (n : ℕ) (lists : List (List Place)) (there : ArePlacesOfEach n lists) (j : ℕ) (d own : List Place) (within : j < length lists)
    (read : own ≡ get_or lists j d) (counts : List ℕ) (h : AreOffers n (take j lists) counts) where
  pub each_there : ArePlacesOf (length counts) own
  each_there =
      subst (λ z. ArePlacesOf (length counts) z) (sym read)
      (subst (λ k. ArePlacesOf k (get_or lists j d)) (sym h.0) (there (get_or lists j d) (Contains-get_or lists j d within)))

  pub each_small : ((i : ℕ) → offers lists i < 2 ^ 31) → (i : ℕ) → slice_index counts i + times own i < 2 ^ 31
  each_small small i =
      let a = h.1 i in
      let b = offers_next lists j d i within in
      let c = offers_part lists (j + 1) i in
      let e = small i in
      let f : times own i ≡ times (get_or lists j d) i = ap (λ z. times z i) read in
      omega (arith, a, b, c, e, f)

  pub each_next : (new : List ℕ) → length new ≡ length counts → ((i : ℕ) → slice_index new i ≡ slice_index counts i + times own i) → AreOffers n (take (j + 1) lists) new
  each_next new long added = (
    long ∙ h.0,
    λ i.
        let a = h.1 i in
        let b = offers_next lists j d i within in
        let c = added i in
        let f : times own i ≡ times (get_or lists j d) i = ap (λ z. times z i) read in
        omega (arith, a, b, c, f),
  )
