-- Walks by which groups of places are found: a place is entered for the first time.
use Rattle.std.proofs.Common.{◌≡◌, ℕ, zero, suc, ◌+◌, ◌<◌, ◌≤◌, List, [], ◌∷◌, ◌++◌, refl, sym, ap, subst, arith, length, ◌∙◌, get_or, set, Some, inl, inr, ◌⊎◌, map, get_or-set_same, get_or-set_other, length-set, length-append}
use Rattle.std.specs.Prelude.{Contains, slice_get}
use Rattle.std.proofs.lemmas.Bool.{cases_eq}
use Rattle.std.proofs.lemmas.List.{length-map}
use Rattle.std.proofs.lemmas.List.Elements.{Contains-append_left, Contains-append_right, Contains-push_cases}
use Rattle.std.proofs.lemmas.Option.{slice_get_within}
use Rattle.lists.proofs.Members.{is_first}
use Rattle.schema_load.specs.declared.groups.Standing.{Standing}
use Rattle.schema_load.specs.declared.groups.Standing.TheVariants.{Grouped, Open, Unseen}
use Rattle.schema_load.specs.declared.part.Part.{Part}
use Rattle.schema_load.specs.declared.sorting.Visit.{Visit}
use Rattle.schema_load.specs.declared.sorting.Visit.TheVariants.{Enter, Leave}
use Rattle.schema_load.specs.Graph.{Reaches, at_once}
use Rattle.schema_load.specs.Groups.{IsComing, IsGrouping, IsSettled, unseen}
use Rattle.schema_load.specs.Parts.{IsAt}
use Rattle.schema_load.specs.Sorting.{place_of}
use Rattle.schema_load.specs.Steps.{AreInside, AreTargets, IsNext, nexts}
use Rattle.schema_load.proofs.Leads.{step_of}
use Rattle.schema_load.proofs.Loadable.{append_cases, held_at, index_of}
use Rattle.schema_load.proofs.Sorts.{next_at}
use Rattle.schema_load.proofs.Stuck.{reach_more}
use Rattle.schema_load.proofs.Visits.{entered_at, entered_is, get_last, get_left, get_right, split_one}
use Rattle.schema_load.proofs.Grouping.{enter_not_leave, grouped_not_unseen, not_last, one_entered, one_open, open_not_grouped, open_not_unseen, to_entered, within_one}

-- ---- how many visits can come

unseen_open : (parts : List Part) (targets : List ℕ) (s : List Standing) (p : ℕ) (x : Part) (n : ℕ) → length targets ≡ length parts → length s ≡ length parts →
    slice_get parts p ≡ Some x → get_or s p Unseen ≡ Unseen →
    unseen parts targets (set s p (Open n)) + (1 + length (nexts (get_or targets p 0) x)) ≡ unseen parts targets s
unseen_open [] targets s p x n a b at fresh = absurd (let bad : ⊥ = cc in bad)
unseen_open (y ∷ ys) [] s p x n a b at fresh = absurd (omega arith)
unseen_open (y ∷ ys) (t ∷ ts) [] p x n a b at fresh = absurd (omega arith)
unseen_open (y ∷ ys) (t ∷ ts) (Unseen ∷ ss) zero x n a b at fresh = let same : y ≡ x = cc in
    subst (λ z. unseen ys ts ss + (1 + length (nexts t z)) ≡ (1 + length (nexts t y)) + unseen ys ts ss) same (omega arith)
unseen_open (y ∷ ys) (t ∷ ts) (Open m ∷ ss) zero x n a b at fresh = absurd (let bad : ⊥ = cc in bad)
unseen_open (y ∷ ys) (t ∷ ts) (Grouped g ∷ ss) zero x n a b at fresh = absurd (let bad : ⊥ = cc in bad)
unseen_open (y ∷ ys) (t ∷ ts) (Unseen ∷ ss) (suc p) x n a b at fresh = let h = unseen_open ys ts ss p x n (omega arith) (omega arith) at fresh in omega arith
unseen_open (y ∷ ys) (t ∷ ts) (Open m ∷ ss) (suc p) x n a b at fresh = unseen_open ys ts ss p x n (omega arith) (omega arith) at fresh
unseen_open (y ∷ ys) (t ∷ ts) (Grouped g ∷ ss) (suc p) x n a b at fresh = unseen_open ys ts ss p x n (omega arith) (omega arith) at fresh

pub unseen_less : (parts : List Part) (targets : List ℕ) (s : List Standing) (p g : ℕ) → unseen parts targets (set s p (Grouped g)) ≤ unseen parts targets s
unseen_less [] targets s p g = omega arith
unseen_less (y ∷ ys) [] s p g = omega arith
unseen_less (y ∷ ys) (t ∷ ts) [] p g = omega arith
unseen_less (y ∷ ys) (t ∷ ts) (Unseen ∷ ss) zero g = omega arith
unseen_less (y ∷ ys) (t ∷ ts) (Open m ∷ ss) zero g = omega arith
unseen_less (y ∷ ys) (t ∷ ts) (Grouped h ∷ ss) zero g = omega arith
unseen_less (y ∷ ys) (t ∷ ts) (Unseen ∷ ss) (suc p) g = let h = unseen_less ys ts ss p g in omega arith
unseen_less (y ∷ ys) (t ∷ ts) (Open m ∷ ss) (suc p) g = unseen_less ys ts ss p g
unseen_less (y ∷ ys) (t ∷ ts) (Grouped h ∷ ss) (suc p) g = unseen_less ys ts ss p g

module _ (parts : List Part) (targets : List ℕ) where
  -- ---- a place that is entered for the first time

  module _ (aims : AreTargets parts targets) (all_inside : AreInside parts targets) (s : List Standing) (trail starts : List ℕ) (count : ℕ) (rest : List Visit) (p : ℕ) (x : Part)
      (before : IsGrouping parts targets s trail starts count (rest ++ Enter p ∷ [])) (at_p : IsAt parts p x) (fresh : get_or s p Unseen ≡ Unseen) where
    abbrev ns : List ℕ
    ns = nexts (get_or targets p 0) x

    abbrev base : List Visit
    base = rest ++ Leave p ∷ []

    abbrev now : List Visit
    now = base ++ map Enter ns

    abbrev after : List Standing
    after = set s p (Open (length trail))

    from_rest : (i : ℕ) (w : Visit) → slice_get rest i ≡ Some w → slice_get now i ≡ Some w
    from_rest i w at = get_left base (map Enter ns) i w (get_left rest (Leave p ∷ []) i w at)

    was : (i : ℕ) (w : Visit) → slice_get rest i ≡ Some w → slice_get (rest ++ Enter p ∷ []) i ≡ Some w
    was i w at = get_left rest (Enter p ∷ []) i w at

    was_here : slice_get (rest ++ Enter p ∷ []) (length rest) ≡ Some (Enter p)
    was_here = get_last rest (Enter p)

    is_here : slice_get now (length rest) ≡ Some (Leave p)
    is_here = get_left base (map Enter ns) (length rest) (Leave p) (get_last rest (Leave p))

    inside_p : p < length s
    inside_p = let lt = before.inside (length rest) (Enter p) was_here in let n = before.size in omega arith

    now_p : get_or after p Unseen ≡ Open (length trail)
    now_p = get_or-set_same s p (Open (length trail)) Unseen inside_p

    now_other : (q : ℕ) → ¬ (q ≡ p) → get_or after q Unseen ≡ get_or s q Unseen
    now_other q apart = get_or-set_other s p q (Open (length trail)) Unseen apart

    -- what stands otherwise is another place
    other : (q : ℕ) → ¬ (get_or s q Unseen ≡ Unseen) → ¬ (q ≡ p)
    other q seen same = seen (subst (λ z. get_or s z Unseen ≡ Unseen) (sym same) fresh)

    still_open : (q i : ℕ) → get_or s q Unseen ≡ Open i → get_or after q Unseen ≡ Open i
    still_open q i is = now_other q (other q (open_not_unseen (get_or s q Unseen) i is)) ∙ is

    still_grouped : (q g : ℕ) → get_or s q Unseen ≡ Grouped g → get_or after q Unseen ≡ Grouped g
    still_grouped q g is = now_other q (other q (grouped_not_unseen (get_or s q Unseen) g is)) ∙ is

    was_grouped : (q g : ℕ) → get_or after q Unseen ≡ Grouped g → get_or s q Unseen ≡ Grouped g
    was_grouped q g is = elim (cases_eq q p) [
      | inl same ↦ absurd (open_not_grouped (get_or after p Unseen) (length trail) g now_p (subst (λ z. get_or after z Unseen ≡ Grouped g) same is))
      | inr apart ↦ sym (now_other q apart) ∙ is
    ]

    -- a visit is an old one, that by which the place is left, or one to a place to which it leads
    data IsOneOf (i : ℕ) (w : Visit) : Type 0 where
      old_one : slice_get rest i ≡ Some w → IsOneOf i w
      own_one : i ≡ length rest → Leave p ≡ w → IsOneOf i w
      new_one : (q : ℕ) → Enter q ≡ w → Contains ns q → length rest < i → IsOneOf i w

    one_of : (i : ℕ) (w : Visit) → slice_get now i ≡ Some w → IsOneOf i w
    one_of i w at = elim (append_cases base (map Enter ns) i w at) [
      | inl (lt, there) ↦ elim (split_one rest (Leave p) w i there) [
        | inl early ↦ old_one early
        | inr (e, same) ↦ own_one e same
      ]
      | inr (k, e, there) ↦ (let (q, same, is) = entered_is ns k w there in let l = length-append rest (Leave p ∷ []) in new_one q same (held_at ns k q is) (omega arith))
    ]

    leave_is : (i r : ℕ) → slice_get now i ≡ Some (Leave r) → (slice_get rest i ≡ Some (Leave r)) ⊎ ((i ≡ length rest) × (p ≡ r))
    leave_is i r at = go (one_of i (Leave r) at)
      where
        go : IsOneOf i (Leave r) → (slice_get rest i ≡ Some (Leave r)) ⊎ ((i ≡ length rest) × (p ≡ r))
        go (old_one h) = inl h
        go (own_one e same) = inr (e, let one : p ≡ r = cc in one)
        go (new_one q same c lt) = absurd (let bad : ⊥ = cc in bad)

    trail_is : (i q : ℕ) → slice_get (trail ++ p ∷ []) i ≡ Some q → (slice_get trail i ≡ Some q) ⊎ ((i ≡ length trail) × (p ≡ q))
    trail_is i q at = split_one trail p q i at

    trail_before : (i j a b : ℕ) → i < j → slice_get (trail ++ p ∷ []) i ≡ Some a → slice_get (trail ++ p ∷ []) j ≡ Some b → slice_get trail i ≡ Some a
    trail_before i j a b lt u w = elim (trail_is i a u) [
      | inl early ↦ early
      | inr (e, same) ↦ absurd (let n = within_one trail p j b w in omega arith)
    ]

    was_left : (i r : ℕ) → slice_get rest i ≡ Some (Leave r) → (n : ℕ) × (get_or s r Unseen ≡ Open n)
    was_left i r at = before.left i r (was i (Leave r) at)

    trail_low : (q i : ℕ) → get_or s q Unseen ≡ Open i → i < length trail
    trail_low q i is = slice_get_within trail i q (before.stands q i is)

    now_inside : (i : ℕ) (w : Visit) → slice_get now i ≡ Some w → place_of w < length parts
    now_inside i w at = go (one_of i w at)
      where
        go : IsOneOf i w → place_of w < length parts
        go (old_one h) = before.inside i w (was i w h)
        go (own_one e same) = subst (λ z. place_of z < length parts) same (before.inside (length rest) (Enter p) was_here)
        go (new_one q same c lt) = subst (λ z. place_of z < length parts) same (all_inside p q (x, at_p, c))

    now_held : (i q : ℕ) → slice_get (trail ++ p ∷ []) i ≡ Some q → get_or after q Unseen ≡ Open i
    now_held i q at = elim (trail_is i q at) [
      | inl early ↦ still_open q i (before.held i q early)
      | inr (e, same) ↦ subst (λ z. get_or after z Unseen ≡ Open i) same (now_p ∙ ap Open (sym e))
    ]

    now_stands : (q i : ℕ) → get_or after q Unseen ≡ Open i → slice_get (trail ++ p ∷ []) i ≡ Some q
    now_stands q i is = elim (cases_eq q p) [
      | inl same ↦ (
          let f = one_open (get_or after p Unseen) (length trail) i now_p (subst (λ z. get_or after z Unseen ≡ Open i) same is) in
          subst (λ n. slice_get (trail ++ p ∷ []) n ≡ Some q) f (subst (λ z. slice_get (trail ++ p ∷ []) (length trail) ≡ Some z) (sym same) (get_last trail p))
          )
      | inr apart ↦ get_left trail (p ∷ []) i q (before.stands q i (sym (now_other q apart) ∙ is))
    ]

    now_forward : (i j a b : ℕ) → i < j → slice_get (trail ++ p ∷ []) i ≡ Some a → slice_get (trail ++ p ∷ []) j ≡ Some b → Reaches parts a b
    now_forward i j a b lt u w = let early = trail_before i j a b lt u w in elim (trail_is j b w) [
      | inl late ↦ before.forward i j a b lt early late
      | inr (e, same) ↦ subst (λ z. Reaches parts a z) same (to_entered parts targets s trail starts count rest (Enter p) before p refl i a early)
    ]

    now_back : (i j a b : ℕ) → i < j → slice_get (trail ++ p ∷ []) i ≡ Some a → slice_get (trail ++ p ∷ []) j ≡ Some b →
        ((c : ℕ) → Contains (starts ++ length trail ∷ []) c → (c ≤ i) ⊎ (j < c)) → Reaches parts b a
    now_back i j a b lt u w apart = let early = trail_before i j a b lt u w in elim (trail_is j b w) [
      | inl late ↦ before.back i j a b lt early late (λ c has. apart c (Contains-append_left starts (length trail ∷ []) c has))
      | inr (e, same) ↦ absurd (elim (apart (length trail) (Contains-append_right starts (length trail ∷ []) (length trail) (is_first (length trail) []))) [
        | inl low ↦ omega arith
        | inr high ↦ omega arith
      ])
    ]

    start_low : (b : ℕ) → Contains starts b → b < length trail
    start_low b c = let (i, r, at, leave) = before.begun b c in slice_get_within trail b r at

    now_rising : (k l a b : ℕ) → k < l → slice_get (starts ++ length trail ∷ []) k ≡ Some a → slice_get (starts ++ length trail ∷ []) l ≡ Some b → a < b
    now_rising k l a b lt u w = elim (split_one starts (length trail) a k u) [
      | inl early ↦ elim (split_one starts (length trail) b l w) [
        | inl late ↦ before.rising k l a b lt early late
        | inr (e, same) ↦ (let low = start_low a (held_at starts k a early) in omega arith)
      ]
      | inr (e, same) ↦ absurd (let n = within_one starts (length trail) l b w in omega arith)
    ]

    now_begun : (b : ℕ) → Contains (starts ++ length trail ∷ []) b → (i : ℕ) × (q : ℕ) × (slice_get (trail ++ p ∷ []) b ≡ Some q) × (slice_get now i ≡ Some (Leave q))
    now_begun b c = elim (Contains-push_cases starts (length trail) b c) [
      | inl early ↦ (
          let (i, q, at, leave) = before.begun b early in
          elim (split_one rest (Enter p) (Leave q) i leave) [
            | inl there ↦ (i, q, get_left trail (p ∷ []) b q at, from_rest i (Leave q) there)
            | inr (e, same) ↦ absurd (enter_not_leave (Enter p) p q refl same)
          ]
          )
      | inr same ↦ (length rest, p, subst (λ n. slice_get (trail ++ p ∷ []) n ≡ Some p) same (get_last trail p), is_here)
    ]

    now_first : 0 < length (trail ++ p ∷ []) → Contains (starts ++ length trail ∷ []) 0
    now_first lt = elim (cases_eq (length trail) 0) [
      | inl none ↦ subst (λ n. Contains (starts ++ n ∷ []) 0) (sym none) (Contains-append_right starts (0 ∷ []) 0 (is_first 0 []))
      | inr some ↦ Contains-append_left starts (length trail ∷ []) 0 (before.first (omega (arith, some)))
    ]

    now_left : (i r : ℕ) → slice_get now i ≡ Some (Leave r) → (n : ℕ) × (get_or after r Unseen ≡ Open n)
    now_left i r at = elim (leave_is i r at) [
      | inl there ↦ (let (n, is) = was_left i r there in (n, still_open r n is))
      | inr (e, same) ↦ (length trail, subst (λ z. get_or after z Unseen ≡ Open (length trail)) same now_p)
    ]

    now_order : (i j q r m n : ℕ) → i < j → slice_get now i ≡ Some (Leave q) → slice_get now j ≡ Some (Leave r) → get_or after q Unseen ≡ Open m → get_or after r Unseen ≡ Open n → m < n
    now_order i j q r m n lt a b u w = elim (leave_is i q a) [
      | inl early ↦ (
          let (k, is) = was_left i q early in
          let f = one_open (get_or after q Unseen) k m (still_open q k is) u in
          let low = trail_low q k is in
          elim (leave_is j r b) [
            | inl late ↦ (
                let (l, once) = was_left j r late in
                let g = one_open (get_or after r Unseen) l n (still_open r l once) w in
                let h = before.order i j q r k l lt (was i (Leave q) early) (was j (Leave r) late) is once in
                omega arith
                )
            | inr (e, same) ↦ (let g = one_open (get_or after r Unseen) (length trail) n (subst (λ z. get_or after z Unseen ≡ Open (length trail)) same now_p) w in omega arith)
          ]
          )
      | inr (e, same) ↦ elim (leave_is j r b) [
        | inl late ↦ absurd (let h = slice_get_within rest j (Leave r) late in omega arith)
        | inr (f, also) ↦ absurd (omega arith)
      ]
    ]

    now_reach : (i j r : ℕ) (w : Visit) → i < j → slice_get now i ≡ Some (Leave r) → slice_get now j ≡ Some w → Reaches parts r (place_of w)
    now_reach i j r w lt at there = elim (leave_is i r at) [
      | inl h ↦ from_old h (one_of j w there)
      | inr (e, same) ↦ subst (λ z. Reaches parts z (place_of w)) same (from_own e (one_of j w there))
    ]
      where
        from_old : slice_get rest i ≡ Some (Leave r) → IsOneOf j w → Reaches parts r (place_of w)
        from_old h (old_one g) = before.reach i j r w lt (was i (Leave r) h) (was j w g)
        from_old h (own_one e same) = subst (λ z. Reaches parts r (place_of z)) same (before.reach i (length rest) r (Enter p) (slice_get_within rest i (Leave r) h) (was i (Leave r) h) was_here)
        from_old h (new_one q same c less) =
            subst (λ z. Reaches parts r (place_of z)) same
            (reach_more parts r p q (before.reach i (length rest) r (Enter p) (slice_get_within rest i (Leave r) h) (was i (Leave r) h) was_here) (step_of parts targets aims p q (x, at_p, c)))

        from_own : i ≡ length rest → IsOneOf j w → Reaches parts p (place_of w)
        from_own e (old_one g) = absurd (let n = slice_get_within rest j w g in omega arith)
        from_own e (own_one f same) = absurd (omega arith)
        from_own e (new_one q same c less) = let (y, at_once_here, leads) = step_of parts targets aims p q (x, at_p, c) in subst (λ z. Reaches parts p (place_of z)) same (at_once at_once_here leads)

    now_pending : (i q r : ℕ) → slice_get (trail ++ p ∷ []) i ≡ Some q → IsNext parts targets q r → IsSettled after (starts ++ length trail ∷ []) i r ⊎ IsComing now q r
    now_pending i q r at next = elim (trail_is i q at) [
      | inl early ↦ go (slice_get_within trail i q early) (before.pending i q r early next)
      | inr (e, same) ↦ (
          let c = next_at parts targets p r x at_p (subst (λ z. IsNext parts targets z r) (sym same) next) in
          let (k, is) = index_of ns r c in
          let l = length-append rest (Leave p ∷ []) in
          inr (
            length rest,
            length base + k,
            (let lt : length rest < length base + k = omega arith in lt),
            subst (λ z. slice_get now (length rest) ≡
                Some (Leave z)) same is_here,
            get_right base (map Enter ns) k (Enter r) (entered_at ns k r is),
          )
          )
    ]
      where
        go : i < length trail → IsSettled s starts i r ⊎ IsComing (rest ++ Enter p ∷ []) q r → IsSettled after (starts ++ length trail ∷ []) i r ⊎ IsComing now q r
        go low (inl (inl (g, known))) = inl (inl (g, still_grouped r g known))
        go low (inl (inr (j, opened, le))) = inl (inr (
          j,
          still_open r j opened,
          λ b c less. elim (Contains-push_cases starts (length trail) b c) [
            | inl was_there ↦ le b was_there less
            | inr same ↦ absurd (omega arith)
          ],
        ))
        go low (inr (a, k, lt, leave, enter)) = elim (split_one rest (Enter p) (Enter r) k enter) [
          | inl there ↦ inr (a, k, lt, from_rest a (Leave q) (not_last rest (Enter p) a k (Leave q) (Enter r) lt there leave), from_rest k (Enter r) there)
          | inr (e, same) ↦ inl (inr (
            length trail,
            subst (λ z. get_or after z Unseen ≡
                Open (length trail)) (one_entered (Enter p) p r refl same) now_p,
            λ b c le. (let h : b ≤ length trail = omega arith in h),
          ))
        ]

    now_falls : (q r g : ℕ) → get_or after q Unseen ≡ Grouped g → IsNext parts targets q r → (h : ℕ) × (get_or after r Unseen ≡ Grouped h) × (h ≤ g)
    now_falls q r g is next = let (h, known, le) = before.falls q r g (was_grouped q g is) next in (h, still_grouped r h known, le)

    now_waits : (q : ℕ) → q < length parts → get_or after q Unseen ≡ Unseen → (i : ℕ) × (slice_get now i ≡ Some (Enter q))
    now_waits q lt none = elim (cases_eq q p) [
      | inl same ↦ absurd (open_not_unseen (get_or after p Unseen) (length trail) now_p (subst (λ z. get_or after z Unseen ≡ Unseen) same none))
      | inr apart ↦ (let (i, at) = before.waits q lt (sym (now_other q apart) ∙ none) in elim (split_one rest (Enter p) (Enter q) i at) [
        | inl there ↦ (i, from_rest i (Enter q) there)
        | inr (e, same) ↦ absurd (apart (sym (one_entered (Enter p) p q refl same)))
      ])
    ]

    pub opened : IsGrouping parts targets after (trail ++ p ∷ []) (starts ++ length trail ∷ []) count now
    opened = record {
      size = length-set s p (Open (length trail)) ∙ before.size;
      inside = now_inside;
      held = now_held;
      stands = now_stands;
      forward = now_forward;
      back = now_back;
      rising = now_rising;
      begun = now_begun;
      first = now_first;
      left = now_left;
      order = now_order;
      reach = now_reach;
      pending = now_pending;
      low = λ q g is. before.low q g (was_grouped q g is);
      falls = now_falls;
      one = λ q r g a b. before.one q r g (was_grouped q g a) (was_grouped r g b);
      waits = now_waits;
    }

    pub opened_as : (n : ℕ) (trail_now starts_now : List ℕ) (visits : List Visit) → n ≡ length trail → trail_now ≡ trail ++ p ∷ [] →
        starts_now ≡ starts ++ n ∷ [] → visits ≡ now → IsGrouping parts targets (set s p (Open n)) trail_now starts_now count visits
    opened_as n trail_now starts_now visits e f g h =
        subst (λ z. IsGrouping parts targets (set s p (Open z)) trail_now starts_now count visits) (sym e)
        (subst (λ z. IsGrouping parts targets after z starts_now count visits) (sym f)
        (subst (λ z. IsGrouping parts targets after (trail ++ p ∷ []) z count visits) (sym (g ∙ ap (λ m. starts ++ m ∷ []) e))
        (subst (λ z. IsGrouping parts targets after (trail ++ p ∷ []) (starts ++ length trail ∷ []) count z) (sym h) opened)))

    -- it costs as much as comes with it
    less : length now + unseen parts targets after ≡ length rest + unseen parts targets s
    less =
        let h = unseen_open parts targets s p x (length trail) aims.size before.size at_p fresh in
        let a = length-append base (map Enter ns) in
        let b = length-append rest (Leave p ∷ []) in
        let c = length-map ns Enter in
        omega arith

    pub less_as : (n : ℕ) (visits : List Visit) → n ≡ length trail → visits ≡ now → length visits + unseen parts targets (set s p (Open n)) ≡ length rest + unseen parts targets s
    less_as n visits e h =
        subst (λ z. length visits + unseen parts targets (set s p (Open z)) ≡ length rest + unseen parts targets s) (sym e)
        (subst (λ z. length z + unseen parts targets after ≡ length rest + unseen parts targets s) (sym h) less)
