-- Walks by which groups of places are found: a group is closed.
use Rattle.std.proofs.Common.{◌≡◌, ℕ, ◌+◌, ◌<◌, ◌≤◌, List, [], ◌∷◌, ◌++◌, refl, sym, ap, subst, arith, length, ◌∙◌, get_or, Some, inl, inr, ◌⊎◌, take}
use Rattle.std.specs.Prelude.{Contains, slice_get}
use Rattle.std.proofs.lemmas.Bool.{cases_eq, cases_lt}
use Rattle.std.proofs.lemmas.List.Elements.{Contains-append_left, Contains-append_right, Contains-push_cases}
use Rattle.std.proofs.lemmas.Option.{slice_get_within}
use Rattle.lists.proofs.Members.{is_first}
use Rattle.schema_load.specs.declared.groups.Standing.{Standing}
use Rattle.schema_load.specs.declared.groups.Standing.TheVariants.{Grouped, Open, Unseen}
use Rattle.schema_load.specs.declared.part.Part.{Part}
use Rattle.schema_load.specs.declared.sorting.Visit.{Visit}
use Rattle.schema_load.specs.declared.sorting.Visit.TheVariants.{Enter, Leave}
use Rattle.schema_load.specs.Graph.{Reaches}
use Rattle.schema_load.specs.Groups.{AreNumbered, IsComing, IsGrouping, IsSettled}
use Rattle.schema_load.specs.Steps.{IsNext}
use Rattle.schema_load.proofs.Loadable.{index_of}
use Rattle.schema_load.proofs.Visits.{get_last, get_left, split_one}
use Rattle.schema_load.proofs.Grouping.{enter_not_leave, from_take, grouped_not_unseen, in_take, not_last, one_grouped, one_left, one_open, one_there, open_not_grouped, open_not_unseen, some_at, within_one}

module _ (parts : List Part) (targets : List ℕ) where
  module _ (s : List Standing) (trail starts : List ℕ) (count : ℕ) (rest : List Visit) (v : Visit) (before : IsGrouping parts targets s trail starts count (rest ++ v ∷ [])) where
    -- a place is left that begins a group: what was opened from there on has its group
    module _ (p i : ℕ) (e : v ≡ Leave p) (is : get_or s p Unseen ≡ Open i) (init : List ℕ) (ends : starts ≡ init ++ i ∷ []) (after : List Standing)
        (numbered : AreNumbered s trail i (length trail) count after) where
      has_start : Contains starts i
      has_start = subst (λ z. Contains z i) (sym ends) (Contains-append_right init (i ∷ []) i (is_first i []))

      was_begun : (b : ℕ) → Contains init b → Contains starts b
      was_begun b c = subst (λ z. Contains z b) (sym ends) (Contains-append_left init (i ∷ []) b c)

      init_at : (k b : ℕ) → slice_get init k ≡ Some b → slice_get starts k ≡ Some b
      init_at k b at = subst (λ z. slice_get z k ≡ Some b) (sym ends) (get_left init (i ∷ []) k b at)

      end_at : slice_get starts (length init) ≡ Some i
      end_at = subst (λ z. slice_get z (length init) ≡ Some i) (sym ends) (get_last init i)

      init_low : (b : ℕ) → Contains init b → b < i
      init_low b c = let (k, at) = index_of init b c in before.rising k (length init) b i (slice_get_within init k b at) (init_at k b at) end_at

      init_or_end : (b : ℕ) → Contains starts b → Contains init b ⊎ (i ≡ b)
      init_or_end b c = Contains-push_cases init i b (subst (λ z. Contains z b) ends c)

      start_low : (b : ℕ) → Contains starts b → b ≤ i
      start_low b c = elim (init_or_end b c) [
        | inl k ↦ (let h = init_low b k in omega arith)
        | inr same ↦ omega arith
      ]

      now_early : (q j : ℕ) → get_or s q Unseen ≡ Open j → j < i → get_or after q Unseen ≡ Open j
      now_early q j was lt = numbered.kept q (λ k low high at. (let f = one_open (get_or s q Unseen) j k was (before.held k q at) in omega arith)) ∙ was

      now_late : (q j : ℕ) → get_or s q Unseen ≡ Open j → i ≤ j → get_or after q Unseen ≡ Grouped count
      now_late q j was le = let at = before.stands q j was in numbered.grouped j q le (slice_get_within trail j q at) at

      now_known : (q g : ℕ) → get_or s q Unseen ≡ Grouped g → get_or after q Unseen ≡ Grouped g
      now_known q g was = numbered.kept q (λ k low high at. open_not_grouped (get_or s q Unseen) k g (before.held k q at) was) ∙ was

      now_unseen : (q : ℕ) → get_or s q Unseen ≡ Unseen → get_or after q Unseen ≡ Unseen
      now_unseen q was = numbered.kept q (λ k low high at. open_not_unseen (get_or s q Unseen) k (before.held k q at) was) ∙ was

      -- a place stands as before, or it was opened from there on
      data HowItWas (q : ℕ) : Type 0 where
        same_unseen : get_or s q Unseen ≡ Unseen → get_or after q Unseen ≡ Unseen → HowItWas q
        same_open : (j : ℕ) → get_or s q Unseen ≡ Open j → j < i → get_or after q Unseen ≡ Open j → HowItWas q
        same_group : (g : ℕ) → get_or s q Unseen ≡ Grouped g → get_or after q Unseen ≡ Grouped g → HowItWas q
        now_grouped : (j : ℕ) → get_or s q Unseen ≡ Open j → i ≤ j → get_or after q Unseen ≡ Grouped count → HowItWas q

      how : (q : ℕ) → HowItWas q
      how q = go (get_or s q Unseen) refl
        where
          go : (w : Standing) → get_or s q Unseen ≡ w → HowItWas q
          go Unseen was = same_unseen was (now_unseen q was)
          go (Grouped g) was = same_group g was (now_known q g was)
          go (Open j) was = elim (cases_lt j i) [
            | inl lt ↦ same_open j was lt (now_early q j was lt)
            | inr le ↦ now_grouped j was le (now_late q j was le)
          ]

      still_left : (k r : ℕ) → slice_get rest k ≡ Some (Leave r) → (n : ℕ) × (get_or s r Unseen ≡ Open n) × (n < i)
      still_left k r at =
          let (n, was) = before.left k r (get_left rest (v ∷ []) k (Leave r) at) in
          (n, was, before.order k (length rest) r p n i (slice_get_within rest k (Leave r) at) (get_left rest (v ∷ []) k (Leave r) at) (get_last rest v ∙ ap Some e) was is)

      now_held : (j q : ℕ) → slice_get (take i trail) j ≡ Some q → get_or after q Unseen ≡ Open j
      now_held j q at = let (lt, there) = from_take i trail j q at in now_early q j (before.held j q there) lt

      now_stands : (q j : ℕ) → get_or after q Unseen ≡ Open j → slice_get (take i trail) j ≡ Some q
      now_stands q j now = go (how q)
        where
          go : HowItWas q → slice_get (take i trail) j ≡ Some q
          go (same_unseen was after_is) = absurd (open_not_unseen (get_or after q Unseen) j now after_is)
          go (same_open k was lt after_is) = let f = one_open (get_or after q Unseen) k j after_is now in in_take i trail j q (omega arith)
              (before.stands q j (subst (λ z. get_or s q Unseen ≡ Open z) f was))
          go (same_group g was after_is) = absurd (open_not_grouped (get_or after q Unseen) j g now after_is)
          go (now_grouped k was le after_is) = absurd (open_not_grouped (get_or after q Unseen) j count now after_is)

      now_back : (j k q r : ℕ) → j < k → slice_get (take i trail) j ≡ Some q → slice_get (take i trail) k ≡ Some r → ((b : ℕ) → Contains init b → (b ≤ j) ⊎ (k < b)) → Reaches parts r q
      now_back j k q r lt x y apart =
          let (low, a) = from_take i trail j q x in
          let (less, b) = from_take i trail k r y in
          before.back j k q r lt a b (λ c has. elim (init_or_end c has) [
            | inl was ↦ apart c was
            | inr same ↦ inr (omega arith)
          ])

      now_begun : (b : ℕ) → Contains init b → (k : ℕ) × (r : ℕ) × (slice_get (take i trail) b ≡ Some r) × (slice_get rest k ≡ Some (Leave r))
      now_begun b c =
          let lt = init_low b c in
          let (k, r, at, leave) = before.begun b (was_begun b c) in
          elim (split_one rest v (Leave r) k leave) [
            | inl old ↦ (k, r, in_take i trail b r lt at, old)
            | inr (n, same) ↦ absurd (
                let one = one_left v p r e same in
                let f = one_open (get_or s p Unseen) i b is (subst (λ z. get_or s z Unseen ≡ Open b) (sym one) (before.held b r at)) in
                omega arith
                )
          ]

      now_first : 0 < length (take i trail) → Contains init 0
      now_first lt =
          let (q, at) = some_at (take i trail) lt in
          let (low, there) = from_take i trail 0 q at in
          let w = slice_get_within trail 0 q there in
          elim (init_or_end 0 (before.first (omega arith))) [
            | inl k ↦ k
            | inr same ↦ absurd (omega arith)
          ]

      now_pending : (j q r : ℕ) → slice_get (take i trail) j ≡ Some q → IsNext parts targets q r → IsSettled after init j r ⊎ IsComing rest q r
      now_pending j q r at next = let (lt, there) = from_take i trail j q at in go (before.pending j q r there next)
        where
          go : IsSettled s starts j r ⊎ IsComing (rest ++ v ∷ []) q r → IsSettled after init j r ⊎ IsComing rest q r
          go (inl (inl (g, was))) = inl (inl (g, now_known r g was))
          go (inl (inr (k, was, le))) = elim (cases_lt k i) [
            | inl lt ↦ inl (inr (k, now_early r k was lt, λ b c low. le b (was_begun b c) low))
            | inr more ↦ inl (inl (count, now_late r k was more))
          ]
          go (inr (a, k, lt, leave, enter)) = elim (split_one rest v (Enter r) k enter) [
            | inl old ↦ inr (a, k, lt, not_last rest v a k (Leave q) (Enter r) lt old leave, old)
            | inr (n, same) ↦ absurd (enter_not_leave v r p same e)
          ]

      now_low : (q g : ℕ) → get_or after q Unseen ≡ Grouped g → g < count + 1
      now_low q g now = go (how q)
        where
          go : HowItWas q → g < count + 1
          go (same_unseen was after_is) = absurd (grouped_not_unseen (get_or after q Unseen) g now after_is)
          go (same_open k was lt after_is) = absurd (open_not_grouped (get_or after q Unseen) k g after_is now)
          go (same_group h was after_is) = let f = one_grouped (get_or after q Unseen) h g after_is now in let l = before.low q h was in omega arith
          go (now_grouped k was le after_is) = let f = one_grouped (get_or after q Unseen) count g after_is now in omega arith

      -- what a place of the group leads to is in it or in one that is known
      from_group : (q r j : ℕ) → get_or s q Unseen ≡ Open j → i ≤ j → IsNext parts targets q r → (h : ℕ) × (get_or after r Unseen ≡ Grouped h) × (h ≤ count)
      from_group q r j was le next = go (before.pending j q r (before.stands q j was) next)
        where
          go : IsSettled s starts j r ⊎ IsComing (rest ++ v ∷ []) q r → (h : ℕ) × (get_or after r Unseen ≡ Grouped h) × (h ≤ count)
          go (inl (inl (h, known))) = (h, now_known r h known, let l = before.low r h known in omega arith)
          go (inl (inr (k, opened, low))) = (count, now_late r k opened (low i has_start le), omega arith)
          go (inr (a, k, lt, leave, enter)) = elim (split_one rest v (Leave q) a leave) [
            | inl old ↦ absurd (let (n, once, less) = still_left a q old in let f = one_open (get_or s q Unseen) n j once was in omega arith)
            | inr (n, same) ↦ absurd (let w = within_one rest v k (Enter r) enter in omega arith)
          ]

      now_falls : (q r g : ℕ) → get_or after q Unseen ≡ Grouped g → IsNext parts targets q r → (h : ℕ) × (get_or after r Unseen ≡ Grouped h) × (h ≤ g)
      now_falls q r g now next = go (how q)
        where
          go : HowItWas q → (h : ℕ) × (get_or after r Unseen ≡ Grouped h) × (h ≤ g)
          go (same_unseen was after_is) = absurd (grouped_not_unseen (get_or after q Unseen) g now after_is)
          go (same_open k was lt after_is) = absurd (open_not_grouped (get_or after q Unseen) k g after_is now)
          go (same_group h was after_is) =
              let f = one_grouped (get_or after q Unseen) h g after_is now in
              let (m, known, le) = before.falls q r h was next in
              (m, now_known r m known, omega arith)
          go (now_grouped k was le after_is) =
              let f = one_grouped (get_or after q Unseen) count g after_is now in
              let (m, known, low) = from_group q r k was le next in
              (m, known, omega arith)

      in_group : (q r j k : ℕ) → get_or s q Unseen ≡ Open j → get_or s r Unseen ≡ Open k → i ≤ j → i ≤ k → (q ≡ r) ⊎ Reaches parts q r
      in_group q r j k a b low high = elim (cases_lt j k) [
        | inl less ↦ inr (before.forward j k q r less (before.stands q j a) (before.stands r k b))
        | inr le ↦ elim (cases_eq j k) [
          | inl same ↦ inl (one_there trail k q r (subst (λ z. slice_get trail z ≡ Some q) same (before.stands q j a)) (before.stands r k b))
          | inr apart ↦ inr (before.back k j r q (omega (arith, apart)) (before.stands r k b) (before.stands q j a) (λ c has. inl (let l = start_low c has in omega arith)))
        ]
      ]

      now_one : (q r g : ℕ) → get_or after q Unseen ≡ Grouped g → get_or after r Unseen ≡ Grouped g → (q ≡ r) ⊎ Reaches parts q r
      now_one q r g a b = go (how q) (how r)
        where
          go : HowItWas q → HowItWas r → (q ≡ r) ⊎ Reaches parts q r
          go (same_unseen was now) y = absurd (grouped_not_unseen (get_or after q Unseen) g a now)
          go (same_open k was lt now) y = absurd (open_not_grouped (get_or after q Unseen) k g now a)
          go x (same_unseen was now) = absurd (grouped_not_unseen (get_or after r Unseen) g b now)
          go x (same_open k was lt now) = absurd (open_not_grouped (get_or after r Unseen) k g now b)
          go (same_group h was now) (same_group m once after_is) =
              before.one q r g (subst (λ z. get_or s q Unseen ≡ Grouped z) (one_grouped (get_or after q Unseen) h g now a) was)
              (subst (λ z. get_or s r Unseen ≡ Grouped z) (one_grouped (get_or after r Unseen) m g after_is b) once)
          go (now_grouped j was le now) (now_grouped k once more after_is) = in_group q r j k was once le more
          go (same_group h was now) (now_grouped k once more after_is) = absurd (
              let l = before.low q h was in
              let x = one_grouped (get_or after q Unseen) h g now a in
              let y = one_grouped (get_or after r Unseen) count g after_is b in
              omega arith
              )
          go (now_grouped j was le now) (same_group m once after_is) = absurd (
              let l = before.low r m once in
              let x = one_grouped (get_or after q Unseen) count g now a in
              let y = one_grouped (get_or after r Unseen) m g after_is b in
              omega arith
              )

      now_waits : (q : ℕ) → q < length parts → get_or after q Unseen ≡ Unseen → (k : ℕ) × (slice_get rest k ≡ Some (Enter q))
      now_waits q lt none = go (how q)
        where
          go : HowItWas q → (k : ℕ) × (slice_get rest k ≡ Some (Enter q))
          go (same_open k was less after_is) = absurd (open_not_unseen (get_or after q Unseen) k after_is none)
          go (same_group g was after_is) = absurd (grouped_not_unseen (get_or after q Unseen) g after_is none)
          go (now_grouped k was le after_is) = absurd (grouped_not_unseen (get_or after q Unseen) count after_is none)
          go (same_unseen was after_is) = let (k, at) = before.waits q lt was in elim (split_one rest v (Enter q) k at) [
            | inl old ↦ (k, old)
            | inr (n, same) ↦ absurd (enter_not_leave v q p same e)
          ]

      pub closed : IsGrouping parts targets after (take i trail) init (count + 1) rest
      closed = record {
        size = numbered.size ∙ before.size;
        inside = λ j w at. before.inside j w (get_left rest (v ∷ []) j w at);
        held = now_held;
        stands = now_stands;
        forward = λ j k q r lt a b. before.forward j k q r lt (from_take i trail j q a).1 (from_take i trail k r b).1;
        back = now_back;
        rising = λ k l a b lt x y. before.rising k l a b lt (init_at k a x) (init_at l b y);
        begun = now_begun;
        first = now_first;
        left = λ k r at. (let (n, was, lt) = still_left k r at in (n, now_early r n was lt));
        order = λ j k q r m n lt a b x y. (
            let (m2, was, low) = still_left j q a in
            let (n2, once, less) = still_left k r b in
            let f = one_open (get_or after q Unseen) m2 m (now_early q m2 was low) x in
            let g = one_open (get_or after r Unseen) n2 n (now_early r n2 once less) y in
            let h = before.order j k q r m2 n2 lt (get_left rest (v ∷ []) j (Leave q) a) (get_left rest (v ∷ []) k (Leave r) b) was once in
            omega arith
            );
        reach = λ j k q w lt a b. before.reach j k q w lt (get_left rest (v ∷ []) j (Leave q) a) (get_left rest (v ∷ []) k w b);
        pending = now_pending;
        low = now_low;
        falls = now_falls;
        one = now_one;
        waits = now_waits;
      }
