-- Sorting places so that each stands behind those to which it leads.
use Rattle.std.proofs.Common.{◌≡◌, ℕ, zero, suc, ◌+◌, ◌<◌, ◌≤◌, List, [], ◌∷◌, ◌++◌, refl, sym, ap, subst, arith, length, ◌∙◌, get_or, set, Some, Bool, true, false, inl, inr, ◌⊎◌, get_or-set_other, length-set, replicate}
use Rattle.std.specs.Prelude.{Contains, slice_get, if◌then◌else◌, IsTrue, ◌↔◌}
use Rattle.std.proofs.lemmas.Bool.{cases_eq}
use Rattle.std.proofs.lemmas.List.{length-replicate, length-append}
use Rattle.std.proofs.lemmas.List.Elements.{Contains-append_left, Contains-append_right}
use Rattle.std.proofs.lemmas.Option.{slice_get-get_or, slice_get_within}
use Rattle.lists.proofs.Members.{in_rest, is_first, is_later, not_in_none}
use Rattle.schema_load.specs.declared.part.Part.{Part}
use Rattle.schema_load.specs.declared.part.Part.TheVariants as Parts
use Rattle.schema_load.specs.Graph.{Reaches}
use Rattle.schema_load.specs.Parts.{IsAt}
use Rattle.schema_load.specs.Steps.{AreInside, AreTargets, HasAll, IsNext, IsReady, Keeps, nexts, undone}
use Rattle.schema_load.proofs.Firsts.{carried}
use Rattle.schema_load.proofs.Leads.{step_of}
use Rattle.schema_load.proofs.Loadable.{append_cases, index_of}
use Rattle.schema_load.proofs.One.{one_at}
use Rattle.schema_load.proofs.Stuck.{Steps, stuck}

-- what is left to do: places, and one more round if the last one moved
abbrev pub work : List Bool → Bool → ℕ
work done moved = undone done + (if moved then 1 else 0)

-- ---- flags

pub undone_set : (done : List Bool) (p : ℕ) → p < length done → get_or done p false ≡ false → undone (set done p true) + 1 ≡ undone done
undone_set [] p lt not = absurd (omega arith)
undone_set (false ∷ bs) zero lt not = omega arith
undone_set (true ∷ bs) zero lt not = absurd (let bad : ⊥ = cc in bad)
undone_set (false ∷ bs) (suc p) lt not = let h = undone_set bs p (omega arith) not in omega arith
undone_set (true ∷ bs) (suc p) lt not = undone_set bs p (omega arith) not

pub all_done : (done : List Bool) → undone done ≡ 0 → (p : ℕ) → p < length done → get_or done p false ≡ true
all_done [] none p lt = absurd (omega arith)
all_done (false ∷ bs) none p lt = absurd (omega arith)
all_done (true ∷ bs) none zero lt = refl
all_done (true ∷ bs) none (suc p) lt = all_done bs none p (omega arith)

pub one_left : (done : List Bool) → 0 < undone done → (p : ℕ) × (p < length done) × (get_or done p false ≡ false)
one_left [] some = absurd (omega arith)
one_left (false ∷ bs) some = (0, omega arith, refl)
one_left (true ∷ bs) some = let (p, lt, not) = one_left bs some in (suc p, omega arith, not)

pub none_done : (n p : ℕ) → ¬ (get_or (replicate n false) p false ≡ true)
none_done zero zero e = absurd (let bad : ⊥ = cc in bad)
none_done zero (suc p) e = absurd (let bad : ⊥ = cc in bad)
none_done (suc n) zero e = absurd (let bad : ⊥ = cc in bad)
none_done (suc n) (suc p) e = none_done n p e

pub undone_all : (n : ℕ) → undone (replicate n false) ≡ n
undone_all zero = refl
undone_all (suc n) = let h = undone_all n in omega arith

-- all of the places are done, or one is not
all_or_one : (done : List Bool) (ps : List ℕ) → ((q : ℕ) → Contains ps q → get_or done q false ≡ true) ⊎ ((q : ℕ) × Contains ps q × (get_or done q false ≡ false))
all_or_one done [] = inl (λ q c. absurd (not_in_none q c))
all_or_one done (p ∷ ps) = go (get_or done p false) refl (all_or_one done ps)
  where
    go : (b : Bool) → get_or done p false ≡ b → ((q : ℕ) → Contains ps q → get_or done q false ≡ true) ⊎ ((q : ℕ) × Contains ps q × (get_or done q false ≡ false)) →
        ((q : ℕ) → Contains (p ∷ ps) q → get_or done q false ≡ true) ⊎ ((q : ℕ) × Contains (p ∷ ps) q × (get_or done q false ≡ false))
    go false e rest = inr (p, is_first p ps, e)
    go true e (inr (q, c, not)) = inr (q, is_later p ps q c, not)
    go true e (inl all) = inl (λ q c. elim (in_rest p ps q c) [
      | inl same ↦ subst (λ z. get_or done z false ≡ true) same e
      | inr later ↦ all q later
    ])

-- ---- orders

pub slice_get_left : (xs ys : List ℕ) (i x : ℕ) → slice_get xs i ≡ Some x → slice_get (xs ++ ys) i ≡ Some x
slice_get_left [] ys i x e = absurd (let bad : ⊥ = cc in bad)
slice_get_left (y ∷ xs) ys zero x e = e
slice_get_left (y ∷ xs) ys (suc i) x e = slice_get_left xs ys i x e

module _ (parts : List Part) (targets : List ℕ) where
  -- what is next to a part at its place
  pub next_at : (p q : ℕ) (x : Part) → IsAt parts p x → IsNext parts targets p q → Contains (nexts (get_or targets p 0) x) q
  next_at p q x at (y, here, c) = subst (λ z. Contains (nexts (get_or targets p 0) z) q) (one_at parts p y x here at) c

  pub ready : (done : List Bool) (p : ℕ) (x : Part) (b : Bool) → IsAt parts p x → get_or done p false ≡ false →
      IsTrue b ↔ ((q : ℕ) → Contains (nexts (get_or targets p 0) x) q → get_or done q false ≡ true) → IsTrue b ↔ IsReady parts targets done p
  ready done p x b at not answer = carried b answer (λ all. (not, λ q next. all q (next_at p q x at next))) (λ (n, all) q c. all q (x, at, c))

  -- a place that is ready goes behind
  pub kept_more : (done : List Bool) (order : List ℕ) (p : ℕ) → p < length parts → Keeps parts targets done order → IsReady parts targets done p →
      Keeps parts targets (set done p true) (order ++ p ∷ [])
  kept_more done order p lt kept (not, all) = record {
    size = length-set done p true ∙ kept.size;
    sorted = record { within = within; behind = behind };
    placed = placed;
    count = (let u = undone_set done p inside not in let c = kept.count in let l = length-append order (p ∷ []) in omega arith);
  }
    where
      inside : p < length done
      inside = let s = kept.size in omega arith

      last : (i j r : ℕ) → i ≡ length order + j → slice_get (p ∷ []) j ≡ Some r → (i ≡ length order) × (p ≡ r)
      last i zero r e at = (omega arith, let same : p ≡ r = cc in same)
      last i (suc j) r e at = absurd (let w = slice_get_within (p ∷ []) (suc j) r at in omega arith)

      within : (i r : ℕ) → slice_get (order ++ p ∷ []) i ≡ Some r → r < length parts
      within i r at = elim (append_cases order (p ∷ []) i r at) [
        | inl (less, here) ↦ kept.sorted.within i r here
        | inr (j, e, here) ↦ (let (k, same) = last i j r e here in omega arith)
      ]

      early : (j q : ℕ) → slice_get order j ≡ Some q → slice_get (order ++ p ∷ []) j ≡ Some q
      early j q at = slice_get_left order (p ∷ []) j q at

      behind : (i r q : ℕ) → slice_get (order ++ p ∷ []) i ≡ Some r → IsNext parts targets r q → (j : ℕ) × (j < i) × (slice_get (order ++ p ∷ []) j ≡ Some q)
      behind i r q at next = elim (append_cases order (p ∷ []) i r at) [
        | inl (less, here) ↦ (let (j, lower, there) = kept.sorted.behind i r q here next in (j, lower, early j q there))
        | inr (j, e, here) ↦ (
            let (k, same) = last i j r e here in
            let (m, there) = index_of order q (kept.placed q (all q (subst (λ z. IsNext parts targets z q) (sym same) next))) in
            (m, let w = slice_get_within order m q there in omega arith, early m q there)
            )
      ]

      placed : (r : ℕ) → get_or (set done p true) r false ≡ true → Contains (order ++ p ∷ []) r
      placed r is = elim (cases_eq r p) [
        | inl same ↦ subst (λ z. Contains (order ++ p ∷ []) z) (sym same) (Contains-append_right order (p ∷ []) p (is_first p []))
        | inr apart ↦ Contains-append_left order (p ∷ []) r (kept.placed r (sym (get_or-set_other done p r true false apart) ∙ is))
      ]

  pub kept_none : Keeps parts targets (replicate (length parts) false) []
  kept_none = record {
    size = length-replicate (length parts) false;
    sorted = record { within = λ i r at. absurd (let bad : ⊥ = cc in bad); behind = λ i r q at next. absurd (let bad : ⊥ = cc in bad) };
    placed = λ p is. absurd (none_done (length parts) p is);
    count = (let h = undone_all (length parts) in omega arith);
  }

  pub sorted_all : (done : List Bool) (order : List ℕ) → Keeps parts targets done order → length order ≡ length parts → HasAll parts order
  sorted_all done order kept long p lt = kept.placed p (all_done done (let c = kept.count in omega arith) p (let s = kept.size in omega arith))

  abbrev pub IsLeft : List Bool → ℕ → Type 0
  IsLeft done r = (r < length parts) × (get_or done r false ≡ false)

  left_next : (done : List Bool) → AreTargets parts targets → AreInside parts targets → ((p : ℕ) → p < length parts → ¬ IsReady parts targets done p) →
      (r : ℕ) → IsLeft done r → (q : ℕ) × Steps parts r q × IsLeft done q
  left_next done are inside none r (lt, not) = go (all_or_one done (nexts (get_or targets r 0) (get_or parts r Parts.Start)))
    where
      at : IsAt parts r (get_or parts r Parts.Start)
      at = slice_get-get_or parts r Parts.Start lt

      go : ((q : ℕ) → Contains (nexts (get_or targets r 0) (get_or parts r Parts.Start)) q → get_or done q false ≡ true) ⊎
          ((q : ℕ) × Contains (nexts (get_or targets r 0) (get_or parts r Parts.Start)) q × (get_or done q false ≡ false)) → (q : ℕ) × Steps parts r q × IsLeft done q
      go (inl all) = absurd (none r lt (not, λ q n. all q (next_at r q (get_or parts r Parts.Start) at n)))
      go (inr (q, c, free)) = (q, step_of parts targets are r q (get_or parts r Parts.Start, at, c), (inside r q (get_or parts r Parts.Start, at, c), free))

  -- where none of the places that are left is ready some place leads to itself
  pub circle_left : (done : List Bool) (order : List ℕ) → AreTargets parts targets → AreInside parts targets → Keeps parts targets done order →
      ((p : ℕ) → p < length parts → ¬ IsReady parts targets done p) →
      ¬ (length order ≡ length parts) → (q : ℕ) × Reaches parts q q
  circle_left done order are inside kept none short =
      let (p, lt, not) = one_left done (let c = kept.count in omega (arith, short)) in
      stuck parts (length parts) (IsLeft done) (λ r u. u.0) (left_next done are inside none) p (let s = kept.size in omega arith, not)

  -- one more place of a round
  abbrev pub AreStill : List Bool → ℕ → Type 0
  AreStill done behind = (p : ℕ) → p < length parts → length parts ≤ p + behind → IsReady parts targets done p → ⊥

  still_more : (done after : List Bool) (behind p : ℕ) → p + (behind + 1) ≡ length parts → after ≡ done → ¬ IsReady parts targets after p → AreStill done behind → AreStill after (behind + 1)
  still_more done after behind p place same here before q lt le is = elim (cases_eq q p) [
    | inl one ↦ here (subst (IsReady parts targets after) one is)
    | inr apart ↦ before q lt (omega (arith, apart)) (subst (λ z. IsReady parts targets z q) same is)
  ]

  pub round_more : (start : ℕ) (done after : List Bool) (behind p : ℕ) (was now moved : Bool) → p + (behind + 1) ≡ length parts → undone done ≤ start →
      (was ≡ true → undone done < start) → (was ≡ false → AreStill done behind) →
      (now ≡ true → undone after < undone done) → (now ≡ false → (after ≡ done) × (IsReady parts targets after p → ⊥)) → ((now ≡ true) × (moved ≡ true)) ⊎ ((now ≡ false) × (moved ≡ was)) →
      (undone after ≤ start) × (moved ≡ true → undone after < start) × (moved ≡ false → AreStill after (behind + 1))
  round_more start done after behind p was now moved place le some still less same (inl (is, set)) =
      (let h = less is in omega arith, λ m. (let h = less is in omega arith), λ m. absurd (let bad : ⊥ = cc in bad))
  round_more start done after behind p was now moved place le some still less same (inr (is, set)) =
      let (one, here) = same is in
      let equal : undone after ≡ undone done = ap undone one in
      (omega arith, λ m. (let h = some (sym set ∙ m) in omega arith), λ m. still_more done after behind p place one here (still (sym set ∙ m)))
