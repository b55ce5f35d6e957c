-- A search from the goal on ranks each Shape from which edges lead to it.
use Rattle.std.proofs.Common.{◌≡◌, ◌∙◌, ℕ, zero, suc, ◌+◌, ◌<◌, ◌≤◌, ◌⊎◌, ◌++◌, inl, inr, List, [], ◌∷◌, refl, arith, sym, ap, subst, length, get_or, set, get_or-set_same, get_or-set_other}
use Rattle.std.proofs.lemmas.Bool.{cases_lt, cases_eq}
use Rattle.std.proofs.lemmas.List.{get_or_default, length-append}
use Rattle.std.proofs.lemmas.List.Elements.{All-contains, All-contains_itself}
use Rattle.std.proofs.lemmas.Option.{slice_get_within}
use Rattle.std.specs.Prelude.{All, Contains, None, Some, slice_get}
use Rattle.schema_tree.specs.declared.schema.Schema.{Schema}
use Rattle.schema_tree.specs.declared.schema.ShapeId.{ShapeId}
use Rattle.schema_tree.specs.Edges.{level}
use Rattle.schema_tree.proofs.Below.{past_end}
use Rattle.strata.specs.declared.edges.Arc.{Arc}
use Rattle.strata.specs.Arcs.{AreArcs, AreByEnd, AreFound, AreRanked, AreRanks, HaveRisen, IsAmong}
use Rattle.strata.proofs.Ranks.{IsFresh, ranked_all, ranked_more}

-- ---- a list with one item more

at_end : (xs : List ShapeId) (x : ShapeId) → slice_get (xs ++ x ∷ []) (length xs) ≡ Some x
at_end [] x = refl
at_end (y ∷ ys) x = at_end ys x

stays : (xs : List ShapeId) (x : ShapeId) (k : ℕ) (y : ShapeId) → slice_get xs k ≡ Some y → slice_get (xs ++ x ∷ []) k ≡ Some y
stays [] x k y e = absurd (let f : None ≡ Some y = e in cc)
stays (z ∷ zs) x zero y e = e
stays (z ∷ zs) x (suc k) y e = stays zs x k y e

pushed : (xs : List ShapeId) (x : ShapeId) (k : ℕ) (y : ShapeId) → slice_get (xs ++ x ∷ []) k ≡ Some y → (slice_get xs k ≡ Some y) ⊎ ((k ≡ length xs) × (x ≡ y))
pushed [] x zero y e = inr (refl, (let f : Some x ≡ Some y = e in cc))
pushed [] x (suc k) y e = absurd (let f : None ≡ Some y = e in cc)
pushed (z ∷ zs) x zero y e = inl e
pushed (z ∷ zs) x (suc k) y e = elim (pushed zs x k y e) [
  | inl l ↦ inl l
  | inr r ↦ inr (ap suc r.0, r.1)
]

same_shape : (i j : ShapeId) → i.0 ≡ j.0 → i ≡ j
same_shape i j e = ap (λ n. let u : ShapeId = record { 0 = n } in u) e

-- ---- ranks that rise

-- a Shape with a rank still has one
pub kept : (n : ℕ) (old new : List ℕ) → HaveRisen n old new → (i : ShapeId) → 0 < level old i → 0 < level new i
kept n old new risen i has = elim (risen i) [
  | inl same ↦ omega (arith, same, has)
  | inr t ↦ (let z = t.0 in absurd (omega (arith, z, has)))
]

-- ranks that have risen twice have risen
pub risen_on : (n m : ℕ) (first then next : List ℕ) → n ≤ m → HaveRisen n first then → HaveRisen m then next → HaveRisen n first next
risen_on n m first then next le old new i = elim (new i) [
  | inl same ↦ elim (old i) [
    | inl was ↦ inl (same ∙ was)
    | inr t ↦ (let z = t.0 in let up = t.1 in inr (z, omega (arith, same, up)))
  ]
  | inr t ↦ (let z = t.0 in let up = t.1 in elim (old i) [
    | inl was ↦ inr (sym was ∙ z, omega (arith, le, up))
    | inr u ↦ (let more = u.1 in absurd (omega (arith, z, more)))
  ])
]

-- one arc more leads from a Shape with a rank
pub has_next : (leading : List Arc) (n k : ℕ) (d : Arc) (old new : List ℕ) → HaveRisen k old new → n < length leading → ((j : ℕ) (e : Arc) → j < n → 0 < level old (get_or leading j e).from) →
    0 < level new (get_or leading n d).from → (j : ℕ) (e : Arc) → j < n + 1 → 0 < level new (get_or leading j e).from
has_next leading n k d old new risen inside before now j e lt = elim (cases_lt j n) [
  | inl less ↦ kept k old new risen (get_or leading j e).from (before j e less)
  | inr ge ↦ (let same : n ≡ j = omega (arith, ge, lt) in
      subst (λ m. 0 < level new (get_or leading m e).from) same (subst (λ a. 0 < level new a.from) (get_or_default leading n d e inside) now))
]

module _ (s : Schema) (arcs : List Arc) (goal : ShapeId) where
  -- ---- the Shape from which an arc leads

  module _ (r : List ℕ) (found : List ShapeId) (h : AreFound s arcs goal r found) (a : Arc) (none : level r a.from ≡ 0) (there : a.from.0 < length s.shapes) where
    inside : a.from.0 < length r
    inside = let size = h.ranked.size in omega (arith, size, there)

    here : get_or (set r a.from.0 (length found + 1)) a.from.0 0 ≡ length found + 1
    here = get_or-set_same r a.from.0 (length found + 1) 0 inside

    other : (i : ShapeId) → ¬ (a.from.0 ≡ i.0) → level (set r a.from.0 (length found + 1)) i ≡ level r i
    other i apart = get_or-set_other r a.from.0 i.0 (length found + 1) 0 (λ q. apart (sym q))

    listed_to : (i : ShapeId) (k : ℕ) → level (set r a.from.0 (length found + 1)) i ≡ suc k → slice_get (found ++ a.from ∷ []) k ≡ Some i
    listed_to i k e = elim (cases_eq a.from.0 i.0) [
      | inl same ↦ (let at : level (set r a.from.0 (length found + 1)) i ≡ length found + 1 = subst (λ n. get_or (set r a.from.0 (length found + 1)) n 0 ≡ length found + 1) same here in
          let last : length found ≡ k = omega (arith, at, e) in
          subst (λ z. slice_get (found ++ a.from ∷ []) k ≡ Some z) (same_shape a.from i same) (subst (λ n. slice_get (found ++ a.from ∷ []) n ≡ Some a.from) last (at_end found a.from)))
      | inr apart ↦ stays found a.from k i ((h.listed i k).0 (sym (other i apart) ∙ e))
    ]

    listed_from : (i : ShapeId) (k : ℕ) → slice_get (found ++ a.from ∷ []) k ≡ Some i → level (set r a.from.0 (length found + 1)) i ≡ suc k
    listed_from i k e = elim (pushed found a.from k i e) [
      | inl old ↦ (let was = (h.listed i k).1 old in elim (cases_eq a.from.0 i.0) [
        | inl same ↦ (let z : level r i ≡ 0 = subst (λ n. get_or r n 0 ≡ 0) same none in absurd (omega (arith, was, z)))
        | inr apart ↦ other i apart ∙ was
      ])
      | inr t ↦ (let last = t.0 in subst (λ z. level (set r a.from.0 (length found + 1)) z ≡ suc k) t.1 (omega (arith, here, last)))
    ]

    -- it gets the next rank
    pub found_more : Contains arcs a → 0 < level r a.to → AreFound s arcs goal (set r a.from.0 (length found + 1)) (found ++ a.from ∷ [])
    found_more held some = record {
      ranked = subst (λ n. AreRanked s arcs goal (set r a.from.0 (length found + 1)) (n + 1)) (sym (length-append found (a.from ∷ [])))
          (ranked_more s arcs goal r (length found + 1) h.ranked a held (none, some) there);
      listed = λ i k. (listed_to i k, listed_from i k);
    }

    pub has_more : 0 < level (set r a.from.0 (length found + 1)) a.from
    has_more = omega (arith, here)

  -- ---- the arcs to one Shape after another

  -- the arcs to the Shapes of the first ranks lead from Shapes with a rank
  abbrev pub AreDone : ℕ → List ℕ → Type 0
  AreDone done r = (a : Arc) → Contains arcs a → 0 < level r a.to → level r a.to ≤ done → 0 < level r a.from

  module _ (r : List ℕ) (found : List ShapeId) (h : AreFound s arcs goal r found) (done : ℕ) where
    -- a Shape that was found is one of the schema
    pub found_there : (at : ShapeId) → slice_get found done ≡ Some at → at.0 < length s.shapes
    found_there at is = elim (cases_lt at.0 (length s.shapes)) [
      | inl lt ↦ lt
      | inr ge ↦ (let size = h.ranked.size in let z = past_end r at.0 (omega (arith, size, ge)) in let has = (h.listed at done).1 is in absurd (omega (arith, z, has)))
    ]

    module _ (lists : List (List Arc)) (by_end : AreByEnd arcs lists) (at : ShapeId) (is : slice_get found done ≡ Some at) (leading : List Arc) (are : slice_get lists at.0 ≡ Some leading) where
      -- the arcs to it are arcs of the schema, to a Shape with a rank
      pub lead_there : All (λ a. Contains arcs a × (0 < level r a.to)) leading
      lead_there k d lt =
          let a = get_or leading k d in
          let t = (by_end at.0 a).0 (subst (λ o. IsAmong o a) (sym are) (All-contains_itself leading k d lt)) in
          let has = (h.listed at done).1 is in
          (t.0, subst (λ n. 0 < get_or r n 0) (sym t.1) (omega (arith, has)))

      -- once each of them leads from a Shape with a rank, one Shape more is done
      pub done_more : (new : List ℕ) → HaveRisen (length found) r new → All (λ a. 0 < level new a.from) leading → AreDone done r → AreDone (done + 1) new
      done_more new risen all before a held has le = elim (risen a.to) [
        | inr t ↦ (let up = t.1 in let below = slice_get_within found done at is in absurd (omega (arith, up, below, le)))
        | inl same ↦ elim (cases_lt (level r a.to) (done + 1)) [
          | inl lt ↦ kept (length found) r new risen a.from (before a held (omega (arith, same, has)) (omega (arith, lt)))
          | inr ge ↦ (let e : level r a.to ≡ suc done = omega (arith, ge, same, le) in
              let two : Some at ≡ Some a.to = sym is ∙ (h.listed a.to done).0 e in
              let one : at ≡ a.to = cc in
              let among : Contains leading a = subst (λ o. IsAmong o a) are ((by_end at.0 a).1 (held, ap (λ z. z.0) (sym one))) in
              All-contains (λ b. 0 < level new b.from) leading a all among)
        ]
      ]

    -- the search ends when all that were found are done
    pub all_done : AreArcs s arcs → length found ≤ done → AreDone done r → AreRanks s arcs goal r
    all_done arcs_are le all = ranked_all s arcs goal arcs_are r (length found + 1) h.ranked none_fresh
      where
        not_fresh : (a : Arc) → Contains arcs a → ¬ IsFresh r a
        not_fresh a held fresh =
            let none = fresh.0 in let some = fresh.1 in let below = h.ranked.below a.to.0 in
            let has = all a held some (omega (arith, below, le)) in
            absurd (omega (arith, none, has))

        none_fresh : All (λ a. ¬ IsFresh r a) arcs
        none_fresh k d lt = not_fresh (get_or arcs k d) (All-contains_itself arcs k d lt)
