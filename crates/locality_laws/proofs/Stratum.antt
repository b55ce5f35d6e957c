-- Two refinements of a stratum say the same of the pairs of both.
use Rattle.std.proofs.Common.{◌≡◌, ℕ, zero, suc, ◌<◌, ◌≤◌, ◌⊎◌, inl, inr, List, ◌++◌, arith, take}
use Rattle.std.proofs.lemmas.List.Elements.{Contains-append_cases, Contains-append_left, Contains-append_right}
use Rattle.std.specs.Prelude.{Contains, Some, slice_get}
use Rattle.lists.proofs.Decided.{Decided, decide_member}
use Rattle.lists.proofs.Members.{got_in, place_of}
use Rattle.rdf_terms.specs.declared.terms.Term.{Term}
use Rattle.rdf_terms.specs.declared.terms.Triple.{Triple}
use Rattle.schema_tree.specs.declared.schema.Pair.{Pair}
use Rattle.schema_tree.specs.declared.schema.Schema.{Schema}
use Rattle.schema_tree.specs.declared.verdicts.Lean.TheVariants.{Impossible, Possible}
use Rattle.schema_tree.specs.declared.verdicts.Verdict.TheVariants.{No, Unknown, Yes}
use Rattle.schema_tree.specs.Edges.{level}
use Rattle.schema_tree.specs.Needs.{Needs}
use Rattle.schema_tree.specs.Places.{PairCanMatch}
use Rattle.schema_tree.specs.Removal.{IsConfirmed, IsRefinedAt}
use Rattle.schema_tree.specs.Sure.{Known, PairIs}
use Rattle.schema_tree.proofs.Decide.{same_pairs}
use Rattle.schema_tree.proofs.RefinementExists.{Sifted, sift}
use Rattle.removal_laws.proofs.Carried.{match_up}
use Rattle.locality_laws.specs.Local.{IsNegativeNeed}
use Rattle.locality_laws.proofs.Alike.{SameOn, by_members, in_neither, no_other, not_among, raised}
use Rattle.locality_laws.proofs.Falling.{match_falls}
use Rattle.locality_laws.proofs.Refined.{gone_narrow, in_take, kept_narrow, kept_stays}

-- the pairs X are refined over lx, and the pairs Y over ly, on the stratum k. Of the pairs that a pair of both needs, those
-- of lower strata are known alike; those of the stratum are pairs of both that are not known yet, or they are none of X,
-- and lx says of them what the refinement of Y comes to
module _ (s : Schema) (terms : List Term) (g : List Triple) (f : List ℕ) (budget k : ℕ) (X Y : List Pair) (lx ly : Known)
    (gone_x kept_x gone_y kept_y : List Pair) where
  abbrev pub IsLow : Pair → Type 0
  IsLow q = (level f q.shape < k) × SameOn lx ly q

  abbrev pub IsOfBoth : Pair → Type 0
  IsOfBoth q = Contains X q × Contains Y q × (k ≤ level f q.shape)

  abbrev pub IsKnownBefore : Pair → Type 0
  IsKnownBefore q = (¬ Contains X q) × (level f q.shape ≡ k) × SameOn lx (raised ly kept_y gone_y) q

  module _ (rx : IsRefinedAt s terms g f X budget lx k gone_x kept_x) (ry : IsRefinedAt s terms g f Y budget ly k gone_y kept_y)
      (new_x : (q : Pair) → Contains X q → k ≤ level f q.shape → PairIs lx q Unknown) (new_y : (q : Pair) → k ≤ level f q.shape → PairIs ly q Unknown)
      (kind : (p q : Pair) → Contains X p → Contains Y p → level f p.shape ≡ k → Needs s g p q → IsLow q ⊎ (IsOfBoth q ⊎ IsKnownBefore q))
      (firm : (p q : Pair) → Contains X p → Contains Y p → level f p.shape ≡ k → (n : Needs s g p q) → IsNegativeNeed n → IsLow q ⊎ IsOfBoth q) where
    low_gone_x : (q : Pair) → level f q.shape < k → ¬ Contains gone_x q
    low_gone_x q lt c = let n = (gone_narrow s terms g f budget X lx k gone_x kept_x rx q c).1 in omega (arith, lt, n)

    low_gone_y : (q : Pair) → level f q.shape < k → ¬ Contains gone_y q
    low_gone_y q lt c = let n = (gone_narrow s terms g f budget Y ly k gone_y kept_y ry q c).1 in omega (arith, lt, n)

    low_kept_x : (q : Pair) → level f q.shape < k → ¬ Contains kept_x q
    low_kept_x q lt c = let n = (kept_narrow s terms g f budget X lx k gone_x kept_x rx q c).1 in omega (arith, lt, n)

    low_kept_y : (q : Pair) → level f q.shape < k → ¬ Contains kept_y q
    low_kept_y q lt c = let n = (kept_narrow s terms g f budget Y ly k gone_y kept_y ry q c).1 in omega (arith, lt, n)

    of_gone_x : (q : Pair) → Contains gone_x q → Contains X q
    of_gone_x q c = (gone_narrow s terms g f budget X lx k gone_x kept_x rx q c).0

    of_kept_x : (q : Pair) → Contains kept_x q → Contains X q
    of_kept_x q c = (kept_narrow s terms g f budget X lx k gone_x kept_x rx q c).0

    apart_x : (q : Pair) → Contains kept_x q → ¬ Contains gone_x q
    apart_x q c = kept_stays s terms g f budget X lx k gone_x kept_x rx q c

    apart_y : (q : Pair) → Contains kept_y q → ¬ Contains gone_y q
    apart_y q c = kept_stays s terms g f budget Y ly k gone_y kept_y ry q c

    same_level : (q : Pair) → level f q.shape ≡ k → k ≤ level f q.shape
    same_level q e = omega (arith, e)

    taken : (xs : List Pair) (i : ℕ) (q : Pair) → Contains (take i xs) q → Contains xs q
    taken xs i q c = let (j, l, at) = in_take xs i q c in got_in xs j q at

    -- ---- what went from X went from Y

    module _ (i : ℕ) (p : Pair) (xp : Contains X p) (yp : Contains Y p) (lev : level f p.shape ≡ k)
        (earlier : (j : ℕ) → j < i → (q : Pair) → slice_get gone_x j ≡ Some q → Contains Y q → Contains gone_y q) where
      abbrev before_x : Known
      before_x = record { yes = lx.yes; no = lx.no ++ take i gone_x }

      abbrev after_y : Known
      after_y = record { yes = ly.yes; no = ly.no ++ gone_y }

      up_to_y : (q : Pair) (n : Needs s g p q) → IsNegativeNeed n → PairIs before_x q Yes → PairIs after_y q Yes
      up_to_y q n negative h = elim (firm p q xp yp lev n negative) [
        | inl low ↦ (low.1 Yes).0 h
        | inr (xq, yq, ge) ↦ absurd ((new_x q xq ge).0 h)
      ]

      down_to_y : (q : Pair) → Needs s g p q → PairIs before_x q No → PairIs after_y q No
      down_to_y q n (not_yes, held) = elim (kind p q xp yp lev n) [
        | inl (lt, same) ↦ (let d = (same No).0 (not_yes, not_among lx.no (take i gone_x) q (λ c. low_gone_x q lt (taken gone_x i q c)) held) in
            (d.0, Contains-append_left ly.no gone_y q d.1))
        | inr (inl (xq, yq, ge)) ↦ (
          (new_y q ge).0,
          (let (j, l, at) = in_take gone_x i q (no_other lx.no (take i gone_x) q (new_x q xq ge).1 held) in Contains-append_right ly.no gone_y q (earlier j l q at yq)),
        )
        | inr (inr (none, eq, same)) ↦ (let d = (same No).0 (not_yes, not_among lx.no (take i gone_x) q (λ c. none (of_gone_x q (taken gone_x i q c))) held) in
            ((λ c. d.0 (Contains-append_left ly.yes kept_y q c)), d.1))
      ]

      falls_to_y : ¬ PairCanMatch s terms g before_x Possible p → ¬ PairCanMatch s terms g after_y Possible p
      falls_to_y never m = never (match_falls s terms g before_x after_y p up_to_y down_to_y m)

    went_to_y : (n i : ℕ) → i < n → (p : Pair) → slice_get gone_x i ≡ Some p → Contains Y p → Contains gone_y p
    went_to_y zero i lt p at yp = absurd (omega (arith, lt))
    went_to_y (suc n) i lt p at yp = go (decide_member same_pairs gone_y p) (λ j l q there d. went_to_y n j (omega (arith, l, lt)) q there d)
      where
        go : Decided (Contains gone_y p) → ((j : ℕ) → j < i → (q : Pair) → slice_get gone_x j ≡ Some q → Contains Y q → Contains gone_y q) → Contains gone_y p
        go (inl held) earlier = held
        go (inr none) earlier =
            let turn = (rx.in_turn i p at).0 in
            absurd (ry.finished p ((yp, turn.0.1, turn.0.2), none, falls_to_y i p turn.0.0 yp turn.0.1 earlier turn.2))

    pub gone_to_y : (p : Pair) → Contains gone_x p → Contains Y p → Contains gone_y p
    gone_to_y p c yp = let (i, at) = place_of gone_x p c in went_to_y (suc i) i (omega arith) p at yp

    -- ---- what went from Y went from X

    module _ (i : ℕ) (p : Pair) (xp : Contains X p) (yp : Contains Y p) (lev : level f p.shape ≡ k)
        (earlier : (j : ℕ) → j < i → (q : Pair) → slice_get gone_y j ≡ Some q → Contains X q → Contains gone_x q) where
      abbrev before_y : Known
      before_y = record { yes = ly.yes; no = ly.no ++ take i gone_y }

      abbrev after_x : Known
      after_x = record { yes = lx.yes; no = lx.no ++ gone_x }

      up_to_x : (q : Pair) (n : Needs s g p q) → IsNegativeNeed n → PairIs before_y q Yes → PairIs after_x q Yes
      up_to_x q n negative h = elim (firm p q xp yp lev n negative) [
        | inl low ↦ (low.1 Yes).1 h
        | inr (xq, yq, ge) ↦ absurd ((new_y q ge).0 h)
      ]

      down_to_x : (q : Pair) → Needs s g p q → PairIs before_y q No → PairIs after_x q No
      down_to_x q n (not_yes, held) = elim (kind p q xp yp lev n) [
        | inl (lt, same) ↦ (let d = (same No).1 (not_yes, not_among ly.no (take i gone_y) q (λ c. low_gone_y q lt (taken gone_y i q c)) held) in
            (d.0, Contains-append_left lx.no gone_x q d.1))
        | inr (inl (xq, yq, ge)) ↦ (
          (new_x q xq ge).0,
          (let (j, l, at) = in_take gone_y i q (no_other ly.no (take i gone_y) q (new_y q ge).1 held) in Contains-append_right lx.no gone_x q (earlier j l q at xq)),
        )
        | inr (inr (none, eq, same)) ↦
            (let w = taken gone_y i q (no_other ly.no (take i gone_y) q (new_y q (same_level q eq)).1 held) in
            let d = (same No).1 (in_neither ly.yes kept_y q not_yes (λ c. apart_y q c w), Contains-append_right ly.no gone_y q w) in
            (d.0, Contains-append_left lx.no gone_x q d.1))
      ]

      falls_to_x : ¬ PairCanMatch s terms g before_y Possible p → ¬ PairCanMatch s terms g after_x Possible p
      falls_to_x never m = never (match_falls s terms g before_y after_x p up_to_x down_to_x m)

    went_to_x : (n i : ℕ) → i < n → (p : Pair) → slice_get gone_y i ≡ Some p → Contains X p → Contains gone_x p
    went_to_x zero i lt p at xp = absurd (omega (arith, lt))
    went_to_x (suc n) i lt p at xp = go (decide_member same_pairs gone_x p) (λ j l q there d. went_to_x n j (omega (arith, l, lt)) q there d)
      where
        go : Decided (Contains gone_x p) → ((j : ℕ) → j < i → (q : Pair) → slice_get gone_y j ≡ Some q → Contains X q → Contains gone_x q) → Contains gone_x p
        go (inl held) earlier = held
        go (inr none) earlier =
            let turn = (ry.in_turn i p at).0 in
            absurd (rx.finished p ((xp, turn.0.1, turn.0.2), none, falls_to_x i p xp turn.0.0 turn.0.1 earlier turn.2))

    pub gone_to_x : (p : Pair) → Contains gone_y p → Contains X p → Contains gone_x p
    gone_to_x p c xp = let (i, at) = place_of gone_y p c in went_to_x (suc i) i (omega arith) p at xp

    -- ---- what is kept of Y is kept of X

    module _ (more : Sifted (λ q. Contains X q) kept_y) where
      abbrev view_y : Known
      view_y = raised ly kept_y gone_y

      abbrev more_x : Known
      more_x = raised lx more.items gone_x

      module _ (p : Pair) (xp : Contains X p) (yp : Contains Y p) (lev : level f p.shape ≡ k) where
        yes_to_x : (q : Pair) → Needs s g p q → PairIs view_y q Yes → PairIs more_x q Yes
        yes_to_x q n h = elim (kind p q xp yp lev n) [
          | inl (lt, same) ↦ Contains-append_left lx.yes more.items q ((same Yes).1 (not_among ly.yes kept_y q (low_kept_y q lt) h))
          | inr (inl (xq, yq, ge)) ↦ Contains-append_right lx.yes more.items q (more.whole q (no_other ly.yes kept_y q (new_y q ge).0 h) xq)
          | inr (inr (none, eq, same)) ↦ Contains-append_left lx.yes more.items q ((same Yes).1 h)
        ]

        no_to_x : (q : Pair) → Needs s g p q → PairIs view_y q No → PairIs more_x q No
        no_to_x q n (not_yes, held) = elim (kind p q xp yp lev n) [
          | inl (lt, same) ↦
              (let d = (same No).1 ((λ c. not_yes (Contains-append_left ly.yes kept_y q c)), not_among ly.no gone_y q (low_gone_y q lt) held) in
              (in_neither lx.yes more.items q d.0 not_more, Contains-append_left lx.no gone_x q d.1))
          | inr (inl (xq, yq, ge)) ↦
              (in_neither lx.yes more.items q (new_x q xq ge).0 not_more, Contains-append_right lx.no gone_x q (gone_to_x q (no_other ly.no gone_y q (new_y q ge).1 held) xq))
          | inr (inr (none, eq, same)) ↦ (let d = (same No).1 (not_yes, held) in (in_neither lx.yes more.items q d.0 not_more, Contains-append_left lx.no gone_x q d.1))
        ]
          where
            not_more : ¬ Contains more.items q
            not_more c = not_yes (Contains-append_right ly.yes kept_y q (more.only q c).0)

        match_in_x : PairCanMatch s terms g view_y Impossible p → PairCanMatch s terms g more_x Impossible p
        match_in_x m = match_up s terms g view_y more_x p yes_to_x no_to_x m

      confirmed_x : IsConfirmed s terms g f X budget lx k gone_x more.items
      confirmed_x p c =
          let (held, xp) = more.only p c in
          let t = ry.confirmed p held in
          ((xp, t.0.1, t.0.2), (λ w. t.1 (gone_to_y p w t.0.0)), match_in_x p xp t.0.0 t.0.1 t.2)

    pub kept_to_x : (p : Pair) → Contains kept_y p → Contains X p → Contains kept_x p
    kept_to_x p c xp = let more = sift (λ q. Contains X q) (λ q. decide_member same_pairs X q) kept_y in rx.greatest more.items (confirmed_x more) p (more.whole p c xp)

    -- ---- what is kept of X is kept of Y

    module _ (more : Sifted (λ q. Contains Y q) kept_x) where
      abbrev view_x : Known
      view_x = raised lx kept_x gone_x

      abbrev both : List Pair
      both = more.items ++ kept_y

      abbrev more_y : Known
      more_y = raised ly both gone_y

      -- one of both is of the stratum
      both_level : (q : Pair) → Contains both q → level f q.shape ≡ k
      both_level q c = elim (Contains-append_cases more.items kept_y q c) [
        | inl m ↦ (kept_narrow s terms g f budget X lx k gone_x kept_x rx q (more.only q m).0).1
        | inr h ↦ (kept_narrow s terms g f budget Y ly k gone_y kept_y ry q h).1
      ]

      -- and did not go
      both_stay : (q : Pair) → Contains both q → ¬ Contains gone_y q
      both_stay q c w = elim (Contains-append_cases more.items kept_y q c) [
        | inl m ↦ (let h = (more.only q m).0 in apart_x q h (gone_to_x q w (of_kept_x q h)))
        | inr h ↦ apart_y q h w
      ]

      module _ (p : Pair) (xp : Contains X p) (yp : Contains Y p) (lev : level f p.shape ≡ k) where
        yes_to_y : (q : Pair) → Needs s g p q → PairIs view_x q Yes → PairIs more_y q Yes
        yes_to_y q n h = elim (kind p q xp yp lev n) [
          | inl (lt, same) ↦ Contains-append_left ly.yes both q ((same Yes).0 (not_among lx.yes kept_x q (low_kept_x q lt) h))
          | inr (inl (xq, yq, ge)) ↦
              Contains-append_right ly.yes both q (Contains-append_left more.items kept_y q (more.whole q (no_other lx.yes kept_x q (new_x q xq ge).0 h) yq))
          | inr (inr (none, eq, same)) ↦ elim (Contains-append_cases ly.yes kept_y q ((same Yes).0 (not_among lx.yes kept_x q (λ c. none (of_kept_x q c)) h))) [
            | inl l ↦ Contains-append_left ly.yes both q l
            | inr r ↦ Contains-append_right ly.yes both q (Contains-append_right more.items kept_y q r)
          ]
        ]

        no_to_y : (q : Pair) → Needs s g p q → PairIs view_x q No → PairIs more_y q No
        no_to_y q n (not_yes, held) = elim (kind p q xp yp lev n) [
          | inl (lt, same) ↦
              (let d = (same No).0 ((λ c. not_yes (Contains-append_left lx.yes kept_x q c)), not_among lx.no gone_x q (low_gone_x q lt) held) in
              (in_neither ly.yes both q d.0 (λ c. (let e = both_level q c in absurd (omega (arith, e, lt)))), Contains-append_left ly.no gone_y q d.1))
          | inr (inl (xq, yq, ge)) ↦ (let w = gone_to_y q (no_other lx.no gone_x q (new_x q xq ge).1 held) yq in
              (in_neither ly.yes both q (new_y q ge).0 (λ c. both_stay q c w), Contains-append_right ly.no gone_y q w))
          | inr (inr (none, eq, same)) ↦
              (let d = (same No).0 ((λ c. not_yes (Contains-append_left lx.yes kept_x q c)), not_among lx.no gone_x q (λ c. none (of_gone_x q c)) held) in
              let w = no_other ly.no gone_y q (new_y q (same_level q eq)).1 d.1 in
              (in_neither ly.yes both q (new_y q (same_level q eq)).0 (λ c. both_stay q c w), d.1))
        ]

        match_in_y : PairCanMatch s terms g view_x Impossible p → PairCanMatch s terms g more_y Impossible p
        match_in_y m = match_up s terms g view_x more_y p yes_to_y no_to_y m

      -- what confirmed one another still do
      module _ (p : Pair) where
        still_yes : (q : Pair) → Needs s g p q → PairIs (raised ly kept_y gone_y) q Yes → PairIs more_y q Yes
        still_yes q n h = elim (Contains-append_cases ly.yes kept_y q h) [
          | inl l ↦ Contains-append_left ly.yes both q l
          | inr r ↦ Contains-append_right ly.yes both q (Contains-append_right more.items kept_y q r)
        ]

        still_no : (q : Pair) → Needs s g p q → PairIs (raised ly kept_y gone_y) q No → PairIs more_y q No
        still_no q n (not_yes, held) = (
          in_neither ly.yes both q (λ c. not_yes (Contains-append_left ly.yes kept_y q c))
              (λ c. both_stay q c (no_other ly.no gone_y q (new_y q (same_level q (both_level q c))).1 held)),
          held,
        )

        still_match : PairCanMatch s terms g (raised ly kept_y gone_y) Impossible p → PairCanMatch s terms g more_y Impossible p
        still_match m = match_up s terms g (raised ly kept_y gone_y) more_y p still_yes still_no m

      confirmed_y : IsConfirmed s terms g f Y budget ly k gone_y both
      confirmed_y p c = elim (Contains-append_cases more.items kept_y p c) [
        | inl m ↦ (let (held, yp) = more.only p m in let t = rx.confirmed p held in ((yp, t.0.1, t.0.2), both_stay p c, match_in_y p t.0.0 yp t.0.1 t.2))
        | inr h ↦ (let t = ry.confirmed p h in (t.0, t.1, still_match p t.2))
      ]

    pub kept_to_y : (p : Pair) → Contains kept_x p → Contains Y p → Contains kept_y p
    kept_to_y p c yp =
        let more = sift (λ q. Contains Y q) (λ q. decide_member same_pairs Y q) kept_x in
        ry.greatest (both more) (confirmed_y more) p (Contains-append_left more.items kept_y p (more.whole p c yp))

    -- so a pair of both that is not known below the stratum is known alike on it
    pub stratum_alike : (q : Pair) → Contains X q → Contains Y q → level f q.shape ≡ k → SameOn (raised lx kept_x gone_x) (raised ly kept_y gone_y) q
    stratum_alike q xq yq lev = by_members (raised lx kept_x gone_x) (raised ly kept_y gone_y) q (
      (λ c. Contains-append_right ly.yes kept_y q (kept_to_y q (no_other lx.yes kept_x q (new_x q xq ge).0 c) yq)),
      (λ c. Contains-append_right lx.yes kept_x q (kept_to_x q (no_other ly.yes kept_y q (new_y q ge).0 c) xq)),
    ) (
      (λ c. Contains-append_right ly.no gone_y q (gone_to_y q (no_other lx.no gone_x q (new_x q xq ge).1 c) yq)),
      (λ c. Contains-append_right lx.no gone_x q (gone_to_x q (no_other ly.no gone_y q (new_y q ge).1 c) xq)),
    )
      where
        ge : k ≤ level f q.shape
        ge = same_level q lev
