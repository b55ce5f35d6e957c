-- Refinements of the same pairs by two stratifications say the same of each pair.
use Rattle.std.proofs.Common.{◌≡◌, ℕ, zero, suc, ◌+◌, ◌<◌, ◌≤◌, ◌⊎◌, inl, inr, List, ◌++◌, refl, arith, sym, subst, take}
use Rattle.std.proofs.lemmas.Bool.{cases_eq, cases_lt}
use Rattle.std.proofs.lemmas.List.Elements.{Contains-append_cases, Contains-append_left, Contains-append_right}
use Rattle.std.specs.Prelude.{◌↔◌, Contains, Some, slice_get}
use Rattle.lists.proofs.Decided.{Decided, decide_member}
use Rattle.lists.proofs.Members.{got_in, not_in_none, place_of}
use Rattle.rdf_terms.specs.declared.terms.Term.{Term}
use Rattle.rdf_terms.specs.declared.terms.Triple.{Triple}
use Rattle.schema_tree.specs.declared.schema.Pair.{Pair}
use Rattle.schema_tree.specs.declared.schema.Schema.{Schema}
use Rattle.schema_tree.specs.declared.verdicts.Lean.TheVariants.{Impossible, Possible}
use Rattle.schema_tree.specs.declared.verdicts.Verdict.TheVariants.{No, Yes}
use Rattle.schema_tree.specs.Edges.{IsStratified, level}
use Rattle.schema_tree.specs.Laws.{RefinementExists}
use Rattle.schema_tree.specs.Needs.{Needs}
use Rattle.schema_tree.specs.Places.{PairCanMatch}
use Rattle.schema_tree.specs.Removal.{AreRefinedBelow, IsConfirmed, IsRefined, IsRefinedAt}
use Rattle.schema_tree.specs.Sure.{Known, PairIs}
use Rattle.schema_tree.specs.Typings.{top_of}
use Rattle.schema_tree.proofs.Below.{level_top}
use Rattle.schema_tree.proofs.Decide.{same_pairs}
use Rattle.schema_tree.proofs.RefinementExists.{Sifted, sift}
use Rattle.removal_laws.proofs.Carried.{match_up}
use Rattle.locality_laws.specs.Laws.{RefinementIsIndependent, VerdictIsIndependent}
use Rattle.locality_laws.specs.Local.{IsNegativeNeed}
use Rattle.locality_laws.proofs.Alike.{by_members, in_neither, raised}
use Rattle.locality_laws.proofs.Falling.{match_falls}
use Rattle.locality_laws.proofs.Refined.{gone_narrow, in_take, kept_narrow, kept_stays}
use Rattle.locality_laws.proofs.Whole.{edge_of}

-- the pairs of xs below the stratum a are those of ys
abbrev AreBelow : List ℕ → ℕ → List Pair → List Pair → Type 0
AreBelow f a xs ys = (q : Pair) → Contains ys q ↔ (Contains xs q × (level f q.shape < a))

-- those on the stratum a are those of ys
abbrev AreOn : List ℕ → ℕ → List Pair → List Pair → Type 0
AreOn f a xs ys = (q : Pair) → Contains ys q ↔ (Contains xs q × (level f q.shape ≡ a))

-- the list ls has what xs has below the stratum k, and ms what it has on k
module _ (f : List ℕ) (k : ℕ) (xs ls ms : List Pair) (is : xs ≡ ls ++ ms) (low : (q : Pair) → Contains ls q → level f q.shape < k)
    (on : (q : Pair) → Contains ms q → level f q.shape ≡ k) where
  cases : (q : Pair) → Contains xs q → Contains ls q ⊎ Contains ms q
  cases q c = Contains-append_cases ls ms q (subst (λ z. Contains z q) is c)

  from_low : (q : Pair) → Contains ls q → Contains xs q
  from_low q c = subst (λ z. Contains z q) (sym is) (Contains-append_left ls ms q c)

  from_on : (q : Pair) → Contains ms q → Contains xs q
  from_on q c = subst (λ z. Contains z q) (sym is) (Contains-append_right ls ms q c)

  to_low : (q : Pair) → Contains xs q → level f q.shape < k → Contains ls q
  to_low q c lt = elim (cases q c) [ inl l ↦ l | inr m ↦ absurd (let e = on q m in omega (arith, e, lt)) ]

  to_on : (q : Pair) → Contains xs q → level f q.shape ≡ k → Contains ms q
  to_on q c e = elim (cases q c) [ inl l ↦ absurd (let lt = low q l in omega (arith, e, lt)) | inr m ↦ m ]

  all_below : (q : Pair) → Contains xs q → level f q.shape < suc k
  all_below q c = elim (cases q c) [ inl l ↦ (let lt = low q l in omega (arith, lt)) | inr m ↦ (let e = on q m in omega (arith, e)) ]

  here_below : AreBelow f k xs ls
  here_below q = ((λ c. (from_low q c, low q c)), (λ t. to_low q t.0 t.1))

  here_on : AreOn f k xs ms
  here_on q = ((λ c. (from_on q c, on q c)), (λ t. to_on q t.0 t.1))

  -- what ls has below a lower stratum, or on it, xs has there
  further_below : (a : ℕ) → a < k → (ys : List Pair) → AreBelow f a ls ys → AreBelow f a xs ys
  further_below a lt ys h q = ((λ c. (let t = (h q).0 c in (from_low q t.0, t.1))), (λ t. (let l = t.1 in (h q).1 (to_low q t.0 (omega (arith, l, lt)), l))))

  further_on : (a : ℕ) → a < k → (ys : List Pair) → AreOn f a ls ys → AreOn f a xs ys
  further_on a lt ys h q = ((λ c. (let t = (h q).0 c in (from_low q t.0, t.1))), (λ t. (let e = t.1 in (h q).1 (to_low q t.0 (omega (arith, e, lt)), e))))

module _ (s : Schema) (terms : List Term) (g : List Triple) (budget : ℕ) (pairs : List Pair) where
  -- what refinement by f comes to, as it is on the stratum a
  record IsLevel (f : List ℕ) (known : Known) (a : ℕ) : Type 0 where
    pub lower : Known
    pub gone : List Pair
    pub kept : List Pair
    pub refined : IsRefinedAt s terms g f pairs budget lower a gone kept
    pub yes_below : AreBelow f a known.yes lower.yes
    pub no_below : AreBelow f a known.no lower.no
    pub yes_on : AreOn f a known.yes kept
    pub no_on : AreOn f a known.no gone

  -- the verdicts on the strata below k are of pairs below k
  abbrev AreLow : List ℕ → ℕ → Known → Type 0
  AreLow f k known = ((q : Pair) → Contains known.yes q → level f q.shape < k) × ((q : Pair) → Contains known.no q → level f q.shape < k)

  are_low : (f : List ℕ) (k : ℕ) (known : Known) → AreRefinedBelow s terms g f pairs budget k known → AreLow f k known
  are_low f zero known (yes_is, no_is) =
      ((λ q c. absurd (not_in_none q (subst (λ z. Contains z q) yes_is c))), (λ q c. absurd (not_in_none q (subst (λ z. Contains z q) no_is c))))
  are_low f (suc k) known (lower, gone, kept, before, r, yes_is, no_is) =
      let low = are_low f k lower before in (
        all_below f k known.yes lower.yes kept yes_is low.0 (λ q c. (kept_narrow s terms g f budget pairs lower k gone kept r q c).1),
        all_below f k known.no lower.no gone no_is low.1 (λ q c. (gone_narrow s terms g f budget pairs lower k gone kept r q c).1),
      )

  level_of : (f : List ℕ) (k : ℕ) (known : Known) → AreRefinedBelow s terms g f pairs budget k known → (a : ℕ) → a < k → IsLevel f known a
  level_of f zero known refined a lt = absurd (omega (arith, lt))
  level_of f (suc k) known (lower, gone, kept, before, r, yes_is, no_is) a lt = elim (cases_lt a k) [
    | inl less ↦ further less (level_of f k lower before a less)
    | inr ge ↦ subst (IsLevel f known) (let e : k ≡ a = omega (arith, ge, lt) in e) here
  ]
    where
      low : AreLow f k lower
      low = are_low f k lower before

      on_yes : (q : Pair) → Contains kept q → level f q.shape ≡ k
      on_yes q c = (kept_narrow s terms g f budget pairs lower k gone kept r q c).1

      on_no : (q : Pair) → Contains gone q → level f q.shape ≡ k
      on_no q c = (gone_narrow s terms g f budget pairs lower k gone kept r q c).1

      here : IsLevel f known k
      here = record {
        lower = lower;
        gone = gone;
        kept = kept;
        refined = r;
        yes_below = here_below f k known.yes lower.yes kept yes_is low.0 on_yes;
        no_below = here_below f k known.no lower.no gone no_is low.1 on_no;
        yes_on = here_on f k known.yes lower.yes kept yes_is low.0 on_yes;
        no_on = here_on f k known.no lower.no gone no_is low.1 on_no;
      }

      further : a < k → IsLevel f lower a → IsLevel f known a
      further less l = record {
        lower = l.lower;
        gone = l.gone;
        kept = l.kept;
        refined = l.refined;
        yes_below = further_below f k known.yes lower.yes kept yes_is low.0 on_yes a less l.lower.yes l.yes_below;
        no_below = further_below f k known.no lower.no gone no_is low.1 on_no a less l.lower.no l.no_below;
        yes_on = further_on f k known.yes lower.yes kept yes_is low.0 on_yes a less l.kept l.yes_on;
        no_on = further_on f k known.no lower.no gone no_is low.1 on_no a less l.gone l.no_on;
      }

  module _ (f : List ℕ) (known : Known) (a : ℕ) (l : IsLevel f known a) where
    -- what is known up to the stratum
    yes_to : (q : Pair) → Contains known.yes q → level f q.shape ≤ a → Contains (l.lower.yes ++ l.kept) q
    yes_to q c le = elim (cases_lt (level f q.shape) a) [
      | inl lt ↦ Contains-append_left l.lower.yes l.kept q ((l.yes_below q).1 (c, lt))
      | inr ge ↦ Contains-append_right l.lower.yes l.kept q ((l.yes_on q).1 (c, omega (arith, le, ge)))
    ]

    no_to : (q : Pair) → Contains known.no q → level f q.shape ≤ a → Contains (l.lower.no ++ l.gone) q
    no_to q c le = elim (cases_lt (level f q.shape) a) [
      | inl lt ↦ Contains-append_left l.lower.no l.gone q ((l.no_below q).1 (c, lt))
      | inr ge ↦ Contains-append_right l.lower.no l.gone q ((l.no_on q).1 (c, omega (arith, le, ge)))
    ]

    yes_of : (q : Pair) → Contains (l.lower.yes ++ l.kept) q → Contains known.yes q
    yes_of q c = elim (Contains-append_cases l.lower.yes l.kept q c) [ inl b ↦ ((l.yes_below q).0 b).0 | inr o ↦ ((l.yes_on q).0 o).0 ]

    no_of : (q : Pair) → Contains (l.lower.no ++ l.gone) q → Contains known.no q
    no_of q c = elim (Contains-append_cases l.lower.no l.gone q c) [ inl b ↦ ((l.no_below q).0 b).0 | inr o ↦ ((l.no_on q).0 o).0 ]

    -- a pair of the stratum is not both
    not_both : (q : Pair) → level f q.shape ≡ a → Contains known.yes q → ¬ Contains known.no q
    not_both q e y n = kept_stays s terms g f budget pairs l.lower a l.gone l.kept l.refined q ((l.yes_on q).1 (y, e)) ((l.no_on q).1 (n, e))

  -- x is what refinement by f comes to, and y by h; of the pairs that a pair on the stratum a by f and b by h needs, those on
  -- those on both strata come with the pair, and all others have a lower sum of the two
  module _ (f h : List ℕ) (by_f : IsStratified s f) (by_h : IsStratified s h) (x y : Known) (apart_x : (q : Pair) → Contains x.yes q → ¬ Contains x.no q)
      (apart_y : (q : Pair) → Contains y.yes q → ¬ Contains y.no q) (a b : ℕ) (l : IsLevel f x a) (m : IsLevel h y b)
      (same_yes : (q : Pair) → level f q.shape + level h q.shape < a + b → Contains x.yes q ↔ Contains y.yes q) where
    module _ (p : Pair) (at_a : level f p.shape ≡ a) (at_b : level h p.shape ≡ b) where
      to_a : (q : Pair) → Needs s g p q → level f q.shape ≤ a
      to_a q n = let r = by_f.never_rises p.shape q.shape (edge_of s g p q n) in omega (arith, r, at_a)

      to_b : (q : Pair) → Needs s g p q → level h q.shape ≤ b
      to_b q n = let r = by_h.never_rises p.shape q.shape (edge_of s g p q n) in omega (arith, r, at_b)

      -- a needed pair of a lower sum, or of the same two strata
      two_ways : (q : Pair) → Needs s g p q → (level f q.shape + level h q.shape < a + b) ⊎ ((level f q.shape ≡ a) × (level h q.shape ≡ b))
      two_ways q n = elim (cases_lt (level f q.shape + level h q.shape) (a + b)) [
        | inl lt ↦ inl lt
        | inr ge ↦ (let u = to_a q n in let v = to_b q n in inr (omega (arith, u, v, ge), omega (arith, u, v, ge)))
      ]

    -- ---- what went by f went by h

    module _ (same_no : (q : Pair) → level f q.shape + level h q.shape < a + b → Contains x.no q ↔ Contains y.no q) where
      module _ (i : ℕ) (p : Pair) (at_a : level f p.shape ≡ a) (at_b : level h p.shape ≡ b)
          (earlier : (j : ℕ) → j < i → (q : Pair) → slice_get l.gone j ≡ Some q → level h q.shape ≡ b → Contains m.gone q) where
        abbrev before : Known
        before = record { yes = l.lower.yes; no = l.lower.no ++ take i l.gone }

        abbrev after : Known
        after = record { yes = m.lower.yes; no = m.lower.no ++ m.gone }

        up : (q : Pair) (n : Needs s g p q) → IsNegativeNeed n → PairIs before q Yes → PairIs after q Yes
        up q n negative c =
            let (held, less) = (l.yes_below q).0 c in
            let falls = by_h.falls p.shape q.shape (edge_of s g p q n) negative in
            (m.yes_below q).1 ((same_yes q (omega (arith, less, falls, at_b))).0 held, omega (arith, falls, at_b))

        was_no : (q : Pair) → Contains (l.lower.no ++ take i l.gone) q → Contains x.no q
        was_no q c = elim (Contains-append_cases l.lower.no (take i l.gone) q c) [
          | inl low ↦ ((l.no_below q).0 low).0
          | inr went ↦ (let (j, lt, at) = in_take l.gone i q went in ((l.no_on q).0 (got_in l.gone j q at)).0)
        ]

        went_before : (q : Pair) → level f q.shape ≡ a → level h q.shape ≡ b → Contains (l.lower.no ++ take i l.gone) q → Contains m.gone q
        went_before q e d c = elim (Contains-append_cases l.lower.no (take i l.gone) q c) [
          | inl low ↦ absurd (let lt = ((l.no_below q).0 low).1 in omega (arith, lt, e))
          | inr went ↦ (let (j, lt, at) = in_take l.gone i q went in earlier j lt q at d)
        ]

        down : (q : Pair) → Needs s g p q → PairIs before q No → PairIs after q No
        down q n (not_yes, held) = elim (two_ways p at_a at_b q n) [
          | inl less ↦ (
            (λ c. apart_x q ((same_yes q less).1 ((m.yes_below q).0 c).0) (was_no q held)),
            no_to h y b m q ((same_no q less).0 (was_no q held)) (to_b p at_a at_b q n),
          )
          | inr (e, d) ↦ ((λ c. absurd (let lt = ((m.yes_below q).0 c).1 in omega (arith, lt, d))), Contains-append_right m.lower.no m.gone q (went_before q e d held))
        ]

        falls_too : ¬ PairCanMatch s terms g before Possible p → ¬ PairCanMatch s terms g after Possible p
        falls_too never c = never (match_falls s terms g before after p up down c)

      went_too : (n i : ℕ) → i < n → (p : Pair) → slice_get l.gone i ≡ Some p → level h p.shape ≡ b → Contains m.gone p
      went_too zero i lt p at at_b = absurd (omega (arith, lt))
      went_too (suc n) i lt p at at_b = go (decide_member same_pairs m.gone p) (λ j less q there d. went_too n j (omega (arith, less, lt)) q there d)
        where
          go : Decided (Contains m.gone p) → ((j : ℕ) → j < i → (q : Pair) → slice_get l.gone j ≡ Some q → level h q.shape ≡ b → Contains m.gone q) → Contains m.gone p
          go (inl held) earlier = held
          go (inr none) earlier =
              let turn = (l.refined.in_turn i p at).0 in
              absurd (m.refined.finished p ((turn.0.0, at_b, turn.0.2), none, falls_too i p turn.0.1 at_b earlier turn.2))

      no_passes : (p : Pair) → level f p.shape ≡ a → level h p.shape ≡ b → Contains x.no p → Contains y.no p
      no_passes p at_a at_b c =
          let (i, at) = place_of l.gone p ((l.no_on p).1 (c, at_a)) in ((m.no_on p).0 (went_too (suc i) i (omega arith) p at at_b)).0

    -- ---- what is kept by f is kept by h

    module _ (same_no : (q : Pair) → level f q.shape + level h q.shape ≤ a + b → Contains x.no q ↔ Contains y.no q) (more : Sifted (λ q. level h q.shape ≡ b) l.kept) where
      abbrev both : List Pair
      both = more.items ++ m.kept

      abbrev view_x : Known
      view_x = raised l.lower l.kept l.gone

      abbrev view_y : Known
      view_y = raised m.lower both m.gone

      -- one of more is Yes by f, and of the two strata
      of_more : (q : Pair) → Contains more.items q → Contains x.yes q × (level f q.shape ≡ a) × (level h q.shape ≡ b)
      of_more q c = let (kept, at_b) = more.only q c in let (held, at_a) = (l.yes_on q).0 kept in (held, at_a, at_b)

      both_stay : (q : Pair) → Contains both q → ¬ Contains y.no q
      both_stay q c n = elim (Contains-append_cases more.items m.kept q c) [
        | inl o ↦ (let (held, at_a, at_b) = of_more q o in apart_x q held ((same_no q (omega (arith, at_a, at_b))).1 n))
        | inr k ↦ apart_y q ((m.yes_on q).0 k).0 n
      ]

      -- a pair that is No by h is not Yes in the wider view
      stays_no : (q : Pair) → Contains y.no q → ¬ Contains (m.lower.yes ++ both) q
      stays_no q n c = in_neither m.lower.yes both q (λ low. apart_y q ((m.yes_below q).0 low).0 n) (λ o. both_stay q o n) c

      widened : (q : Pair) → Contains (m.lower.yes ++ m.kept) q → Contains (m.lower.yes ++ both) q
      widened q c = elim (Contains-append_cases m.lower.yes m.kept q c) [
        | inl low ↦ Contains-append_left m.lower.yes both q low
        | inr k ↦ Contains-append_right m.lower.yes both q (Contains-append_right more.items m.kept q k)
      ]

      module _ (p : Pair) (at_a : level f p.shape ≡ a) (at_b : level h p.shape ≡ b) where
        yes_up : (q : Pair) → Needs s g p q → PairIs view_x q Yes → PairIs view_y q Yes
        yes_up q n c = elim (two_ways p at_a at_b q n) [
          | inl less ↦ widened q (yes_to h y b m q ((same_yes q less).0 (yes_of f x a l q c)) (to_b p at_a at_b q n))
          | inr (e, d) ↦ Contains-append_right m.lower.yes both q (Contains-append_left more.items m.kept q (more.whole q ((l.yes_on q).1 (yes_of f x a l q c, e)) d))
        ]

        no_up : (q : Pair) → Needs s g p q → PairIs view_x q No → PairIs view_y q No
        no_up q n (not_yes, held) =
            let u = to_a p at_a at_b q n in
            let v = to_b p at_a at_b q n in
            let no_ = (same_no q (omega (arith, u, v))).0 (no_of f x a l q held) in (stays_no q no_, no_to h y b m q no_ v)

        matches_too : PairCanMatch s terms g view_x Impossible p → PairCanMatch s terms g view_y Impossible p
        matches_too c = match_up s terms g view_x view_y p yes_up no_up c

      -- what confirmed one another still does
      still_matches : (p : Pair) → PairCanMatch s terms g (raised m.lower m.kept m.gone) Impossible p → PairCanMatch s terms g view_y Impossible p
      still_matches p c =
          match_up s terms g (raised m.lower m.kept m.gone) view_y p (λ q n d. widened q d) (λ q n d. (stays_no q (no_of h y b m q d.1), d.1)) c

      all_confirmed : IsConfirmed s terms g h pairs budget m.lower b m.gone both
      all_confirmed p c = elim (Contains-append_cases more.items m.kept p c) [
        | inl o ↦ (let (held, at_a, at_b) = of_more p o in
            let t = l.refined.confirmed p (more.only p o).0 in
            ((t.0.0, at_b, t.0.2), (λ w. both_stay p c ((m.no_on p).0 w).0), matches_too p at_a at_b t.2))
        | inr k ↦ (let t = m.refined.confirmed p k in (t.0, t.1, still_matches p t.2))
      ]

      kept_too : (p : Pair) → Contains more.items p → Contains m.kept p
      kept_too p c = m.refined.greatest both all_confirmed p (Contains-append_left more.items m.kept p c)

    yes_passes :
        ((q : Pair) → level f q.shape + level h q.shape ≤ a + b → Contains x.no q ↔ Contains y.no q) →
        (p : Pair) → level f p.shape ≡ a → level h p.shape ≡ b → Contains x.yes p → Contains y.yes p
    yes_passes same_no p at_a at_b c =
        let more = sift (λ q. level h q.shape ≡ b) (λ q. cases_eq (level h q.shape) b) l.kept in
        ((m.yes_on p).0 (kept_too same_no more p (more.whole p ((l.yes_on p).1 (c, at_a)) at_b))).0

  module _ (f h : List ℕ) (by_f : IsStratified s f) (by_h : IsStratified s h) (x y : Known) (refined_x : IsRefined s terms g f pairs budget x)
      (refined_y : IsRefined s terms g h pairs budget y) where
    on_f : (q : Pair) → IsLevel f x (level f q.shape)
    on_f q = level_of f (suc (top_of f)) x refined_x (level f q.shape) (let t = level_top f q.shape.0 in omega (arith, t))

    on_h : (q : Pair) → IsLevel h y (level h q.shape)
    on_h q = level_of h (suc (top_of h)) y refined_y (level h q.shape) (let t = level_top h q.shape.0 in omega (arith, t))

    apart_f : (q : Pair) → Contains x.yes q → ¬ Contains x.no q
    apart_f q = not_both f x (level f q.shape) (on_f q) q refl

    apart_h : (q : Pair) → Contains y.yes q → ¬ Contains y.no q
    apart_h q = not_both h y (level h q.shape) (on_h q) q refl

    -- the two say the same of the pair
    abbrev Same : Pair → Type 0
    Same q = (Contains x.yes q ↔ Contains y.yes q) × (Contains x.no q ↔ Contains y.no q)

    abbrev sum : Pair → ℕ
    sum q = level f q.shape + level h q.shape

    -- where they do of all pairs of a lower sum, they do of those of the sum
    module _ (k : ℕ) (same : (r : Pair) → sum r < k → Same r) where
      -- where the two typings agree on a pair of a lower sum, they do with the two exchanged
      turned : (r : Pair) → level h r.shape + level f r.shape < k → (Contains y.yes r ↔ Contains x.yes r) × (Contains y.no r ↔ Contains x.no r)
      turned r lt = let (yes_, no_) = same r (omega (arith, lt)) in ((yes_.1, yes_.0), (no_.1, no_.0))

      no_same : (q : Pair) → sum q ≤ k → Contains x.no q ↔ Contains y.no q
      no_same q le = elim (cases_lt (sum q) k) [
        | inl lt ↦ (same q lt).1
        | inr ge ↦ (
          no_passes f h by_f by_h x y apart_f apart_h (level f q.shape) (level h q.shape) (on_f q) (on_h q)
              (λ r lt. (same r (omega (arith, lt, le))).0) (λ r lt. (same r (omega (arith, lt, le))).1) q refl refl,
          no_passes h f by_h by_f y x apart_h apart_f (level h q.shape) (level f q.shape) (on_h q) (on_f q)
              (λ r lt. (turned r (omega (arith, lt, le))).0) (λ r lt. (turned r (omega (arith, lt, le))).1) q refl refl,
        )
      ]

      no_turned : (q : Pair) → level h q.shape + level f q.shape ≤ k → Contains y.no q ↔ Contains x.no q
      no_turned q le = let (there, back) = no_same q (omega (arith, le)) in (back, there)

      yes_same : (q : Pair) → sum q ≤ k → Contains x.yes q ↔ Contains y.yes q
      yes_same q le = elim (cases_lt (sum q) k) [
        | inl lt ↦ (same q lt).0
        | inr ge ↦ (
          yes_passes f h by_f by_h x y apart_f apart_h (level f q.shape) (level h q.shape) (on_f q) (on_h q)
              (λ r lt. (same r (omega (arith, lt, le))).0) (λ r lr. no_same r (omega (arith, lr, le))) q refl refl,
          yes_passes h f by_h by_f y x apart_h apart_f (level h q.shape) (level f q.shape) (on_h q) (on_f q)
              (λ r lt. (turned r (omega (arith, lt, le))).0) (λ r lr. no_turned r (omega (arith, lr, le))) q refl refl,
        )
      ]

    same_below : (k : ℕ) (q : Pair) → sum q < k → Same q
    same_below zero q lt = absurd (omega (arith, lt))
    same_below (suc k) q lt = (yes_same k (same_below k) q (omega (arith, lt)), no_same k (same_below k) q (omega (arith, lt)))

    same_of_each : (q : Pair) → Same q
    same_of_each q = same_below (suc (sum q)) q (omega arith)

-- ---- the laws

pub independent : RefinementIsIndependent
independent s terms g f h budget pairs known whole by_f by_h refined refined_h = (
  ((λ q c. (same q).0.0 c), (λ q c. (same q).0.1 c)),
  ((λ q c. (same q).1.0 c), (λ q c. (same q).1.1 c)),
)
  where
    same : (q : Pair) → (Contains known.yes q ↔ Contains whole.yes q) × (Contains known.no q ↔ Contains whole.no q)
    same = same_of_each s terms g budget pairs f h by_f by_h known whole refined refined_h

pub verdict_independent : RefinementExists → VerdictIsIndependent
verdict_independent exists s terms g f h budget loaded by_f by_h p v is all whole distinct closed held refined =
    let (known, first) = exists s terms g f all budget loaded distinct in
    let (yes_, no_) = same_of_each s terms g budget all f h by_f by_h known whole first refined p in
    (by_members known whole p yes_ no_ v).0 (is all known distinct closed held first)
