-- The records of a refinement say on each stratum what was known there.
use Rattle.std.proofs.Common.{◌≡◌, ◌∙◌, ℕ, zero, suc, ◌<◌, ◌+◌, ◌⊎◌, inl, inr, List, [], ◌∷◌, ◌++◌, arith, refl, sym, ap, subst}
use Rattle.std.proofs.lemmas.Bool.{cases_eq}
use Rattle.std.proofs.lemmas.List.{map-append}
use Rattle.std.proofs.lemmas.List.Elements.{Contains-append_cases, Contains-append_left, Contains-append_right}
use Rattle.std.specs.Prelude.{◌↔◌, Contains, Some, None, slice_get}
use Rattle.rdf_terms.specs.declared.terms.Term.{Term}
use Rattle.rdf_terms.specs.declared.terms.Triple.{Triple}
use Rattle.schema_tree.specs.declared.schema.Pair.{Pair}
use Rattle.schema_tree.specs.declared.schema.Schema.{Schema}
use Rattle.schema_tree.specs.Edges.{level}
use Rattle.schema_tree.specs.Removal.{AreRefinedBelow, IsRefinedAt}
use Rattle.schema_tree.specs.Sure.{Known}
use Rattle.schema_tree.specs.Typings.{HaveSame}
use Rattle.lists.proofs.Members.{got_in, in_map, from_map, not_in_none}
use Rattle.proof_file.specs.declared.Proof.{Proof}
use Rattle.proof_file.specs.Accepts.{Setting, no_of, yes_of}
use Rattle.proof_file.specs.Views.{Refuted, pairs_of}
use Rattle.removal_laws.proofs.Known.{held_at}
use Rattle.typing_refiner.specs.Laws.{AreRanked, AreRecordsAt, HasRecordsAt, ranked_from}

-- ---- ranks

rank_at : (r : ℕ) (gone : List Pair) (j : ℕ) (u : Refuted) → slice_get (ranked_from r gone) j ≡ Some u → (slice_get gone j ≡ Some u.pair) × (u.rank ≡ r + j)
rank_at r [] j u at = absurd (let e : None ≡ Some u = at in cc)
rank_at r (p ∷ ps) zero u at =
    let e : record { pair = p; rank = r } ≡ u = (let f : Some (record { pair = p; rank = r }) ≡ Some u = at in cc) in
    (ap (λ z. Some z.pair) e, sym (ap (λ z. z.rank) e) ∙ (let g : r ≡ r + 0 = omega arith in g))
rank_at r (p ∷ ps) (suc j) u at = let (a, b) = rank_at (suc r) ps j u at in (a, (let e : u.rank ≡ r + suc j = omega (arith, b) in e))

at_rank : (r : ℕ) (gone : List Pair) (j : ℕ) (q : Pair) → slice_get gone j ≡ Some q → slice_get (ranked_from r gone) j ≡ Some (record { pair = q; rank = r + j })
at_rank r [] j q at = absurd (let e : None ≡ Some q = at in cc)
at_rank r (p ∷ ps) zero q at =
    let e : p ≡ q = (let f : Some p ≡ Some q = at in cc) in let g : r ≡ r + 0 = omega arith in
    ap (λ z. Some (record { pair = z; rank = r })) e ∙ ap (λ z. Some (record { pair = q; rank = z })) g
at_rank r (p ∷ ps) (suc j) q at =
    let g : suc r + j ≡ r + suc j = omega arith in at_rank (suc r) ps j q at ∙ ap (λ z. Some (record { pair = q; rank = z })) g

pub ranked : (gone : List Pair) (q : Pair) (r : ℕ) → Contains (ranked_from 1 gone) (record { pair = q; rank = r }) ↔ ((j : ℕ) × (slice_get gone j ≡ Some q) × (r ≡ suc j))
ranked gone q r = (
  (λ c. let (j, at) = held_at (ranked_from 1 gone) (record { pair = q; rank = r }) c in
      let (a, b) = rank_at 1 gone j (record { pair = q; rank = r }) at in (j, a, (let e : r ≡ suc j = omega (arith, b) in e))),
  (λ (j, at, e). got_in (ranked_from 1 gone) j (record { pair = q; rank = r })
      (at_rank 1 gone j q at ∙ ap (λ z. Some (record { pair = q; rank = z })) (let g : 1 + j ≡ r = omega (arith, e) in g))),
)

pairs_ranked : (r : ℕ) (gone : List Pair) → pairs_of (ranked_from r gone) ≡ gone
pairs_ranked r [] = refl
pairs_ranked r (p ∷ ps) = ap (λ xs. p ∷ xs) (pairs_ranked (suc r) ps)

module _ (s : Schema) (terms : List Term) (g : List Triple) (f : List ℕ) (pairs : List Pair) (budget : ℕ) where
  -- each refinement has its ranks
  pub ranks_of : (k : ℕ) (known : Known) → AreRefinedBelow s terms g f pairs budget k known → (minus : List Refuted) × AreRanked s terms g f pairs budget k known minus
  ranks_of zero known (a, b) = ([], (a, b, refl))
  ranks_of (suc k) known (lower, gone, kept, before, r, a, b) =
      let (minus, is) = ranks_of k lower before in (minus ++ ranked_from 1 gone, (lower, minus, gone, kept, is, r, a, b, refl))

  kept_level : (lower : Known) (k : ℕ) (gone kept : List Pair) → IsRefinedAt s terms g f pairs budget lower k gone kept → (q : Pair) → Contains kept q → level f q.shape ≡ k
  kept_level lower k gone kept r q c = (r.confirmed q c).0.1

  pub gone_level : (lower : Known) (k : ℕ) (gone kept : List Pair) → IsRefinedAt s terms g f pairs budget lower k gone kept → (q : Pair) → Contains gone q → level f q.shape ≡ k
  gone_level lower k gone kept r q c = let (i, at) = held_at gone q c in (r.in_turn i q at).0.0.1

  -- the pairs with ranks are those that are No
  pub no_pairs : (k : ℕ) (known : Known) (minus : List Refuted) → AreRanked s terms g f pairs budget k known minus → pairs_of minus ≡ known.no
  no_pairs zero known minus (a, b, c) = ap pairs_of c ∙ sym b
  no_pairs (suc k) known minus (lower, low, gone, kept, before, r, a, b, c) =
      ap pairs_of c ∙ (map-append (λ x. x.pair) low (ranked_from 1 gone) ∙ (ap (λ xs. xs ++ pairs_of (ranked_from 1 gone)) (no_pairs k lower low before)
      ∙ (ap (λ xs. lower.no ++ xs) (pairs_ranked 1 gone) ∙ sym b)))

  pub low_yes : (k : ℕ) (known : Known) (minus : List Refuted) → AreRanked s terms g f pairs budget k known minus → (q : Pair) → Contains known.yes q → level f q.shape < k
  low_yes zero known minus (a, b, c) q y = absurd (not_in_none q (subst (λ xs. Contains xs q) a y))
  low_yes (suc k) known minus (lower, low, gone, kept, before, r, a, b, c) q y = elim (Contains-append_cases lower.yes kept q (subst (λ xs. Contains xs q) a y)) [
    | inl l ↦ (let lt = low_yes k lower low before q l in let e : level f q.shape < suc k = omega (arith, lt) in e)
    | inr n ↦ (let is = kept_level lower k gone kept r q n in let e : level f q.shape < suc k = omega (arith, is) in e)
  ]

  pub low_no : (k : ℕ) (known : Known) (minus : List Refuted) → AreRanked s terms g f pairs budget k known minus → (q : Pair) → Contains known.no q → level f q.shape < k
  low_no zero known minus (a, b, c) q y = absurd (not_in_none q (subst (λ xs. Contains xs q) b y))
  low_no (suc k) known minus (lower, low, gone, kept, before, r, a, b, c) q y = elim (Contains-append_cases lower.no gone q (subst (λ xs. Contains xs q) b y)) [
    | inl l ↦ (let lt = low_no k lower low before q l in let e : level f q.shape < suc k = omega (arith, lt) in e)
    | inr n ↦ (let is = gone_level lower k gone kept r q n in let e : level f q.shape < suc k = omega (arith, is) in e)
  ]

  pub low_minus : (k : ℕ) (known : Known) (minus : List Refuted) → AreRanked s terms g f pairs budget k known minus → (u : Refuted) → Contains minus u → level f u.pair.shape < k
  low_minus k known minus h u c = low_no k known minus h u.pair (subst (λ xs. Contains xs u.pair) (no_pairs k known minus h) (in_map (λ x. x.pair) minus u c))

  abbrev Has : Known → List Refuted → ℕ → Type 0
  Has known minus k = HasRecordsAt s terms g f pairs budget known minus k

  module _ (top : ℕ) (known : Known) (minus : List Refuted) (lower : Known) (low : List Refuted) (gone kept : List Pair) (before : AreRanked s terms g f pairs budget top lower low)
      (r : IsRefinedAt s terms g f pairs budget lower top gone kept) (a : known.yes ≡ lower.yes ++ kept) (b : known.no ≡ lower.no ++ gone) (c : minus ≡ low ++ ranked_from 1 gone) where
    all_no : pairs_of minus ≡ known.no
    all_no = no_pairs (suc top) known minus (lower, low, gone, kept, before, r, a, b, c)

    pub in_low : (u : Refuted) → Contains minus u → Contains low u ⊎ Contains (ranked_from 1 gone) u
    in_low u x = Contains-append_cases low (ranked_from 1 gone) u (subst (λ xs. Contains xs u) c x)

    pub was_yes : (q : Pair) → level f q.shape < top → Contains known.yes q → Contains lower.yes q
    was_yes q lt x = elim (Contains-append_cases lower.yes kept q (subst (λ xs. Contains xs q) a x)) [
      | inl l ↦ l
      | inr n ↦ absurd (let e = kept_level lower top gone kept r q n in omega (arith, e, lt))
    ]

    pub is_yes : (q : Pair) → Contains lower.yes q → Contains known.yes q
    is_yes q y = subst (λ xs. Contains xs q) (sym a) (Contains-append_left lower.yes kept q y)

    pub was_no : (q : Pair) → level f q.shape < top → Contains (pairs_of minus) q → Contains lower.no q
    was_no q lt x = elim (Contains-append_cases lower.no gone q (subst (λ xs. Contains xs q) b (subst (λ xs. Contains xs q) all_no x))) [
      | inl l ↦ l
      | inr n ↦ absurd (let e = gone_level lower top gone kept r q n in omega (arith, e, lt))
    ]

    pub is_no : (q : Pair) → Contains lower.no q → Contains (pairs_of minus) q
    is_no q y = subst (λ xs. Contains xs q) (sym all_no) (subst (λ xs. Contains xs q) (sym b) (Contains-append_left lower.no gone q y))

    abbrev pub at_top : Has known minus top
    at_top = record {
      lower = lower;
      gone = gone;
      kept = kept;
      refined = r;
      yes_low = λ q. ((λ y. (is_yes q y, low_yes top lower low before q y)), (λ t. was_yes q t.1 t.0));
      no_low = λ q. ((λ y. (is_no q y, low_no top lower low before q y)), (λ t. was_no q t.1 t.0));
      ranks = λ q n. (
        (λ t. elim (in_low (record { pair = q; rank = n }) t.0) [
          | inl x ↦ absurd (let lt = low_minus top lower low before (record { pair = q; rank = n }) x in let e = t.1 in omega (arith, lt, e))
          | inr x ↦ (ranked gone q n).0 x
        ]),
        (λ (j, at, e). (
          subst (λ xs. Contains xs (record { pair = q; rank = n })) (sym c) (Contains-append_right low (ranked_from 1 gone) (record { pair = q; rank = n }) ((ranked gone q n).1 (j, at, e))),
          gone_level lower top gone kept r q (got_in gone j q at),
        )),
      );
    }

    abbrev pub below_top : (k : ℕ) → k < top → Has lower low k → Has known minus k
    below_top k less h = record {
      lower = h.lower;
      gone = h.gone;
      kept = h.kept;
      refined = h.refined;
      yes_low = λ q. (
        (λ y. let (x, lt) = (h.yes_low q).0 y in (is_yes q x, lt)),
        (λ t. (h.yes_low q).1 (was_yes q (let lt = t.1 in let m : level f q.shape < top = omega (arith, lt, less) in m) t.0, t.1)),
      );
      no_low = λ q. (
        (λ y. let (x, lt) = (h.no_low q).0 y in (is_no q (subst (λ xs. Contains xs q) (no_pairs top lower low before) x), lt)),
        (λ t. (h.no_low q).1 (
          subst (λ xs. Contains xs q) (sym (no_pairs top lower low before)) (was_no q (let lt = t.1 in let m : level f q.shape < top = omega (arith, lt, less) in m) t.0),
          t.1,
        )),
      );
      ranks = λ q n. (
        (λ t. elim (in_low (record { pair = q; rank = n }) t.0) [
          | inl x ↦ (h.ranks q n).0 (x, t.1)
          | inr x ↦ (let (j, at, e) = (ranked gone q n).0 x in
              let lev = gone_level lower top gone kept r q (got_in gone j q at) in let is = t.1 in absurd (omega (arith, lev, is, less)))
        ]),
        (λ t. let (x, lev) = (h.ranks q n).1 t in
            (subst (λ xs. Contains xs (record { pair = q; rank = n })) (sym c) (Contains-append_left low (ranked_from 1 gone) (record { pair = q; rank = n }) x), lev)),
      );
    }

  by_stratum : (top k : ℕ) (known : Known) (minus : List Refuted) (lower : Known) (low : List Refuted) (gone kept : List Pair) → AreRanked s terms g f pairs budget top lower low →
      IsRefinedAt s terms g f pairs budget lower top gone kept → known.yes ≡ lower.yes ++ kept → known.no ≡ lower.no ++ gone → minus ≡ low ++ ranked_from 1 gone → k < suc top →
      (k < top → Has lower low k) → (k ≡ top) ⊎ (k ≡ top → ⊥) → Has known minus k
  by_stratum top k known minus lower low gone kept before r a b c lt deeper (inl e) = subst (Has known minus) (sym e) (at_top top known minus lower low gone kept before r a b c)
  by_stratum top k known minus lower low gone kept before r a b c lt deeper (inr ne) =
      let less : k < top = omega (arith, lt, ne) in below_top top known minus lower low gone kept before r a b c k less (deeper less)

  -- what is said of a stratum below the top
  pub records_at : (top : ℕ) (known : Known) (minus : List Refuted) → AreRanked s terms g f pairs budget top known minus → (k : ℕ) → k < top → Has known minus k
  records_at zero known minus h k lt = absurd (let e : k < 0 = lt in omega (arith, e))
  records_at (suc top) known minus (lower, low, gone, kept, before, r, a, b, c) k lt =
      by_stratum top k known minus lower low gone kept before r a b c lt (λ less. records_at top lower low before k less) (cases_eq k top)

-- records that say the same as a refinement say so on each stratum
pub told : (s : Schema) (terms : List Term) (g : List Triple) (f : List ℕ) (pairs : List Pair) (budget : ℕ) (x : Setting) (p : Proof) (known : Known) (minus : List Refuted) (k : ℕ) →
    x.strata ≡ f → HaveSame (yes_of x p) known.yes → ((u : Refuted) → Contains (no_of x p) u ↔ Contains minus u) → (h : HasRecordsAt s terms g f pairs budget known minus k) →
    AreRecordsAt x p k h.lower h.gone
told s terms g f pairs budget x p known minus k is yes_ no_ h = record {
  yes_low = λ q. (
    (λ y. let (c, lt) = (h.yes_low q).0 y in (yes_.1 q c, subst (λ z. level z q.shape < k) (sym is) lt)),
    (λ t. (h.yes_low q).1 (yes_.0 q t.0, subst (λ z. level z q.shape < k) is t.1)),
  );
  no_low = λ q. (
    (λ y. let (c, lt) = (h.no_low q).0 y in (over minus (no_of x p) (λ u. (no_ u).1) q c, subst (λ z. level z q.shape < k) (sym is) lt)),
    (λ t. (h.no_low q).1 (over (no_of x p) minus (λ u. (no_ u).0) q t.0, subst (λ z. level z q.shape < k) is t.1)),
  );
  ranks = λ q r. (
    (λ t. (h.ranks q r).0 ((no_ (record { pair = q; rank = r })).0 t.0, subst (λ z. level z q.shape ≡ k) is t.1)),
    (λ t. let (c, lev) = (h.ranks q r).1 t in ((no_ (record { pair = q; rank = r })).1 c, subst (λ z. level z q.shape ≡ k) (sym is) lev)),
  );
}
  where
    over : (us vs : List Refuted) → ((u : Refuted) → Contains us u → Contains vs u) → (q : Pair) → Contains (pairs_of us) q → Contains (pairs_of vs) q
    over us vs step q c = let (u, inside, e) = from_map (λ z. z.pair) us q c in subst (λ z. Contains (pairs_of vs) z) e (in_map (λ z. z.pair) vs u (step u inside))
