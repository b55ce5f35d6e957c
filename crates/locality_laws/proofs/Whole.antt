-- Refinements of pairs that have all that they need, themselves or by what is known of others, say the same of the pairs of both.
use Rattle.std.proofs.Common.{◌≡◌, ℕ, zero, suc, ◌<◌, ◌≤◌, ◌⊎◌, inl, inr, List, [], ◌∷◌, ◌++◌, refl, arith, sym, subst}
use Rattle.std.proofs.lemmas.Bool.{cases_lt}
use Rattle.std.proofs.lemmas.List.Elements.{Contains-append_right}
use Rattle.std.specs.Prelude.{Contains}
use Rattle.lists.proofs.Decided.{Decided, decide_member}
use Rattle.lists.proofs.Members.{not_in_none}
use Rattle.rdf_terms.specs.declared.terms.Term.{Term}
use Rattle.rdf_terms.specs.declared.terms.Triple.{Triple}
use Rattle.schema_tree.specs.declared.schema.Pair.{Pair}
use Rattle.schema_tree.specs.declared.schema.Schema.{Schema}
use Rattle.schema_tree.specs.declared.verdicts.Verdict.{Verdict}
use Rattle.schema_tree.specs.declared.verdicts.Verdict.TheVariants.{No, Unknown, Yes}
use Rattle.schema_tree.specs.Edges.{Edge, level}
use Rattle.schema_tree.specs.Needs.{HoldNeeds, Needs}
use Rattle.schema_tree.specs.Removal.{IsRefinedAt}
use Rattle.schema_tree.specs.Sure.{Known, PairIs}
use Rattle.schema_tree.specs.Typings.{top_of}
use Rattle.schema_tree.proofs.Decide.{same_pairs}
use Rattle.removal_laws.specs.Marks.{known_by, marked, outside}
use Rattle.removal_laws.proofs.Known.{from_outside, to_outside}
use Rattle.locality_laws.specs.Laws.{RefinementIsLocal, RefinementOverKeptIsLocal, RefinementOverOthersIsLocal}
use Rattle.locality_laws.specs.Local.{AreKept, AreRefinedOn, IsNegativeNeed, IsOfOthers, IsVerdict}
use Rattle.locality_laws.proofs.Alike.{SameOn, both_unknown, by_members, one_verdict, raised, same_through, same_turned, some_verdict}
use Rattle.locality_laws.proofs.Refined.{by_lists, from_nothing, other_stratum, others_same, still_unknown}
use Rattle.locality_laws.proofs.Stratum.{IsKnownBefore, IsLow, IsOfBoth, stratum_alike}

-- what is needed of a pair of X that is none of X is of no higher stratum, and of a lower one by a negative edge; nothing is
-- known before Y is refined
module _ (s : Schema) (terms : List Term) (g : List Triple) (f : List ℕ) (budget : ℕ) (X Y : List Pair) (fx fy : Known) (new_fx : IsOfOthers X fx)
    (new_fy : (q : Pair) → PairIs fy q Unknown) (closed : HoldNeeds s g Y)
    (no_higher : (p q : Pair) → Contains X p → Needs s g p q → ¬ Contains X q → level f q.shape ≤ level f p.shape)
    (falls : (p q : Pair) → Contains X p → (n : Needs s g p q) → IsNegativeNeed n → ¬ Contains X q → level f q.shape < level f p.shape) where
  -- what is known of others below the stratum k is what refinement of Y comes to
  abbrev pub Outer : ℕ → Known → Type 0
  Outer k ky = (p q : Pair) → Contains X p → Contains Y p → Needs s g p q → ¬ Contains X q → level f q.shape < k → SameOn fx ky q

  module _ (k : ℕ) (kx ky lx ly : Known) (gone_x kept_x gone_y kept_y : List Pair) (before_x : AreRefinedOn s terms g f X budget fx k lx)
      (before_y : AreRefinedOn s terms g f Y budget fy k ly) (rx : IsRefinedAt s terms g f X budget lx k gone_x kept_x)
      (ry : IsRefinedAt s terms g f Y budget ly k gone_y kept_y) (mid_x : (q : Pair) → SameOn (raised lx kept_x gone_x) kx q)
      (mid_y : (q : Pair) → SameOn (raised ly kept_y gone_y) ky q) (outer : Outer (suc k) ky)
      (lower : (q : Pair) → Contains X q → Contains Y q → SameOn lx ly q) where
    -- of a pair of another stratum nothing changes
    past_x : (q : Pair) → ¬ (level f q.shape ≡ k) → SameOn lx kx q
    past_x q apart = same_through lx (raised lx kept_x gone_x) kx q (other_stratum s terms g f budget X lx k gone_x kept_x rx q apart) (mid_x q)

    pub past_y : (q : Pair) → ¬ (level f q.shape ≡ k) → SameOn ly ky q
    past_y q apart = same_through ly (raised ly kept_y gone_y) ky q (other_stratum s terms g f budget Y ly k gone_y kept_y ry q apart) (mid_y q)

    apart_below : (q : Pair) → level f q.shape < k → ¬ (level f q.shape ≡ k)
    apart_below q lt e = omega (arith, lt, e)

    new_x : (q : Pair) → Contains X q → k ≤ level f q.shape → PairIs lx q Unknown
    new_x q xq le = still_unknown s terms g f budget X fx k lx before_x q le (new_fx q xq)

    new_y : (q : Pair) → k ≤ level f q.shape → PairIs ly q Unknown
    new_y q le = still_unknown s terms g f budget Y fy k ly before_y q le (new_fy q)

    -- of a pair that is none of X
    from_first : (q : Pair) → ¬ Contains X q → SameOn lx fx q
    from_first q none = same_turned fx lx q (others_same s terms g f budget X fx k lx before_x q none)

    outer_low : (p q : Pair) → Contains X p → Contains Y p → Needs s g p q → ¬ Contains X q → level f q.shape < k → SameOn lx ly q
    outer_low p q xp yp n none lt =
        same_through lx fx ly q (from_first q none)
        (same_through fx ky ly q (outer p q xp yp n none (omega (arith, lt))) (same_turned ly ky q (past_y q (apart_below q lt))))

    outer_here : (p q : Pair) → Contains X p → Contains Y p → Needs s g p q → ¬ Contains X q → level f q.shape ≡ k → SameOn lx (raised ly kept_y gone_y) q
    outer_here p q xp yp n none eq =
        same_through lx fx (raised ly kept_y gone_y) q (from_first q none)
        (same_through fx ky (raised ly kept_y gone_y) q (outer p q xp yp n none (omega (arith, eq))) (same_turned (raised ly kept_y gone_y) ky q (mid_y q)))

    abbrev Low : Pair → Type 0
    Low q = IsLow s terms g f budget k X Y lx ly gone_x kept_x gone_y kept_y q

    abbrev OfBoth : Pair → Type 0
    OfBoth q = IsOfBoth s terms g f budget k X Y lx ly gone_x kept_x gone_y kept_y q

    abbrev KnownBefore : Pair → Type 0
    KnownBefore q = IsKnownBefore s terms g f budget k X Y lx ly gone_x kept_x gone_y kept_y q

    of_both : (q : Pair) → Contains X q → Contains Y q → Low q ⊎ OfBoth q
    of_both q xq yq = elim (cases_lt (level f q.shape) k) [
      | inl lt ↦ inl (lt, lower q xq yq)
      | inr ge ↦ inr (xq, yq, ge)
    ]

    kind : (p q : Pair) → Contains X p → Contains Y p → level f p.shape ≡ k → Needs s g p q → Low q ⊎ (OfBoth q ⊎ KnownBefore q)
    kind p q xp yp lev n = by (decide_member same_pairs X q)
      where
        by : Decided (Contains X q) → Low q ⊎ (OfBoth q ⊎ KnownBefore q)
        by (inl xq) = elim (of_both q xq (closed p q yp n)) [ inl l ↦ inl l | inr b ↦ inr (inl b) ]
        by (inr none) = elim (cases_lt (level f q.shape) k) [
          | inl lt ↦ inl (lt, outer_low p q xp yp n none lt)
          | inr ge ↦ (let le = no_higher p q xp n none in
              let eq : level f q.shape ≡ k = omega (arith, ge, le, lev) in
              inr (inr (none, eq, outer_here p q xp yp n none eq)))
        ]

    firm : (p q : Pair) → Contains X p → Contains Y p → level f p.shape ≡ k → (n : Needs s g p q) → IsNegativeNeed n → Low q ⊎ OfBoth q
    firm p q xp yp lev n negative = by (decide_member same_pairs X q)
      where
        by : Decided (Contains X q) → Low q ⊎ OfBoth q
        by (inl xq) = of_both q xq (closed p q yp n)
        by (inr none) =
            let l = falls p q xp n negative none in
            let lt : level f q.shape < k = omega (arith, l, lev) in
            inl (lt, outer_low p q xp yp n none lt)

    pub step_alike : AreRefinedOn s terms g f X budget fx (suc k) kx → AreRefinedOn s terms g f Y budget fy (suc k) ky → (q : Pair) → Contains X q → Contains Y q → SameOn kx ky q
    step_alike ax ay q xq yq = elim (cases_lt (level f q.shape) k) [
      | inl lt ↦ same_through kx lx ky q (same_turned lx kx q (past_x q (apart_below q lt))) (same_through lx ly ky q (lower q xq yq) (past_y q (apart_below q lt)))
      | inr ge ↦ elim (cases_lt k (level f q.shape)) [
        | inl above ↦
            both_unknown kx ky q (still_unknown s terms g f budget X fx (suc k) kx ax q above (new_fx q xq)) (still_unknown s terms g f budget Y fy (suc k) ky ay q above (new_fy q))
        | inr le ↦ same_through kx (raised lx kept_x gone_x) ky q (same_turned (raised lx kept_x gone_x) kx q (mid_x q))
            (same_through (raised lx kept_x gone_x) (raised ly kept_y gone_y) ky q
            (stratum_alike s terms g f budget k X Y lx ly gone_x kept_x gone_y kept_y rx ry new_x new_y kind firm q xq yq (omega (arith, ge, le))) (mid_y q))
      ]
    ]

  pub alike_below : (k : ℕ) (kx ky : Known) → AreRefinedOn s terms g f X budget fx k kx → AreRefinedOn s terms g f Y budget fy k ky → Outer k ky →
      (q : Pair) → Contains X q → Contains Y q → SameOn kx ky q
  alike_below zero kx ky ax ay outer q xq yq =
      both_unknown kx ky q (still_unknown s terms g f budget X fx zero kx ax q (omega arith) (new_fx q xq)) (still_unknown s terms g f budget Y fy zero ky ay q (omega arith) (new_fy q))
  alike_below (suc k) kx ky (lx, gone_x, kept_x, before_x, rx, yes_x, no_x) (ly, gone_y, kept_y, before_y, ry, yes_y, no_y) outer q xq yq =
      let mid_x : (u : Pair) → SameOn (raised lx kept_x gone_x) kx u = by_lists (raised lx kept_x gone_x) kx (sym yes_x) (sym no_x) in
      let mid_y : (u : Pair) → SameOn (raised ly kept_y gone_y) ky u = by_lists (raised ly kept_y gone_y) ky (sym yes_y) (sym no_y) in
      step_alike k kx ky lx ly gone_x kept_x gone_y kept_y before_x before_y rx ry mid_x mid_y outer
      (alike_below k lx ly before_x before_y (λ p u xp yp n none lt.
      same_through fx ky ly u (outer p u xp yp n none (omega (arith, lt)))
      (same_turned ly ky u (same_through ly (raised ly kept_y gone_y) ky u
      (other_stratum s terms g f budget Y ly k gone_y kept_y ry u (λ e. omega (arith, lt, e))) (mid_y u)))))
      (lx, gone_x, kept_x, before_x, rx, yes_x, no_x) (ly, gone_y, kept_y, before_y, ry, yes_y, no_y) q xq yq

-- ---- the laws

abbrev nothing : Known
nothing = record { yes = []; no = [] }

unknown_by_nothing : (q : Pair) → PairIs nothing q Unknown
unknown_by_nothing q = (not_in_none q, not_in_none q)

pub closed_local : RefinementIsLocal
closed_local s terms g f budget pairs all known whole closed_pairs closed_all refined refined_all p held held_all v =
    alike_below s terms g f budget pairs all nothing nothing (λ q c. unknown_by_nothing q) unknown_by_nothing closed_all
    (λ u q c n none. absurd (none (closed_pairs u q c n))) (λ u q c n negative none. absurd (none (closed_pairs u q c n))) (suc (top_of f)) known whole
    (from_nothing s terms g f budget pairs (suc (top_of f)) known refined) (from_nothing s terms g f budget all (suc (top_of f)) whole refined_all)
    (λ u q c d n none lt. absurd (none (closed_pairs u q c n))) p held held_all v

-- a need is along an edge, which is negative where the need is by a negative edge
abbrev pub edge_of : (s : Schema) (g : List Triple) (p q : Pair) → Needs s g p q → Edge s p.shape q.shape
edge_of s g p q n = record { shape = n.shape; is = n.is; occ = n.occ; of = n.of; sign = n.sign; stands = n.stands }

pub others_local : RefinementOverOthersIsLocal
others_local s terms g f budget pairs first known strat fresh kept refined p v held is all whole distinct closed held_all refined_all =
    (alike_below s terms g f budget pairs all first nothing fresh unknown_by_nothing closed (λ u q c n none. strat.never_rises u.shape q.shape (edge_of s g u q n))
    (λ u q c n negative none. strat.falls u.shape q.shape (edge_of s g u q n) negative) (suc (top_of f)) known whole refined
    (from_nothing s terms g f budget all (suc (top_of f)) whole refined_all) outer p held held_all v).0 is
  where
    -- what is known of a pair that is needed is its verdict, and so it is all that is known
    says : (q : Pair) → Contains all q → ((w : Verdict) → PairIs first q w → IsVerdict s terms g f budget q w) → SameOn first whole q
    says q c verdicts w = (
      (λ h. verdicts w h all whole distinct closed c refined_all),
      (λ h. (let (u, k) = some_verdict first q in
          subst (λ x. PairIs first q x) (one_verdict whole q u w (verdicts u k all whole distinct closed c refined_all) h) k)),
    )

    outer : (u q : Pair) → Contains pairs u → Contains all u → Needs s g u q → ¬ Contains pairs q → level f q.shape < suc (top_of f) → SameOn first whole q
    outer u q c d n none lt = elim (kept u q c n) [
      | inl h ↦ absurd (none h)
      | inr verdicts ↦ says q (closed u q d n) verdicts
    ]

-- no pair has a mark of none
none_marked : (v : Verdict) (pairs : List Pair) → marked v pairs [] ≡ []
none_marked v [] = refl
none_marked v (p ∷ ps) = refl

module _ (kept : Known) (pairs : List Pair) where
  abbrev first : Known
  first = known_by kept pairs []

  to_kept : (v : Verdict) (others : List Pair) (q : Pair) → Contains (marked v pairs [] ++ outside pairs others) q → Contains others q × (¬ Contains pairs q)
  to_kept v others q c = to_outside pairs others q (subst (λ xs. Contains (xs ++ outside pairs others) q) (none_marked v pairs) c)

  from_kept : (v : Verdict) (others : List Pair) (q : Pair) → ¬ Contains pairs q → Contains others q → Contains (marked v pairs [] ++ outside pairs others) q
  from_kept v others q none c = Contains-append_right (marked v pairs []) (outside pairs others) q (from_outside pairs others q c none)

  first_fresh : IsOfOthers pairs first
  first_fresh q c = ((λ h. (to_kept Yes kept.yes q h).1 c), (λ h. (to_kept No kept.no q h).1 c))

  first_same : (q : Pair) → ¬ Contains pairs q → SameOn first kept q
  first_same q none =
      by_members first kept q ((λ h. (to_kept Yes kept.yes q h).0), from_kept Yes kept.yes q none) ((λ h. (to_kept No kept.no q h).0), from_kept No kept.no q none)

  module _ (s : Schema) (terms : List Term) (g : List Triple) (f : List ℕ) (budget : ℕ) where
    first_kept : AreKept s terms g f budget kept pairs → AreKept s terms g f budget first pairs
    first_kept h p q c n = elim (h p q c n) [
      | inl held ↦ inl held
      | inr verdicts ↦ by verdicts (decide_member same_pairs pairs q)
    ]
      where
        by : ((v : Verdict) → PairIs kept q v → IsVerdict s terms g f budget q v) → Decided (Contains pairs q) →
            Contains pairs q ⊎ ((v : Verdict) → PairIs first q v → IsVerdict s terms g f budget q v)
        by verdicts (inl held) = inl held
        by verdicts (inr none) = inr (λ v is. verdicts v ((first_same q none v).0 is))

pub kept_local : RefinementOverKeptIsLocal
kept_local s terms g f budget pairs kept known strat are refined =
    others_local s terms g f budget pairs (first kept pairs) known strat (first_fresh kept pairs) (first_kept kept pairs s terms g f budget are) refined
