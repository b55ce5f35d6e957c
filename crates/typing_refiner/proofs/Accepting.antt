-- The records of a refinement are accepted.
use Rattle.std.proofs.Common.{◌≡◌, ◌∙◌, ℕ, zero, suc, ◌<◌, ◌+◌, ◌⊎◌, inl, inr, List, [], ◌∷◌, ◌++◌, arith, refl, sym, ap, subst, length, map, take}
use Rattle.std.proofs.lemmas.Bool.{cases_lt}
use Rattle.std.proofs.lemmas.List.{map-append}
use Rattle.std.proofs.lemmas.List.Elements.{Contains-append_cases}
use Rattle.std.specs.Prelude.{Contains, Option, Some, None, option_map, slice_get}
use Rattle.std.specs.List.{AllZip}
use Rattle.lists.proofs.Beside.{beside, beside_back}
use Rattle.lists.proofs.Members.{from_flat_map, from_map, got_in, in_flat_map, in_map, in_one, is_first, not_in_none}
use Rattle.rdf_terms.specs.declared.terms.Term.{Term}
use Rattle.rdf_terms.specs.declared.terms.TermId.{TermId}
use Rattle.rdf_terms.specs.declared.terms.Triple.{Triple}
use Rattle.schema_tree.specs.declared.schema.Pair.{Pair}
use Rattle.schema_tree.specs.declared.schema.Schema.{Schema}
use Rattle.schema_tree.specs.declared.schema.Shape.{Shape}
use Rattle.schema_tree.specs.declared.verdicts.Place.{Place}
use Rattle.schema_tree.specs.declared.verdicts.State.{State}
use Rattle.schema_tree.specs.Edges.{IsStratified, level}
use Rattle.schema_tree.specs.Entries.{shape_at}
use Rattle.schema_tree.specs.Sure.{Known}
use Rattle.schema_tree.specs.Typings.{HaveSame, top_of}
use Rattle.proof_file.specs.declared.Proof.{Proof}
use Rattle.proof_file.specs.declared.Record.{Record}
use Rattle.proof_file.specs.declared.RecordKind.{RecordKind}
use Rattle.proof_file.specs.declared.RecordKind.TheVariants.{Minus, Plus}
use Rattle.proof_file.specs.declared.Section.{Section}
use Rattle.proof_file.specs.Accepts.{IsAccepted, Setting, in_section, no_of, setting_of, yes_of}
use Rattle.proof_file.specs.Views.{Refuted, minus_of, pair_at, pair_with, pairs_of, plus_of, records_of, whole_view}
use Rattle.removal_laws.proofs.Known.{held_at}
use Rattle.removal_laws.specs.Marks.{KnowSame}
use Rattle.typing_refiner.specs.Evidence.{AreRecordsOf, AreRemovals, AreRenumbered, HaveShapes, IsListed, IsSameRecord, Removal, Shows, pairs_removed}
use Rattle.typing_refiner.specs.Laws.{AreRanked, AreRecordsAt, HasRecordsAt, ranked_from}
use Rattle.typing_refiner.specs.Records.{AreLeastFor, AreStatesFor, known_without}
use Rattle.typing_refiner.proofs.Accepted.{minus_accepted, plus_accepted}
use Rattle.typing_refiner.proofs.Ranked.{as_it_was, at_taken}
use Rattle.typing_refiner.proofs.Recorded.{at_top, below_top, gone_level, told}
use Rattle.typing_refiner.proofs.SameStates.{places_same}

-- ---- the ranks of removals

abbrev pub ranks_of : List Removal → List Refuted
ranks_of rs = map (λ r. record { pair = r.pair; rank = r.rank }) rs

ranked_on : (n : ℕ) (gone : List Removal) → ((j : ℕ) (r : Removal) → slice_get gone j ≡ Some r → r.rank ≡ n + j) → ranks_of gone ≡ ranked_from n (pairs_removed gone)
ranked_on n [] turns = refl
ranked_on n (r ∷ rs) turns =
    let here : r.rank ≡ n = (let t = turns 0 r refl in omega (arith, t)) in
    ap (λ k. record { pair = r.pair; rank = k } ∷ ranks_of rs) here
    ∙ ap (λ us. record { pair = r.pair; rank = n } ∷ us) (ranked_on (suc n) rs (λ j x at. let t = turns (suc j) x at in let e : x.rank ≡ suc n + j = omega (arith, t) in e))

pairs_ranked : (rs : List Removal) → pairs_of (ranks_of rs) ≡ pairs_removed rs
pairs_ranked [] = refl
pairs_ranked (r ∷ rs) = ap (λ ps. r.pair ∷ ps) (pairs_ranked rs)

module _ (s : Schema) (terms : List Term) (g : List Triple) (f : List ℕ) (pairs : List Pair) (budget : ℕ) where
  ranked : (k : ℕ) (known : Known) (all : List Removal) → AreRemovals s terms g f pairs budget k known all → AreRanked s terms g f pairs budget k known (ranks_of all)
  ranked zero known all (a, b, c) = (a, b, ap ranks_of c)
  ranked (suc k) known all (lower, low, gone, kept, before, r, turns, a, b, c) = (
    lower,
    ranks_of low,
    pairs_removed gone,
    kept,
    ranked k lower low before,
    r,
    a,
    b,
    ap ranks_of c ∙ (map-append (λ x. record { pair = x.pair; rank = x.rank }) low gone
        ∙ ap (λ us. ranks_of low ++ us) (ranked_on 1 gone (λ j x at. let t = (turns j x at).0 in let e : x.rank ≡ 1 + j = omega (arith, t) in e))),
  )

  pub removed_are : (k : ℕ) (known : Known) (all : List Removal) → AreRemovals s terms g f pairs budget k known all → pairs_removed all ≡ known.no
  removed_are zero known all (a, b, c) = ap pairs_removed c ∙ sym b
  removed_are (suc k) known all (lower, low, gone, kept, before, r, turns, a, b, c) =
      ap pairs_removed c ∙ (map-append (λ x. x.pair) low gone ∙ (ap (λ ps. ps ++ pairs_removed gone) (removed_are k lower low before) ∙ sym b))

  -- what is known of lower strata
  low_pairs : (k : ℕ) (known : Known) (all : List Removal) → AreRemovals s terms g f pairs budget k known all → (q : Pair) → Contains known.yes q ⊎ Contains known.no q → level f q.shape < k
  low_pairs zero known all (a, b, c) q (inl y) = absurd (not_in_none q (subst (λ xs. Contains xs q) a y))
  low_pairs zero known all (a, b, c) q (inr n) = absurd (not_in_none q (subst (λ xs. Contains xs q) b n))
  low_pairs (suc k) known all (lower, low, gone, kept, before, r, turns, a, b, c) q (inl y) = elim (Contains-append_cases lower.yes kept q (subst (λ xs. Contains xs q) a y)) [
    | inl l ↦ (let lt = low_pairs k lower low before q (inl l) in let e : level f q.shape < suc k = omega (arith, lt) in e)
    | inr m ↦ (let is = (r.confirmed q m).0.1 in let e : level f q.shape < suc k = omega (arith, is) in e)
  ]
  low_pairs (suc k) known all (lower, low, gone, kept, before, r, turns, a, b, c) q (inr n) = elim (Contains-append_cases lower.no (pairs_removed gone) q (subst (λ xs. Contains xs q) b n)) [
    | inl l ↦ (let lt = low_pairs k lower low before q (inr l) in let e : level f q.shape < suc k = omega (arith, lt) in e)
    | inr m ↦ (let is = gone_level s terms g f pairs budget lower k (pairs_removed gone) kept r q m in let e : level f q.shape < suc k = omega (arith, is) in e)
  ]

  -- no pair is Yes and No
  apart : (k : ℕ) (known : Known) (all : List Removal) → AreRemovals s terms g f pairs budget k known all → (q : Pair) → Contains known.yes q → ¬ Contains known.no q
  apart zero known all (a, b, c) q y n = not_in_none q (subst (λ xs. Contains xs q) a y)
  apart (suc k) known all (lower, low, gone, kept, before, r, turns, a, b, c) q y n =
      go (Contains-append_cases lower.yes kept q (subst (λ xs. Contains xs q) a y))
      (Contains-append_cases lower.no (pairs_removed gone) q (subst (λ xs. Contains xs q) b n)) (λ v w. apart k lower low before q v w)
    where
      go : Contains lower.yes q ⊎ Contains kept q → Contains lower.no q ⊎ Contains (pairs_removed gone) q → (Contains lower.yes q → Contains lower.no q → ⊥) → ⊥
      go (inl v) (inl w) deeper = deeper v w
      go (inl v) (inr w) deeper =
          let lt = low_pairs k lower low before q (inl v) in let is = gone_level s terms g f pairs budget lower k (pairs_removed gone) kept r q w in omega (arith, lt, is)
      go (inr v) (inl w) deeper = let lt = low_pairs k lower low before q (inr w) in let is = (r.confirmed q v).0.1 in omega (arith, lt, is)
      go (inr v) (inr w) deeper = (r.confirmed q v).1 w

  -- the pairs that have a verdict are of the list
  pub of_list : (k : ℕ) (view : Known) (removals : List Removal) → AreRemovals s terms g f pairs budget k view removals → (q : Pair) → Contains view.yes q ⊎ Contains view.no q → Contains pairs q
  of_list zero view removals (a, b, c) q (inl y) = absurd (not_in_none q (subst (λ xs. Contains xs q) a y))
  of_list zero view removals (a, b, c) q (inr n) = absurd (not_in_none q (subst (λ xs. Contains xs q) b n))
  of_list (suc k) view removals (lower, low, gone, kept, before, r, turns, a, b, c) q (inl y) = elim (Contains-append_cases lower.yes kept q (subst (λ xs. Contains xs q) a y)) [
    | inl l ↦ of_list k lower low before q (inl l)
    | inr m ↦ (r.confirmed q m).0.0
  ]
  of_list (suc k) view removals (lower, low, gone, kept, before, r, turns, a, b, c) q (inr n) = elim (Contains-append_cases lower.no (pairs_removed gone) q (subst (λ xs. Contains xs q) b n)) [
    | inl l ↦ of_list k lower low before q (inr l)
    | inr m ↦ (let (i, at) = held_at (pairs_removed gone) q m in (r.in_turn i q at).0.0.0)
  ]

  abbrev Has : Known → List Refuted → ℕ → Type 0
  Has known minus k = HasRecordsAt s terms g f pairs budget known minus k

  -- the stratum of a removal, with what was known at its moment
  abbrev pub FoundAt : Known → List Removal → ℕ → Removal → Type 0
  FoundAt known all k r =
      (h : Has known (ranks_of all) k) × (j : ℕ) × (slice_get h.gone j ≡ Some r.pair) × (r.rank ≡ suc j)
      × AreStatesFor s terms g (known_without h.lower (take j h.gone)) r.pair.node (shape_at s r.pair.shape) r.states

  pub found : (top : ℕ) (known : Known) (all : List Removal) → AreRemovals s terms g f pairs budget top known all → (r : Removal) → Contains all r → FoundAt known all (level f r.pair.shape) r
  found zero known all (a, b, c) r held = absurd (not_in_none r (subst (λ xs. Contains xs r) c held))
  found (suc top) known all h r held = go h (λ lower low before later. found top lower low before r later)
    where
      go : AreRemovals s terms g f pairs budget (suc top) known all →
          ((lower : Known) (low : List Removal) → AreRemovals s terms g f pairs budget top lower low → Contains low r → FoundAt lower low (level f r.pair.shape) r) →
          FoundAt known all (level f r.pair.shape) r
      go (lower, low, gone, kept, before, refined, turns, a, b, c) deeper = by (Contains-append_cases low gone r (subst (λ xs. Contains xs r) c held))
        where
          parts : AreRanked s terms g f pairs budget (suc top) known (ranks_of all)
          parts = ranked (suc top) known all (lower, low, gone, kept, before, refined, turns, a, b, c)

          is_minus : ranks_of all ≡ ranks_of low ++ ranked_from 1 (pairs_removed gone)
          is_minus =
              ap ranks_of c ∙ (map-append (λ x. record { pair = x.pair; rank = x.rank }) low gone
              ∙ ap (λ us. ranks_of low ++ us) (ranked_on 1 gone (λ j x at. let t = (turns j x at).0 in let e : x.rank ≡ 1 + j = omega (arith, t) in e)))

          by : Contains low r ⊎ Contains gone r → FoundAt known all (level f r.pair.shape) r
          by (inl l) =
              let (h, j, at, rank, states) = deeper lower low before l in
              let less = low_pairs top lower low before r.pair (inr (subst (λ xs. Contains xs r.pair) (removed_are top lower low before) (in_map (λ x. x.pair) low r l))) in (
                below_top s terms g f pairs budget top known (ranks_of all) lower (ranks_of low)
                    (pairs_removed gone) kept (ranked top lower low before) refined a b is_minus (level f r.pair.shape) less h,
                j,
                at,
                rank,
                states,
              )
          by (inr m) =
              let (j, at) = held_at gone r m in
              let inside : slice_get (pairs_removed gone) j ≡ Some r.pair = map_at gone j at in
              let is = gone_level s terms g f pairs budget lower top (pairs_removed gone) kept refined r.pair (got_in (pairs_removed gone) j r.pair inside) in
              subst (λ k. FoundAt known all k r) (sym is) (
                at_top s terms g f pairs budget top known (ranks_of all) lower (ranks_of low) (pairs_removed gone) kept (ranked top lower low before) refined a b is_minus,
                j,
                inside,
                (turns j r at).0,
                (turns j r at).1,
              )
            where
              map_at : (xs : List Removal) (j : ℕ) → slice_get xs j ≡ Some r → slice_get (pairs_removed xs) j ≡ Some r.pair
              map_at [] j at = absurd (let e : None ≡ Some r = at in cc)
              map_at (x ∷ xs) zero at = let e : x ≡ r = (let f : Some x ≡ Some r = at in cc) in ap (λ z. Some z.pair) e
              map_at (x ∷ xs) (suc j) at = map_at xs j at

-- ---- what the records of a proof say

two_pairs : (p q : Pair) → p.node ≡ q.node → p.shape.0 ≡ q.shape.0 → p ≡ q
two_pairs p q n i = ap (λ x. record { node = x; shape = p.shape }) n ∙ ap (λ x. record { node = q.node; shape = record { 0 = x } }) i

one_of : {X : Type 0} (o : Option X) (x y : X) → o ≡ Some x → o ≡ Some y → x ≡ y
one_of o x y a b = let e : Some x ≡ Some y = sym a ∙ b in cc

not_past : {X : Type 0} (xs : List X) (i : ℕ) → i < length xs → slice_get xs i ≡ None → ⊥
not_past [] i lt e = omega (arith, lt)
not_past (y ∷ ys) zero lt e = let f : Some y ≡ None = e in cc
not_past (y ∷ ys) (suc i) lt e = not_past ys i (let k : suc i < suc (length ys) = lt in let l : i < length ys = omega (arith, k) in l) e

is_pair : (lines : List TermId) (node shape : ℕ) (q : Pair) → slice_get lines node ≡ Some q.node → shape ≡ q.shape.0 → pair_at lines node shape ≡ Some q
is_pair lines node shape q at is =
    ap (option_map (pair_with shape)) at ∙ ap (λ x. Some (record { node = q.node; shape = record { 0 = x } })) is

module _ (s : Schema) (terms : List Term) (g : List Triple) (f : List ℕ) (pairs : List Pair) (budget : ℕ) (strat : IsStratified s f) (known : Known) (all : List Removal)
    (refined : AreRemovals s terms g f pairs budget (suc (top_of f)) known all) (nodes : List TermId) (sections : List Section)
    (are : AreRecordsOf s terms g f pairs budget known all nodes sections) (lines : List TermId) (p : Proof) (same : AreRenumbered nodes sections lines p.sections)
    (shapes : HaveShapes s pairs) where
  abbrev Same : Section → Section → Type 0
  Same a b = (a.stratum ≡ b.stratum) × AllZip (IsSameRecord nodes lines) a.records b.records

  abbrev x : Setting
  x = setting_of f s terms g lines

  -- each record is of a pair, and shows its verdict
  abbrev Tells : ℕ → Record → Type 0
  Tells k r = (q : Pair) × (slice_get lines r.node ≡ Some q.node) × (r.shape ≡ q.shape.0) × (level f q.shape ≡ k) × Shows s terms g f pairs budget known all q r.kind

  tells : (k : ℕ) (r : Record) → IsListed p.sections k r → Tells k r
  tells k r (y, held, is, inside) =
      let (a, there, (stratum, zip)) = beside_back Same sections p.sections same y held in
      let (o, among, (n, at, at_line, shape, kind)) = beside_back (IsSameRecord nodes lines) a.records y.records zip r inside in
      let (q, (node_is, shape_is), on, shows) = are.each k o (a, there, stratum ∙ is, among) in
      let e : n ≡ q.node = one_of (slice_get nodes o.node) n q.node at node_is in
      (q, at_line ∙ ap (λ z. Some z) e, sym shape ∙ shape_is, on, subst (Shows s terms g f pairs budget known all q) kind shows)

  -- each pair with a verdict has a record
  abbrev Told : Pair → Type 0
  Told q = (r : Record) × IsListed p.sections (level f q.shape) r × (slice_get lines r.node ≡ Some q.node) × (r.shape ≡ q.shape.0)

  told_of : (q : Pair) → Contains known.yes q ⊎ Contains known.no q → Told q
  told_of q c =
      let (o, (a, there, stratum, among), (node_is, shape_is)) = are.whole q c in
      let (y, held, (is, zip)) = beside Same sections p.sections same a there in
      let (r, inside, (n, at, at_line, shape, kind)) = beside (IsSameRecord nodes lines) a.records y.records zip o among in
      let e : n ≡ q.node = one_of (slice_get nodes o.node) n q.node at node_is in
      (r, (y, held, sym is ∙ stratum, inside), at_line ∙ ap (λ z. Some z) e, sym shape ∙ shape_is)

  -- a record of the pair shows its verdict
  shows_it : (q : Pair) (r : Record) (k : ℕ) → IsListed p.sections k r → slice_get lines r.node ≡ Some q.node → r.shape ≡ q.shape.0 → Shows s terms g f pairs budget known all q r.kind
  shows_it q r k listed at is =
      let (v, at_v, is_v, on, shows) = tells k r listed in
      let e : v ≡ q = two_pairs v q (one_of (slice_get lines r.node) v.node q.node at_v at) (sym is_v ∙ is) in
      subst (λ z. Shows s terms g f pairs budget known all z r.kind) e shows

  gone_no : (r : Removal) → Contains all r → Contains known.no r.pair
  gone_no r c = subst (λ xs. Contains xs r.pair) (removed_are s terms g f pairs budget (suc (top_of f)) known all refined) (in_map (λ z. z.pair) all r c)

  separate : (q : Pair) → Contains known.yes q → Contains known.no q → ⊥
  separate q y n = apart s terms g f pairs budget (suc (top_of f)) known all refined q y n

  among_records : (r : Record) → Contains (records_of p) r → (k : ℕ) × IsListed p.sections k r
  among_records r c = let (y, held, inside) = from_flat_map (λ z. z.records) p.sections r c in (y.stratum, (y, held, refl, inside))

  in_records : (k : ℕ) (r : Record) → IsListed p.sections k r → Contains (records_of p) r
  in_records k r (y, held, is, inside) = in_flat_map (λ z. z.records) p.sections y r held inside

  -- ---- the pairs that are confirmed

  plus_is : (kind : RecordKind) (o : Option Pair) (q : Pair) → Contains (plus_of kind o) q → (places : List Place) × (kind ≡ Plus places) × (o ≡ Some q)
  plus_is (Plus places) (Some v) q c = (places, refl, ap (λ z. Some z) (in_one v q c))
  plus_is (Plus places) None q c = absurd (not_in_none q c)
  plus_is (Minus rank states) o q c = absurd (not_in_none q c)

  has_yes : (q : Pair) → Contains (yes_of x p) q → Contains known.yes q
  has_yes q c =
      let (r, held, inside) = from_flat_map (λ z. plus_of z.kind (pair_at lines z.node z.shape)) (records_of p) q c in
      let (places, kind, at) = plus_is r.kind (pair_at lines r.node r.shape) q inside in
      let (k, listed) = among_records r held in
      let (v, at_v, is_v, on, shows) = tells k r listed in
      let e : v ≡ q = one_of (pair_at lines r.node r.shape) v q (is_pair lines r.node r.shape v at_v is_v) at in
      subst (λ z. Contains known.yes z) e (subst (Shows s terms g f pairs budget known all v) kind shows).0

  is_yes : (q : Pair) → Contains known.yes q → Contains (yes_of x p) q
  is_yes q c =
      let (r, listed, at, is) = told_of q (inl c) in
      in_flat_map (λ z. plus_of z.kind (pair_at lines z.node z.shape)) (records_of p) r q (in_records (level f q.shape) r listed)
      (subst (λ o. Contains (plus_of r.kind o) q) (sym (is_pair lines r.node r.shape q at is)) (by r.kind (shows_it q r (level f q.shape) listed at is)))
    where
      by : (kind : RecordKind) → Shows s terms g f pairs budget known all q kind → Contains (plus_of kind (Some q)) q
      by (Plus places) h = is_first q []
      by (Minus rank states) h = absurd (separate q c (gone_no (record { pair = q; rank = rank; states = states }) h))

  -- ---- the pairs that are refuted

  minus_is : (kind : RecordKind) (o : Option Pair) (u : Refuted) → Contains (minus_of kind o) u → (rank : ℕ) × (states : List State) × (kind ≡ Minus rank states) × (o ≡ Some u.pair) × (u.rank ≡ rank)
  minus_is (Minus rank states) (Some v) u c =
      let e : record { pair = v; rank = rank } ≡ u = in_one (record { pair = v; rank = rank }) u c in (rank, states, refl, ap (λ z. Some z.pair) e, sym (ap (λ z. z.rank) e))
  minus_is (Minus rank states) None u c = absurd (not_in_none u c)
  minus_is (Plus places) o u c = absurd (not_in_none u c)

  has_no : (u : Refuted) → Contains (no_of x p) u → Contains (ranks_of all) u
  has_no u c =
      let (r, held, inside) = from_flat_map (λ z. minus_of z.kind (pair_at lines z.node z.shape)) (records_of p) u c in
      let (rank, states, kind, at, same_rank) = minus_is r.kind (pair_at lines r.node r.shape) u inside in
      let (k, listed) = among_records r held in
      let (v, at_v, is_v, on, shows) = tells k r listed in
      let e : v ≡ u.pair = one_of (pair_at lines r.node r.shape) v u.pair (is_pair lines r.node r.shape v at_v is_v) at in
      let gone : Contains all (record { pair = v; rank = rank; states = states }) = subst (Shows s terms g f pairs budget known all v) kind shows in
      subst (λ z. Contains (ranks_of all) z) (ap (λ z. record { pair = z; rank = rank }) e ∙ ap (λ z. record { pair = u.pair; rank = z }) (sym same_rank))
      (in_map (λ z. record { pair = z.pair; rank = z.rank }) all (record { pair = v; rank = rank; states = states }) gone)

  -- a pair goes once
  once : (k : ℕ) (h : HasRecordsAt s terms g f pairs budget known (ranks_of all) k) (q : Pair) (i j : ℕ) → slice_get h.gone i ≡ Some q → slice_get h.gone j ≡ Some q → i ≡ j
  once k h q i j at_i at_j = elim (cases_lt i j) [
    | inl lt ↦ absurd ((h.refined.in_turn j q at_j).0.1 (at_taken h.gone j i q at_i lt))
    | inr ge ↦ (elim (cases_lt j i) [
      | inl lt ↦ absurd ((h.refined.in_turn i q at_i).0.1 (at_taken h.gone i j q at_j lt))
      | inr le ↦ (let e : i ≡ j = omega (arith, ge, le) in e)
    ])
  ]

  one_rank : (a b : Removal) → Contains all a → Contains all b → a.pair ≡ b.pair → a.rank ≡ b.rank
  one_rank a b held_a held_b is =
      let (h, i, at_i, rank_i, states_i) = found s terms g f pairs budget (suc (top_of f)) known all refined a held_a in
      let (j, at_j, rank_j) = (h.ranks b.pair b.rank).0 (
        in_map (λ z. record { pair = z.pair; rank = z.rank }) all b held_b,
        ap (λ (z : Pair). level f z.shape) (sym is),
      ) in
      let e : i ≡ j = once (level f a.pair.shape) h b.pair i j (at_i ∙ ap (λ z. Some z) is) at_j in
      let r : a.rank ≡ b.rank = omega (arith, rank_i, rank_j, e) in r

  is_no : (u : Refuted) → Contains (ranks_of all) u → Contains (no_of x p) u
  is_no u c =
      let (o, held, e) = from_map (λ z. record { pair = z.pair; rank = z.rank }) all u c in
      let (r, listed, at, is) = told_of o.pair (inr (gone_no o held)) in
      in_flat_map (λ z. minus_of z.kind (pair_at lines z.node z.shape)) (records_of p) r u (in_records (level f o.pair.shape) r listed)
      (subst (λ z. Contains (minus_of r.kind z) u) (sym (is_pair lines r.node r.shape o.pair at is)) (by o held e r.kind (shows_it o.pair r (level f o.pair.shape) listed at is)))
    where
      by : (o : Removal) → Contains all o → record { pair = o.pair; rank = o.rank } ≡ u → (kind : RecordKind) →
          Shows s terms g f pairs budget known all o.pair kind → Contains (minus_of kind (Some o.pair)) u
      by o held e (Plus places) h = absurd (separate o.pair h.0 (gone_no o held))
      by o held e (Minus rank states) h =
          let same_rank : rank ≡ o.rank = one_rank (record { pair = o.pair; rank = rank; states = states }) o h held refl in
          subst (λ z. Contains (record { pair = o.pair; rank = rank } ∷ []) z) (ap (λ z. record { pair = o.pair; rank = z }) same_rank ∙ e) (is_first (record { pair = o.pair; rank = rank }) [])

  -- ---- all are accepted

  yes_same : HaveSame (yes_of x p) known.yes
  yes_same = (has_yes, is_yes)

  whole_same : KnowSame known (whole_view (yes_of x p) (no_of x p))
  whole_same = ((is_yes, has_yes), (to_no, from_no))
    where
      to_no : (q : Pair) → Contains known.no q → Contains (pairs_of (no_of x p)) q
      to_no q c =
          let (r, held, e) = from_map (λ z. z.pair) all q (subst (λ xs. Contains xs q) (sym (removed_are s terms g f pairs budget (suc (top_of f)) known all refined)) c) in
          subst (λ z. Contains (pairs_of (no_of x p)) z) e
          (in_map (λ z. z.pair) (no_of x p) (record { pair = r.pair; rank = r.rank }) (is_no (record { pair = r.pair; rank = r.rank }) (in_map (λ z. record { pair = z.pair; rank = z.rank }) all r held)))

      from_no : (q : Pair) → Contains (pairs_of (no_of x p)) q → Contains known.no q
      from_no q c =
          let (u, held, e) = from_map (λ z. z.pair) (no_of x p) q c in
          let (r, gone, same_) = from_map (λ z. record { pair = z.pair; rank = z.rank }) all u (has_no u held) in
          subst (λ z. Contains known.no z) (ap (λ z. z.pair) same_ ∙ e) (gone_no r gone)

  with_verdict : (q : Pair) → Contains known.yes q ⊎ Contains known.no q → (sh : Shape) × (shape_at s q.shape ≡ Some sh)
  with_verdict q c =
      let inside = shapes q (of_list s terms g f pairs budget (suc (top_of f)) known all refined q c) in
      by (slice_get s.shapes q.shape.0) refl inside
    where
      by : (o : Option Shape) → slice_get s.shapes q.shape.0 ≡ o → q.shape.0 < length s.shapes → (sh : Shape) × (shape_at s q.shape ≡ Some sh)
      by (Some sh) e inside = (sh, e)
      by None e inside = absurd (not_past s.shapes q.shape.0 inside e)

  pub accepted : (k : ℕ) (r : Record) → IsListed p.sections k r → IsAccepted x p (in_section k r)
  accepted k r listed =
      let (q, at, is, on, shows) = tells k r listed in by q at is on r.kind refl shows
    where
      the_record : (kind : RecordKind) → r.kind ≡ kind → record { node = r.node; shape = r.shape; kind = kind } ≡ r
      the_record kind e = ap (λ z. record { node = r.node; shape = r.shape; kind = z }) (sym e)

      by : (q : Pair) → slice_get lines r.node ≡ Some q.node → r.shape ≡ q.shape.0 → level f q.shape ≡ k → (kind : RecordKind) → r.kind ≡ kind → Shows s terms g f pairs budget known all q r.kind →
          IsAccepted x p (in_section k r)
      by q at is on (Plus places) e shows =
          let h : Contains known.yes q × AreLeastFor s terms g known q.node (shape_at s q.shape) places = subst (Shows s terms g f pairs budget known all q) e shows in
          let (sh, there) = with_verdict q (inl h.0) in
          let least = places_same s terms g known (whole_view (yes_of x p) (no_of x p)) q places whole_same h.1 in
          let here : slice_get s.shapes r.shape ≡ Some sh = ap (slice_get s.shapes) is ∙ there in
          subst (λ z. IsAccepted x p (in_section k z)) (the_record (Plus places) e)
          (subst (λ z. IsAccepted x p (in_section z (record { node = r.node; shape = r.shape; kind = Plus places }))) (ap (λ z. level f (record { 0 = z })) is ∙ on)
          (plus_accepted x p strat r.node r.shape q.node sh at here places
          (subst (λ o. AreLeastFor s terms g (whole_view (yes_of x p) (no_of x p)) q.node o places) there least)))
      by q at is on (Minus rank states) e shows =
          let held : Contains all (record { pair = q; rank = rank; states = states }) = subst (Shows s terms g f pairs budget known all q) e shows in
          let (sh, there) = with_verdict q (inr (gone_no (record { pair = q; rank = rank; states = states }) held)) in
          let here : slice_get s.shapes r.shape ≡ Some sh = ap (slice_get s.shapes) is ∙ there in
          let (h, j, at_j, rank_j, listed_states) = found s terms g f pairs budget (suc (top_of f)) known all refined (record { pair = q; rank = rank; states = states }) held in
          let level_is : level f (record { 0 = r.shape }) ≡ level f q.shape = ap (λ z. level f (record { 0 = z })) is in
          let records = subst (λ z. AreRecordsAt x p z h.lower h.gone) (sym level_is)
          (told s terms g f pairs budget x p known (ranks_of all) (level f q.shape) refl yes_same (λ u. (has_no u, is_no u)) h) in
          subst (λ z. IsAccepted x p (in_section k z)) (the_record (Minus rank states) e)
          (subst (λ z. IsAccepted x p (in_section z (record { node = r.node; shape = r.shape; kind = Minus rank states }))) (level_is ∙ on)
          (subst (λ z. IsAccepted x p (in_section (level f (record { 0 = r.shape })) (record { node = r.node; shape = r.shape; kind = Minus z states }))) (sym rank_j)
          (minus_accepted x p strat r.node r.shape q.node sh at here (suc j) (known_without h.lower (take j h.gone)) states
          (as_it_was f (level f (record { 0 = r.shape })) (yes_of x p) (no_of x p) h.lower h.gone records.yes_low records.no_low records.ranks j)
          (subst (λ o. AreStatesFor s terms g (known_without h.lower (take j h.gone)) q.node o states) there listed_states))))
