-- From counts that spell copies to a division into parts that match.
use Rattle.std.proofs.Common.{◌≡◌, ℕ, suc, ◌+◌, ◌≤◌, inl, inr, List, [], ◌∷◌, ◌++◌, refl, sym, ap, ◌∙◌, Bool, true, false, cond, not, length, map, true≢false, length-append, filter}
use Rattle.std.proofs.lemmas.Bool.{eqb-true, not_from_false}
use Rattle.std.proofs.lemmas.List.{length-map}
use Rattle.std.proofs.lemmas.List.Concat.{flat_map-append}
use Rattle.std.proofs.lemmas.List.Sorted.{IsPermutation-refl, IsPermutation-trans, IsPermutation-append, IsPermutation-cons, IsPermutation-filter_both}
use Rattle.std.specs.Prelude.{nat_eq, ◌||◌}
use Rattle.std.specs.List.{AllByRecursion}
use Rattle.std.specs.List.Sorted.{IsPermutation}
use Rattle.tally.proofs.CopyLaws.{copies_agree, each_agree, one_agree}
use Rattle.tally.proofs.Dealt.{times, times_count, other_absent, dealt_copies}
use Rattle.lists.proofs.Joined.{all_flat, flat, flat_of_maps}
use Rattle.lists.proofs.Quantifiers.{all_weaker, all_append, all_map, all_both}
use Rattle.lists.proofs.Filters.{all_passing}
use Rattle.lists.proofs.Tests.{other_passes}
use Rattle.tally.proofs.Groupings.{Rows, group_in, no_rows, zip_rows}
use Rattle.tally.specs.declared.Bound.{Bound}
use Rattle.tally.specs.Plan.{Plan, sym as symbol, each, one, many, Plans, no_plans, more_plans}
use Rattle.tally.specs.Copies.{Copies, CopiesEach, CopiesOne, Fills}
use Rattle.tally.specs.Deals.{DealsInto, HaveCounts, IsUpTo, Matches, MatchesEach, MatchesOne}
use Rattle.tally.specs.Span.{IsSound, AreSound}
use Rattle.tally.specs.Symbols.{has_symbol, some_has, IsDistinct, AreDistinct}

-- a filter keeps the counts of what it keeps
times_filter : (keep : ℕ → Bool) (ss : List ℕ) (i : ℕ) → keep i ≡ true → times (filter keep ss) i ≡ times ss i
times_filter keep [] i k = refl
times_filter keep (s ∷ ss) i k = go (keep s) refl (nat_eq i s) refl (times_filter keep ss i k)
  where
    go : (b : Bool) → keep s ≡ b → (e : Bool) → nat_eq i s ≡ e → times (filter keep ss) i ≡ times ss i →
        times (cond b (s ∷ filter keep ss) (filter keep ss)) i ≡ cond e (suc (times ss i)) (times ss i)
    go true is true same r = rw (same, r)
    go true is false same r = rw (same, r)
    go false is true same r = absurd (true≢false (sym k ∙ ap keep (eqb-true i s same) ∙ is))
    go false is false same r = r

-- each of equal symbols is a part
singles :
    (i : ℕ) (ss : List ℕ) → AllByRecursion (λ s. has_symbol s (symbol i) ≡ true) ss →
    DealsInto (Matches (symbol i)) (times ss i) ss
unfolding Matches
singles i [] w = record { parts = []; many = refl; deals = IsPermutation-refl []; all = tt }
singles i (s ∷ ss) w =
    let r = singles i ss w.1 in
    let same : i ≡ s = eqb-true i s w.0 in
    record {
      parts = (s ∷ []) ∷ r.parts;
      many = (let test : nat_eq i s ≡ true = w.0 in rw (test, r.many) refl);
      deals = IsPermutation-cons s ss (flat r.parts) r.deals;
      all = (ap (λ j. j ∷ []) (sym same), r.all);
    }

-- the symbols of one member, and those of the rest
record Divided (has others : ℕ → Bool) (ss : List ℕ) : Type 0 where
  pub own : List ℕ
  pub rest : List ℕ
  pub deals : IsPermutation ss (own ++ rest)
  pub own_within : AllByRecursion (λ s. has s ≡ true) own
  pub rest_within : AllByRecursion (λ s. others s ≡ true) rest
  pub own_count : (i : ℕ) → has i ≡ true → times ss i ≡ times own i
  pub rest_count : (i : ℕ) → has i ≡ false → times ss i ≡ times rest i

divide :
    (has others : ℕ → Bool) (ss : List ℕ) → AllByRecursion (λ s. has s || others s ≡ true) ss →
    Divided has others ss
divide has others ss w = record {
  own = filter has ss;
  rest = filter (λ s. not (has s)) ss;
  deals = IsPermutation-filter_both has (λ s. not (has s)) (λ x. refl) ss;
  own_within = all_passing (λ s. has s || others s ≡ true) (λ s. has s ≡ true) has (λ s e o. e) ss w;
  rest_within = all_passing (λ s. has s || others s ≡ true) (λ s. others s ≡ true) (λ s. not (has s))
      (λ s e o. other_passes (has s) (others s) o e) ss w;
  own_count = λ i e. sym (times_filter has ss i e);
  rest_count = λ i e. sym (times_filter (λ j. not (has j)) ss i (not_from_false (has i) e));
}

row_part : (ms : Plans) (row : List (List ℕ)) → MatchesEach ms row → Matches (each ms) (flat row)
unfolding Matches
row_part ms row h = (row, IsPermutation-refl (flat row), h)

group_part :
    (low : ℕ) (bound : Bound) (p : Plan) (group : List (List ℕ)) → low ≤ length group →
    IsUpTo (length group) bound →
    AllByRecursion (λ part. Matches p part) group → Matches (many low bound p) (flat group)
unfolding Matches
group_part low bound p group least most h = (group, least, most, IsPermutation-refl (flat group), h)

none_within : (ss : List ℕ) → AllByRecursion (λ s. false ≡ true) ss → ss ≡ []
none_within [] h = refl
none_within (s ∷ ss) h = absurd (true≢false (sym h.0))

mutual
  unfolding Copies IsDistinct IsSound Matches

  -- symbols whose counts spell k copies divide into k parts that match
  copies_dealt :
      (p : Plan) → IsDistinct p → IsSound p → (k : ℕ) (ss : List ℕ) →
      AllByRecursion (λ s. has_symbol s p ≡ true) ss →
      Copies p (times ss) k → DealsInto (Matches p) k ss
  copies_dealt (symbol i) apart sound k ss w c =
      (let r = singles i ss w in record { parts = r.parts; many = r.many ∙ c; deals = r.deals; all = r.all })
  copies_dealt (each ms) apart sound k ss w c =
      (let r = rows_of ms apart sound k ss w c in
      record {
        parts = map flat r.rows;
        many = length-map r.rows flat ∙ r.many;
        deals = rw (flat_of_maps r.rows) r.deals;
        all = all_map (MatchesEach ms) (Matches (each ms)) flat (λ row m. row_part ms row m) r.rows r.all;
      })
  copies_dealt (one ms) apart sound k ss w c = one_of ms apart sound k ss w c
  copies_dealt (many low bound p) apart (ord, sound) k ss w (j, fills, c) =
      (let r = copies_dealt p apart sound j ss w c in
      let filled : Fills low bound k (length r.parts) = rw r.many fills in
      let gs = group_in low bound ord k r.parts filled in
      let each_all = all_flat (Matches p) gs.groups (rw gs.is r.all) in
      record {
        parts = map flat gs.groups;
        many = length-map gs.groups flat ∙ gs.many;
        deals = rw (flat_of_maps gs.groups, gs.is) r.deals;
        all = all_map (λ gr. ((low ≤ length gr) × IsUpTo (length gr) bound) × AllByRecursion (Matches p) gr)
            (Matches (many low bound p)) flat
            (λ gr m. group_part low bound p gr m.0.0 m.0.1 m.1) gs.groups
            (all_both _ _ gs.groups gs.sizes each_all);
      })

  rows_of :
      (ms : Plans) → AreDistinct ms → AreSound ms → (k : ℕ) (ss : List ℕ) →
      AllByRecursion (λ s. some_has s ms ≡ true) ss →
      CopiesEach ms (times ss) k → Rows (MatchesEach ms) k ss
  rows_of no_plans apart sound k ss w c = rw (none_within ss w) (no_rows (MatchesEach no_plans) tt k)
  rows_of (more_plans p ms) apart sound k ss w c =
      (let d = divide (λ i. has_symbol i p) (λ i. some_has i ms) ss w in
      let a = copies_dealt p apart.0 sound.0 k d.own d.own_within
      (copies_agree p (times ss) (times d.own) k d.own_count c.0) in
      let b = rows_of ms apart.1 sound.1 k d.rest d.rest_within
      (each_agree ms (times ss) (times d.rest) k (λ i e. d.rest_count i (other_absent p ms apart.2 i e)) c.1) in
      let z = zip_rows (Matches p) (MatchesEach ms) (MatchesEach (more_plans p ms)) (λ part row m ms. (m, ms)) k a.parts b.rows a.many b.many a.all b.all in
      record {
        rows = z.rows;
        many = z.many;
        deals = IsPermutation-trans _ _ _ d.deals
            (IsPermutation-trans _ _ _ (IsPermutation-append _ _ _ _ a.deals b.deals) z.deals);
        all = z.all;
      })

  one_of :
      (ms : Plans) → AreDistinct ms → AreSound ms → (k : ℕ) (ss : List ℕ) →
      AllByRecursion (λ s. some_has s ms ≡ true) ss →
      CopiesOne ms (times ss) k → DealsInto (MatchesOne ms) k ss
  one_of no_plans apart sound k ss w c =
      rw (none_within ss w) (record { parts = []; many = sym c; deals = IsPermutation-refl []; all = tt })
  one_of (more_plans p ms) apart sound k ss w (x, y, e, c, t) =
      (let d = divide (λ i. has_symbol i p) (λ i. some_has i ms) ss w in
      let a = copies_dealt p apart.0 sound.0 x d.own d.own_within
      (copies_agree p (times ss) (times d.own) x d.own_count c) in
      let b = one_of ms apart.1 sound.1 y d.rest d.rest_within
      (one_agree ms (times ss) (times d.rest) y (λ i has. d.rest_count i (other_absent p ms apart.2 i has)) t) in
      record {
        parts = a.parts ++ b.parts;
        many = length-append a.parts b.parts ∙ ap (λ u. u + length b.parts) a.many ∙ ap (λ u. x + u) b.many ∙ sym e;
        deals = rw (flat_map-append (λ xs. xs) a.parts b.parts)
            (IsPermutation-trans _ _ _ d.deals (IsPermutation-append _ _ _ _ a.deals b.deals));
        all = all_append _ a.parts b.parts
            (all_weaker (Matches p) (MatchesOne (more_plans p ms)) a.parts (λ part held m. inl m) a.all)
            (all_weaker (MatchesOne ms) (MatchesOne (more_plans p ms)) b.parts (λ part held m. inr m) b.all);
      })

module _ (p : Plan) (symbols : List ℕ) (counts : ℕ → ℕ) (k : ℕ) (distinct : IsDistinct p) where
  -- symbols whose counts spell k copies divide into k parts that match, and the other way round
  pub copies_deal : IsSound p → HaveCounts p symbols counts → Copies p counts k → DealsInto (Matches p) k symbols
  copies_deal sound have copies =
      copies_dealt p distinct sound k symbols have.own
      (copies_agree p counts (times symbols) k (λ i has. sym (times_count symbols i ∙ have.counted i has)) copies)

  pub deal_copies : HaveCounts p symbols counts → DealsInto (Matches p) k symbols → Copies p counts k
  deal_copies have deals =
      copies_agree p (times symbols) counts k (λ i has. times_count symbols i ∙ have.counted i has)
      (dealt_copies p distinct symbols k deals)
