-- Triples match an expression exactly where places with the right counts can be given to them: from places to a match.
use Rattle.std.proofs.Common.{◌≡◌, ℕ, suc, ◌+◌, ◌≤◌, inl, inr, List, [], ◌∷◌, ◌++◌, refl, sym, subst, ap, ◌∙◌, Bool, true, false, cond, not, length, map, true≢false, length-append, filter}
use Rattle.std.proofs.lemmas.Bool.{eqb-true, not_from_false}
use Rattle.std.proofs.lemmas.List.{map-append, length-map}
use Rattle.std.proofs.lemmas.List.Concat.{flat_map-append}
use Rattle.std.proofs.lemmas.List.Sorted.{IsPermutation-refl, IsPermutation-trans, IsPermutation-append, IsPermutation-cons, IsPermutation-filter_both, IsPermutation-map}
use Rattle.std.specs.Prelude.{slice_get, nat_eq, ◌||◌}
use Rattle.std.specs.List.{AllByRecursion}
use Rattle.std.specs.List.Sorted.{IsPermutation}
use Rattle.rdf_terms.specs.declared.terms.TermId.{TermId}
use Rattle.rdf_terms.specs.declared.terms.Triple.{Triple}
use Rattle.tally.specs.declared.Bound.{Bound}
use Rattle.tally.specs.Plan.{Plan, sym as symbol, each, one, many, Plans, no_plans, more_plans}
use Rattle.tally.specs.Copies.{Copies, CopiesEach, CopiesOne, Fills}
use Rattle.tally.specs.Deals.{IsUpTo}
use Rattle.tally.specs.Span.{IsSound, AreSound}
use Rattle.tally.specs.Symbols.{has_symbol, some_has, IsDistinct, AreDistinct}
use Rattle.tally.proofs.CopyLaws.{copies_agree, each_agree, one_agree}
use Rattle.tally.proofs.Groupings.{Rows, group_in, no_rows, zip_rows}
use Rattle.schema_tree.specs.declared.schema.Occurrence.{Occurrence}
use Rattle.schema_tree.specs.declared.schema.ExprId.{ExprId}
use Rattle.schema_tree.specs.Matches.{Matches, MatchesEach, MatchesOne, Takes}
use Rattle.schema_tree.proofs.Placed.{Placed, triples, count_of, IsPlaced, other_absent}
use Rattle.lists.proofs.Quantifiers.{all_weaker, all_append, all_map, all_both}
use Rattle.lists.proofs.Joined.{flat, all_flat, flat_of_maps}
use Rattle.lists.proofs.Filters.{all_filter, all_passing}
use Rattle.lists.proofs.Tests.{other_passes}

-- a filter by places keeps the counts of the places that it keeps
pub count_filter : (keep : ℕ → Bool) (ps : List Placed) (i : ℕ) → keep i ≡ true → count_of (filter (λ q. keep q.1) ps) i ≡ count_of ps i
count_filter keep [] i k = refl
count_filter keep (q ∷ ps) i k = go (keep q.1) refl (nat_eq i q.1) refl (count_filter keep ps i k)
  where
    go : (b : Bool) → keep q.1 ≡ b → (e : Bool) → nat_eq i q.1 ≡ e → count_of (filter (λ r. keep r.1) ps) i ≡ count_of ps i →
        count_of (cond b (q ∷ filter (λ r. keep r.1) ps) (filter (λ r. keep r.1) ps)) i ≡ cond e (suc (count_of ps i)) (count_of ps i)
    go true is true same r = rw (same, r)
    go true is false same r = rw (same, r)
    go false is true same r = absurd (true≢false (sym k ∙ ap keep (eqb-true i q.1 same) ∙ is))
    go false is false same r = r

-- ts in k lists that each fit
pub record Parts (fits : List Triple → Type 0) (k : ℕ) (ts : List Triple) : Type 0 where
  pub parts : List (List Triple)
  pub many : length parts ≡ k
  pub deals : IsPermutation ts (flat parts)
  pub all : AllByRecursion fits parts

module _ (sat : TermId → ExprId → Type 0) (occs : List Occurrence) (n : TermId) where
  singles :
      (i : ℕ) (ps : List Placed) → IsPlaced sat occs n ps → AllByRecursion (λ q. has_symbol q.1 (symbol i) ≡ true) ps →
      Parts (λ part. (t : Triple) × (part ≡ t ∷ []) × Takes sat n (slice_get occs i) t) (count_of ps i) (triples ps)
  singles i [] h w = record { parts = []; many = refl; deals = IsPermutation-refl []; all = tt }
  singles i (q ∷ ps) h w =
      let r = singles i ps h.1 w.1 in
      let same : i ≡ q.1 = eqb-true i q.1 w.0 in
      record {
        parts = (q.0 ∷ []) ∷ r.parts;
        many = (let test : nat_eq i q.1 ≡ true = w.0 in rw (test, r.many) refl);
        deals = IsPermutation-cons q.0 (triples ps) (flat r.parts) r.deals;
        all = ((q.0, refl, subst (λ j. Takes sat n (slice_get occs j) q.0) (sym same) h.0), r.all);
      }

  -- the places of one member, and those of the rest
  pub record Divided (has others : ℕ → Bool) (ps : List Placed) : Type 0 where
    pub own : List Placed
    pub rest : List Placed
    pub deals : IsPermutation (triples ps) (triples own ++ triples rest)
    pub own_taken : IsPlaced sat occs n own
    pub rest_taken : IsPlaced sat occs n rest
    pub own_within : AllByRecursion (λ q. has q.1 ≡ true) own
    pub rest_within : AllByRecursion (λ q. others q.1 ≡ true) rest
    pub own_count : (i : ℕ) → has i ≡ true → count_of ps i ≡ count_of own i
    pub rest_count : (i : ℕ) → has i ≡ false → count_of ps i ≡ count_of rest i

  divide :
      (has others : ℕ → Bool) (ps : List Placed) → IsPlaced sat occs n ps → AllByRecursion (λ q. has q.1 || others q.1 ≡ true) ps →
      Divided has others ps
  divide has others ps h w = record {
    own = filter (λ q. has q.1) ps;
    rest = filter (λ q. not (has q.1)) ps;
    deals = rw (← map-append (λ q. q.0) (filter (λ q. has q.1) ps) (filter (λ q. not (has q.1)) ps))
        (IsPermutation-map (λ q. q.0) ps (filter (λ q. has q.1) ps ++ filter (λ q. not (has q.1)) ps) (IsPermutation-filter_both (λ q. has q.1) (λ q. not (has q.1)) (λ x. refl) ps));
    own_taken = all_filter _ (λ q. has q.1) ps h;
    rest_taken = all_filter _ (λ q. not (has q.1)) ps h;
    own_within = all_passing (λ q. has q.1 || others q.1 ≡ true) (λ q. has q.1 ≡ true) (λ q. has q.1) (λ q e o. e) ps w;
    rest_within = all_passing (λ q. has q.1 || others q.1 ≡ true) (λ q. others q.1 ≡ true) (λ q. not (has q.1)) (λ q e o. other_passes (has q.1) (others q.1) o e) ps w;
    own_count = λ i e. sym (count_filter has ps i e);
    rest_count = λ i e. sym (count_filter (λ j. not (has j)) ps i (not_from_false (has i) e));
  }

  row_part : (ms : Plans) (row : List (List Triple)) → MatchesEach sat occs n ms row → Matches sat occs n (each ms) (flat row)
  unfolding Matches
  row_part ms row h = (row, IsPermutation-refl (flat row), h)

  group_part :
      (low : ℕ) (bound : Bound) (p : Plan) (group : List (List Triple)) → low ≤ length group → IsUpTo (length group) bound →
      AllByRecursion (λ part. Matches sat occs n p part) group → Matches sat occs n (many low bound p) (flat group)
  unfolding Matches
  group_part low bound p group least most h = (group, least, most, IsPermutation-refl (flat group), h)

  no_places : (ps : List Placed) → AllByRecursion (λ q. false ≡ true) ps → ps ≡ []
  no_places [] h = refl
  no_places (q ∷ ps) h = absurd (true≢false (sym h.0))

  mutual
    unfolding Copies IsDistinct IsSound Matches

    pub parts_of :
        (p : Plan) → IsDistinct p → IsSound p → (k : ℕ) (ps : List Placed) → IsPlaced sat occs n ps →
        AllByRecursion (λ q. has_symbol q.1 p ≡ true) ps → Copies p (count_of ps) k → Parts (Matches sat occs n p) k (triples ps)
    parts_of (symbol i) apart sound k ps h w c =
        (let r = singles i ps h w in record { parts = r.parts; many = r.many ∙ c; deals = r.deals; all = r.all })
    parts_of (each ms) apart sound k ps h w c =
        (let r = rows_of ms apart sound k ps h w c in
        record {
          parts = map flat r.rows;
          many = length-map r.rows flat ∙ r.many;
          deals = rw (flat_of_maps r.rows) r.deals;
          all = all_map (MatchesEach sat occs n ms) (Matches sat occs n (each ms)) flat (λ row m. row_part ms row m) r.rows r.all;
        })
    parts_of (one ms) apart sound k ps h w c = one_of ms apart sound k ps h w c
    parts_of (many low bound p) apart (ord, sound) k ps h w (j, fills, c) =
        (let r = parts_of p apart sound j ps h w c in
        let filled : Fills low bound k (length r.parts) = rw r.many fills in
        let gs = group_in low bound ord k r.parts filled in
        let each_all = all_flat (Matches sat occs n p) gs.groups (rw gs.is r.all) in
        record {
          parts = map flat gs.groups;
          many = length-map gs.groups flat ∙ gs.many;
          deals = rw (flat_of_maps gs.groups, gs.is) r.deals;
          all = all_map (λ gr. ((low ≤ length gr) × IsUpTo (length gr) bound) × AllByRecursion (Matches sat occs n p) gr) (Matches sat occs n (many low bound p)) flat
              (λ gr m. group_part low bound p gr m.0.0 m.0.1 m.1) gs.groups (all_both _ _ gs.groups gs.sizes each_all);
        })

    pub rows_of :
        (ms : Plans) → AreDistinct ms → AreSound ms → (k : ℕ) (ps : List Placed) → IsPlaced sat occs n ps →
        AllByRecursion (λ q. some_has q.1 ms ≡ true) ps → CopiesEach ms (count_of ps) k → Rows (MatchesEach sat occs n ms) k (triples ps)
    rows_of no_plans apart sound k ps h w c = rw (no_places ps w) (no_rows (MatchesEach sat occs n no_plans) tt k)
    rows_of (more_plans p ms) apart sound k ps h w c =
        (let d = divide (λ i. has_symbol i p) (λ i. some_has i ms) ps h w in
        let a = parts_of p apart.0 sound.0 k d.own d.own_taken d.own_within (copies_agree p (count_of ps) (count_of d.own) k d.own_count c.0) in
        let b = rows_of ms apart.1 sound.1 k d.rest d.rest_taken d.rest_within
        (each_agree ms (count_of ps) (count_of d.rest) k (λ i e. d.rest_count i (other_absent sat occs n p ms apart.2 i e)) c.1) in
        let z = zip_rows (Matches sat occs n p) (MatchesEach sat occs n ms) (MatchesEach sat occs n (more_plans p ms)) (λ part row m ms. (m, ms)) k a.parts b.rows a.many b.many a.all b.all in
        record {
          rows = z.rows;
          many = z.many;
          deals = IsPermutation-trans _ _ _ d.deals (IsPermutation-trans _ _ _ (IsPermutation-append _ _ _ _ a.deals b.deals) z.deals);
          all = z.all;
        })

    pub one_of :
        (ms : Plans) → AreDistinct ms → AreSound ms → (k : ℕ) (ps : List Placed) → IsPlaced sat occs n ps →
        AllByRecursion (λ q. some_has q.1 ms ≡ true) ps → CopiesOne ms (count_of ps) k → Parts (MatchesOne sat occs n ms) k (triples ps)
    one_of no_plans apart sound k ps h w c =
        rw (no_places ps w) (record { parts = []; many = sym c; deals = IsPermutation-refl []; all = tt })
    one_of (more_plans p ms) apart sound k ps h w (x, y, e, c, t) =
        (let d = divide (λ i. has_symbol i p) (λ i. some_has i ms) ps h w in
        let a = parts_of p apart.0 sound.0 x d.own d.own_taken d.own_within (copies_agree p (count_of ps) (count_of d.own) x d.own_count c) in
        let b = one_of ms apart.1 sound.1 y d.rest d.rest_taken d.rest_within
        (one_agree ms (count_of ps) (count_of d.rest) y (λ i has. d.rest_count i (other_absent sat occs n p ms apart.2 i has)) t) in
        record {
          parts = a.parts ++ b.parts;
          many = length-append a.parts b.parts ∙ ap (λ u. u + length b.parts) a.many ∙ ap (λ u. x + u) b.many ∙ sym e;
          deals = rw (flat_map-append (λ xs. xs) a.parts b.parts) (IsPermutation-trans _ _ _ d.deals (IsPermutation-append _ _ _ _ a.deals b.deals));
          all = all_append _ a.parts b.parts
              (all_weaker (Matches sat occs n p) (MatchesOne sat occs n (more_plans p ms)) a.parts (λ part m u. inl u) a.all)
              (all_weaker (MatchesOne sat occs n ms) (MatchesOne sat occs n (more_plans p ms)) b.parts (λ part m u. inr u) b.all);
        })
