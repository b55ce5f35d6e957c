-- Triples match an expression exactly where places with the right counts can be given to them: from a match to places.
use Rattle.std.proofs.Common.{◌≡◌, ℕ, suc, ◌+◌, inl, inr, List, [], ◌∷◌, ◌++◌, refl, arith, sym, subst, ap, ◌∙◌, Bool, true, false, cond, length, map, true≢false}
use Rattle.std.proofs.lemmas.Bool.{eqb-true, eq-eqb, or_left, or_right}
use Rattle.std.proofs.lemmas.List.{map-append}
use Rattle.std.proofs.lemmas.List.Sorted.{IsPermutation-refl, IsPermutation-trans, IsPermutation-append}
use Rattle.std.specs.Prelude.{slice_get, nat_eq}
use Rattle.std.specs.List.{AllByRecursion, flat_map}
use Rattle.std.specs.List.Sorted.{IsPermutation}
use Rattle.rdf_terms.specs.declared.terms.TermId.{TermId}
use Rattle.rdf_terms.specs.declared.terms.Triple.{Triple}
use Rattle.tally.specs.Plan.{Plan, sym as symbol, each, one, many, Plans, no_plans, more_plans}
use Rattle.tally.specs.Copies.{Copies, CopiesEach, CopiesOne}
use Rattle.tally.specs.Symbols.{has_symbol, some_has, IsDistinct, AreDistinct}
use Rattle.tally.proofs.CopyLaws.{copies_agree, each_agree, copies_zero, one_zero, copies_add}
use Rattle.tally.proofs.Dealt.{fills_one}
use Rattle.schema_tree.specs.declared.schema.Occurrence.{Occurrence}
use Rattle.schema_tree.specs.declared.schema.ExprId.{ExprId}
use Rattle.schema_tree.specs.Matches.{Matches, MatchesEach, MatchesOne, Takes}
use Rattle.lists.proofs.Quantifiers.{all_weaker, all_append}

-- a triple with the occurrence that takes it
abbrev pub Placed : Type 0
Placed = Triple × ℕ

abbrev pub triples : List Placed → List Triple
triples ps = map (λ q. q.0) ps

-- how many of the triples go to the occurrence i
abbrev pub count_of : List Placed → ℕ → ℕ
count_of [] i = 0
count_of (q ∷ ps) i = cond (nat_eq i q.1) (suc (count_of ps i)) (count_of ps i)

pub count_append : (ps qs : List Placed) (i : ℕ) → count_of (ps ++ qs) i ≡ count_of ps i + count_of qs i
count_append [] qs i = omega arith
count_append (q ∷ ps) qs i = go (nat_eq i q.1) (count_append ps qs i)
  where
    go : (b : Bool) → count_of (ps ++ qs) i ≡ count_of ps i + count_of qs i →
        cond b (suc (count_of (ps ++ qs) i)) (count_of (ps ++ qs) i) ≡ cond b (suc (count_of ps i)) (count_of ps i) + count_of qs i
    go true e = omega arith
    go false e = omega arith

-- a symbol that no place has is counted 0 times
pub count_absent :
    (has : ℕ → Bool) (ps : List Placed) → AllByRecursion (λ q. has q.1 ≡ true) ps → (i : ℕ) → has i ≡ false → count_of ps i ≡ 0
count_absent has [] h i none = refl
count_absent has (q ∷ ps) h i none = go (nat_eq i q.1) refl (count_absent has ps h.1 i none)
  where
    go : (b : Bool) → nat_eq i q.1 ≡ b → count_of ps i ≡ 0 → cond b (suc (count_of ps i)) (count_of ps i) ≡ 0
    go true e rest = absurd (true≢false (sym h.0 ∙ ap has (sym (eqb-true i q.1 e)) ∙ none))
    go false e rest = rest

module _ (sat : TermId → ExprId → Type 0) (occs : List Occurrence) (n : TermId) where
  abbrev pub IsPlaced : List Placed → Type 0
  IsPlaced ps = AllByRecursion (λ q. Takes sat n (slice_get occs q.1) q.0) ps

  -- places for ts that spell k copies, all with symbols of a set
  pub record Placing (has : ℕ → Bool) (spells : (ℕ → ℕ) → Type 0) (ts : List Triple) : Type 0 where
    pub placed : List Placed
    pub deals : IsPermutation ts (triples placed)
    pub taken : IsPlaced placed
    pub within : AllByRecursion (λ q. has q.1 ≡ true) placed
    pub spelled : spells (count_of placed)

  some_within :
      (has more : ℕ → Bool) → ((i : ℕ) → has i ≡ true → more i ≡ true) → (ps : List Placed) → AllByRecursion (λ q. has q.1 ≡ true) ps →
      AllByRecursion (λ q. more q.1 ≡ true) ps
  some_within has more go ps h = all_weaker (λ q. has q.1 ≡ true) (λ q. more q.1 ≡ true) ps (λ q c e. go q.1 e) h

  -- no two of the two sets are one
  pub other_absent :
      (p : Plan) (ps : Plans) → ((i : ℕ) → has_symbol i p ≡ true → some_has i ps ≡ false) → (i : ℕ) → some_has i ps ≡ true →
      has_symbol i p ≡ false
  other_absent p ps apart i e = go (has_symbol i p) refl
    where
      go : (b : Bool) → has_symbol i p ≡ b → b ≡ false
      go true is = absurd (true≢false (sym e ∙ apart i is))
      go false is = refl

  -- places for each of the parts are places for all, with as many copies as parts
  pub many_placing :
      (p : Plan) → ((part : List Triple) → Matches sat occs n p part → Placing (λ i. has_symbol i p) (λ c. Copies p c 1) part) →
      (parts : List (List Triple)) → AllByRecursion (λ part. Matches sat occs n p part) parts →
      Placing (λ i. has_symbol i p) (λ c. Copies p c (length parts)) (flat_map (λ part. part) parts)
  many_placing p place [] h = record { placed = []; deals = IsPermutation-refl []; taken = tt; within = tt; spelled = copies_zero p (count_of []) (λ i e. refl) }
  many_placing p place (part ∷ parts) h =
      let a = place part h.0 in
      let b = many_placing p place parts h.1 in
      let more : 1 + length parts ≡ suc (length parts) = omega arith in
      let both = copies_add p (count_of a.placed) (count_of b.placed) 1 (length parts) a.spelled b.spelled in
      record {
        placed = a.placed ++ b.placed;
        deals = rw (map-append (λ q. q.0) a.placed b.placed) (IsPermutation-append _ _ _ _ a.deals b.deals);
        taken = all_append _ a.placed b.placed a.taken b.taken;
        within = all_append _ a.placed b.placed a.within b.within;
        spelled = subst (λ k. Copies p (count_of (a.placed ++ b.placed)) k) more
            (copies_agree p (λ i. count_of a.placed i + count_of b.placed i) (count_of (a.placed ++ b.placed)) (1 + length parts) (λ i e. sym (count_append a.placed b.placed i)) both);
      }

  mutual
    unfolding Matches Copies IsDistinct

    pub placing_of :
        (p : Plan) → IsDistinct p → (ts : List Triple) → Matches sat occs n p ts → Placing (λ i. has_symbol i p) (λ c. Copies p c 1) ts
    placing_of (symbol i) apart ts (t, is, takes) =
        record {
          placed = (t, i) ∷ [];
          deals = subst (λ us. IsPermutation ts us) is (IsPermutation-refl ts);
          taken = (takes, tt);
          within = (eq-eqb i i refl, tt);
          spelled = ap (λ b. cond b 1 0) (eq-eqb i i refl);
        }
    placing_of (each ps) apart ts (parts, deals, h) =
        (let r = each_placing ps apart parts h in record {
          placed = r.placed;
          deals = IsPermutation-trans _ _ _ deals r.deals;
          taken = r.taken;
          within = r.within;
          spelled = r.spelled;
        })
    placing_of (one ps) apart ts h = one_placing ps apart ts h
    placing_of (many low bound p) apart ts (parts, least, most, deals, h) =
        (let r = many_placing p (λ part m. placing_of p apart part m) parts h in record {
          placed = r.placed;
          deals = IsPermutation-trans _ _ _ deals r.deals;
          taken = r.taken;
          within = r.within;
          spelled = (length parts, fills_one low bound (length parts) least most, r.spelled);
        })

    pub each_placing :
        (ps : Plans) → AreDistinct ps → (parts : List (List Triple)) → MatchesEach sat occs n ps parts →
        Placing (λ i. some_has i ps) (λ c. CopiesEach ps c 1) (flat_map (λ part. part) parts)
    each_placing no_plans apart [] h = record { placed = []; deals = IsPermutation-refl []; taken = tt; within = tt; spelled = tt }
    each_placing no_plans apart (x ∷ xs) h = absurd h
    each_placing (more_plans p ps) apart [] h = absurd h
    each_placing (more_plans p ps) apart (part ∷ parts) (h, more) =
        (let a = placing_of p apart.0 part h in
        let b = each_placing ps apart.1 parts more in
        record {
          placed = a.placed ++ b.placed;
          deals = rw (map-append (λ q. q.0) a.placed b.placed) (IsPermutation-append _ _ _ _ a.deals b.deals);
          taken = all_append _ a.placed b.placed a.taken b.taken;
          within = all_append _ a.placed b.placed
              (some_within (λ i. has_symbol i p) (λ i. some_has i (more_plans p ps)) (λ i e. or_left (has_symbol i p) (some_has i ps) e) a.placed a.within)
              (some_within (λ i. some_has i ps) (λ i. some_has i (more_plans p ps)) (λ i e. or_right (has_symbol i p) (some_has i ps) e) b.placed b.within);
          spelled = (
            copies_agree p (count_of a.placed) (count_of (a.placed ++ b.placed)) 1
                (λ i e. let none = count_absent (λ j. some_has j ps) b.placed b.within i (apart.2 i e) in omega (arith, count_append a.placed b.placed i, none)) a.spelled,
            each_agree ps (count_of b.placed) (count_of (a.placed ++ b.placed)) 1
                (λ i e. let none = count_absent (λ j. has_symbol j p) a.placed a.within i (other_absent p ps apart.2 i e) in omega (arith, count_append a.placed b.placed i, none)) b.spelled,
          );
        })

    pub one_placing :
        (ps : Plans) → AreDistinct ps → (ts : List Triple) → MatchesOne sat occs n ps ts →
        Placing (λ i. some_has i ps) (λ c. CopiesOne ps c 1) ts
    one_placing no_plans apart ts h = absurd h
    one_placing (more_plans p ps) apart ts (inl h) =
        (let a = placing_of p apart.0 ts h in record {
          placed = a.placed;
          deals = a.deals;
          taken = a.taken;
          within = some_within (λ i. has_symbol i p) (λ i. some_has i (more_plans p ps)) (λ i e. or_left (has_symbol i p) (some_has i ps) e) a.placed a.within;
          spelled = (1, 0, omega arith, a.spelled, one_zero ps (count_of a.placed) (λ i e. count_absent (λ j. has_symbol j p) a.placed a.within i (other_absent p ps apart.2 i e)));
        })
    one_placing (more_plans p ps) apart ts (inr h) =
        (let b = one_placing ps apart.1 ts h in record {
          placed = b.placed;
          deals = b.deals;
          taken = b.taken;
          within = some_within (λ i. some_has i ps) (λ i. some_has i (more_plans p ps)) (λ i e. or_right (has_symbol i p) (some_has i ps) e) b.placed b.within;
          spelled = (0, 1, omega arith, copies_zero p (count_of b.placed) (λ i e. count_absent (λ j. some_has j ps) b.placed b.within i (apart.2 i e)), b.spelled);
        })
