-- From a division into parts that match to counts that spell copies.
use Rattle.std.proofs.Common.{◌≡◌, ℕ, suc, ◌+◌, ◌≤◌, inl, inr, List, [], ◌∷◌, ◌++◌, refl, arith, sym, subst, ap, ◌∙◌, Bool, true, false, cond, length, true≢false}
use Rattle.std.proofs.lemmas.Bool.{eqb-true, eq-eqb}
use Rattle.std.proofs.lemmas.List.Recursion.{is_count_by}
use Rattle.std.proofs.lemmas.List.Sorted.{sum_by-IsPermutation}
use Rattle.std.specs.Prelude.{nat_eq, count_by, ◌||◌}
use Rattle.std.specs.List.{AllByRecursion}
use Rattle.std.specs.List.Sorted.{IsPermutation}
use Rattle.tally.proofs.CopyLaws.{copies_agree, each_agree, copies_zero, one_zero, copies_add}
use Rattle.tally.specs.declared.Bound.{Bound}
use Rattle.tally.specs.declared.Bound.TheVariants.{Upto, Free}
use Rattle.tally.specs.Plan.{Plan, sym as symbol, each, one, many, Plans, no_plans, more_plans}
use Rattle.tally.specs.Copies.{Copies, CopiesEach, CopiesOne, Fills}
use Rattle.tally.specs.Deals.{DealsInto, IsUpTo, Matches, MatchesEach, MatchesOne}
use Rattle.tally.specs.Symbols.{has_symbol, some_has, IsDistinct, AreDistinct}
use Rattle.lists.proofs.Joined.{flat}

-- how often a symbol stands in the list
abbrev pub times : List ℕ → ℕ → ℕ
times [] i = 0
times (s ∷ ss) i = cond (nat_eq i s) (suc (times ss i)) (times ss i)

pub times_count : (ss : List ℕ) (i : ℕ) → times ss i ≡ count_by (nat_eq i) ss
times_count ss i = is_count_by (λ xs. times xs i) (nat_eq i) refl (λ x xs. go (nat_eq i x) (times xs i)) ss
  where
    go : (b : Bool) (n : ℕ) → cond b (suc n) n ≡ cond b (1 + n) n
    go true n = omega arith
    go false n = refl

pub times_append : (ss ts : List ℕ) (i : ℕ) → times (ss ++ ts) i ≡ times ss i + times ts i
times_append [] ts i = omega arith
times_append (s ∷ ss) ts i = go (nat_eq i s) (times_append ss ts i)
  where
    go : (b : Bool) → times (ss ++ ts) i ≡ times ss i + times ts i →
        cond b (suc (times (ss ++ ts) i)) (times (ss ++ ts) i) ≡ cond b (suc (times ss i)) (times ss i) + times ts i
    go true e = omega arith
    go false e = omega arith

-- another order leaves the counts
pub times_permuted : (ss ts : List ℕ) (i : ℕ) → IsPermutation ss ts → times ts i ≡ times ss i
times_permuted ss ts i p =
    times_count ts i ∙ (sum_by-IsPermutation (λ x. cond (nat_eq i x) 1 0) ss ts p ∙ sym (times_count ss i))

-- no two of the two sets are one
pub other_absent :
    (p : Plan) (ps : Plans) → ((i : ℕ) → has_symbol i p ≡ true → some_has i ps ≡ false) → (i : ℕ) →
    some_has i ps ≡ true → has_symbol i p ≡ false
other_absent p ps apart i e = go (has_symbol i p) refl
  where
    go : (b : Bool) → has_symbol i p ≡ b → b ≡ false
    go true is = absurd (true≢false (sym e ∙ apart i is))
    go false is = refl

-- symbols outside of a set do not stand in the list
abbrev pub StandsIn : (ℕ → Bool) → List ℕ → Type 0
StandsIn has ss = (i : ℕ) → has i ≡ false → times ss i ≡ 0

or_false_left : (a b : Bool) → a || b ≡ false → a ≡ false
or_false_left true b e = e
or_false_left false b e = refl

or_false_right : (a b : Bool) → a || b ≡ false → b ≡ false
or_false_right true b e = absurd (true≢false e)
or_false_right false b e = e

-- parts that each spell one copy spell as many copies as there are parts
parts_copies :
    (p : Plan) → ((part : List ℕ) → Matches p part → Copies p (times part) 1) → (parts : List (List ℕ)) →
    AllByRecursion (λ part. Matches p part) parts → Copies p (times (flat parts)) (length parts)
parts_copies p one_copy [] h = copies_zero p (times []) (λ i e. refl)
parts_copies p one_copy (part ∷ parts) h =
    let more : 1 + length parts ≡ suc (length parts) = omega arith in
    let both = copies_add p (times part) (times (flat parts)) 1 (length parts) (one_copy part h.0)
    (parts_copies p one_copy parts h.1) in
    subst (λ k. Copies p (times (part ++ flat parts)) k) more
    (copies_agree p (λ i. times part i + times (flat parts) i) (times (part ++ flat parts)) (1 + length parts)
    (λ i e. sym (times_append part (flat parts) i)) both)

parts_stand :
    (has : ℕ → Bool) (matches : List ℕ → Type 0) → ((part : List ℕ) → matches part → StandsIn has part) →
    (parts : List (List ℕ)) →
    AllByRecursion matches parts → StandsIn has (flat parts)
parts_stand has matches stands [] h i none = refl
parts_stand has matches stands (part ∷ parts) h i none =
    let here = stands part h.0 i none in
    let rest = parts_stand has matches stands parts h.1 i none in
    omega (arith, times_append part (flat parts) i)

-- copies from the least to the greatest number make one repetition
pub fills_one : (low : ℕ) (bound : Bound) (k : ℕ) → low ≤ k → IsUpTo k bound → Fills low bound 1 k
fills_one low (Upto m) k h t = (omega arith, omega arith)
fills_one low Free k h t = (omega arith, λ e. absurd (omega arith))

mutual
  unfolding Matches

  -- what matches has only symbols of the expression
  pub match_stands : (p : Plan) (ts : List ℕ) → Matches p ts → StandsIn (λ i. has_symbol i p) ts
  match_stands (symbol j) ts is i none = rw is (go (nat_eq i j) refl)
    where
      go : (b : Bool) → nat_eq i j ≡ b → cond {A = ℕ} b 1 0 ≡ 0
      go true e = absurd (true≢false (sym (eq-eqb j i (sym (eqb-true i j e))) ∙ none))
      go false e = refl
  match_stands (each ps) ts (parts, deals, h) i none =
      sym (times_permuted ts (flat parts) i deals) ∙ each_stands ps parts h i none
  match_stands (one ps) ts h i none = one_stands ps ts h i none
  match_stands (many low bound p) ts (parts, least, most, deals, h) i none =
      sym (times_permuted ts (flat parts) i deals)
      ∙ parts_stand (λ k. has_symbol k p) (λ part. Matches p part) (λ part m. match_stands p part m) parts h i none

  each_stands :
      (ps : Plans) (parts : List (List ℕ)) → MatchesEach ps parts → StandsIn (λ i. some_has i ps) (flat parts)
  each_stands no_plans [] h i none = refl
  each_stands no_plans (x ∷ xs) h i none = absurd h
  each_stands (more_plans p ps) [] h i none = absurd h
  each_stands (more_plans p ps) (part ∷ parts) (h, more) i none =
      (let here = match_stands p part h i (or_false_left (has_symbol i p) (some_has i ps) none) in
      let rest = each_stands ps parts more i (or_false_right (has_symbol i p) (some_has i ps) none) in
      omega (arith, times_append part (flat parts) i))

  one_stands : (ps : Plans) (ts : List ℕ) → MatchesOne ps ts → StandsIn (λ i. some_has i ps) ts
  one_stands no_plans ts h i none = absurd h
  one_stands (more_plans p ps) ts (inl h) i none =
      match_stands p ts h i (or_false_left (has_symbol i p) (some_has i ps) none)
  one_stands (more_plans p ps) ts (inr h) i none =
      one_stands ps ts h i (or_false_right (has_symbol i p) (some_has i ps) none)

mutual
  unfolding Matches Copies IsDistinct

  -- what matches spells one copy
  pub match_copies : (p : Plan) → IsDistinct p → (ts : List ℕ) → Matches p ts → Copies p (times ts) 1
  match_copies (symbol i) apart ts is = rw is (ap (λ b. cond b 1 0) (eq-eqb i i refl))
  match_copies (each ps) apart ts (parts, deals, h) =
      each_agree ps (times (flat parts)) (times ts) 1 (λ i e. times_permuted ts (flat parts) i deals)
      (each_copies ps apart parts h)
  match_copies (one ps) apart ts h = one_copies ps apart ts h
  match_copies (many low bound p) apart ts (parts, least, most, deals, h) = (
    length parts,
    fills_one low bound (length parts) least most,
    copies_agree p (times (flat parts)) (times ts) (length parts) (λ i e. times_permuted ts (flat parts) i deals)
        (parts_copies p (λ part m. match_copies p apart part m) parts h),
  )

  each_copies :
      (ps : Plans) → AreDistinct ps → (parts : List (List ℕ)) → MatchesEach ps parts →
      CopiesEach ps (times (flat parts)) 1
  each_copies no_plans apart parts h = tt
  each_copies (more_plans p ps) apart [] h = absurd h
  each_copies (more_plans p ps) apart (part ∷ parts) (h, more) = (
    copies_agree p (times part) (times (part ++ flat parts)) 1
        (λ i e. let none = each_stands ps parts more i (apart.2 i e) in
        omega (arith, times_append part (flat parts) i, none)) (match_copies p apart.0 part h),
    each_agree ps (times (flat parts)) (times (part ++ flat parts)) 1
        (λ i e. let none = match_stands p part h i (other_absent p ps apart.2 i e) in
        omega (arith, times_append part (flat parts) i, none)) (each_copies ps apart.1 parts more),
  )

  one_copies : (ps : Plans) → AreDistinct ps → (ts : List ℕ) → MatchesOne ps ts → CopiesOne ps (times ts) 1
  one_copies no_plans apart ts h = absurd h
  one_copies (more_plans p ps) apart ts (inl h) = (
    1,
    0,
    omega arith,
    match_copies p apart.0 ts h,
    one_zero ps (times ts) (λ i e. match_stands p ts h i (other_absent p ps apart.2 i e)),
  )
  one_copies (more_plans p ps) apart ts (inr h) = (
    0,
    1,
    omega arith,
    copies_zero p (times ts) (λ i e. one_stands ps ts h i (apart.2 i e)),
    one_copies ps apart.1 ts h,
  )

-- symbols that divide into k matching parts spell k copies
pub dealt_copies :
    (p : Plan) → IsDistinct p → (ts : List ℕ) (k : ℕ) → DealsInto (Matches p) k ts → Copies p (times ts) k
dealt_copies p apart ts k d =
    subst (λ n. Copies p (times ts) n) d.many
    (copies_agree p (times (flat d.parts)) (times ts) (length d.parts)
    (λ i e. times_permuted ts (flat d.parts) i d.deals)
    (parts_copies p (λ part m. match_copies p apart part m) d.parts d.all))
