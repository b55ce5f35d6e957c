-- Each number of copies in the interval of a box is spelled by counts in the box, where each symbol stands once.
use Rattle.std.proofs.Common.{◌≡◌, ◌∙◌, ℕ, ◌≤◌, refl, arith, sym, subst, Bool, true, false, true≢false, cond}
use Rattle.std.proofs.lemmas.Bool.{eqb-true}
use Rattle.std.specs.Prelude.{Some, ◌||◌}
use Rattle.tally.specs.Copies.{Copies, CopiesEach, CopiesOne}
use Rattle.tally.specs.Plan.{Plan, sym as symbol, each, one, many, Plans, no_plans, more_plans}
use Rattle.tally.specs.Span.{AreSound, HasSpan, IsSound, span, span_each, span_one}
use Rattle.tally.specs.Symbols.{AreDistinct, IsDistinct, IsUnder, has_symbol, some_has}
use Rattle.tally.proofs.CopyLaws.{copies_agree, each_agree, one_agree}
use Rattle.tally.proofs.Exact.{in_meet, in_plus, in_proper, in_repeated, one_is, span_is}

-- the first counts at the symbols of an expression, and the second at the others
abbrev joined : Plan → (ℕ → ℕ) → (ℕ → ℕ) → ℕ → ℕ
joined p c d i = cond (has_symbol i p) (c i) (d i)

joined_at : (p : Plan) (c d : ℕ → ℕ) (i : ℕ) → has_symbol i p ≡ true → c i ≡ joined p c d i
joined_at p c d i e = go (has_symbol i p) e
  where
    go : (b : Bool) → b ≡ true → c i ≡ cond b (c i) (d i)
    go true h = refl
    go false h = absurd (true≢false (sym h))

joined_off : (p : Plan) (c d : ℕ → ℕ) (i : ℕ) → (has_symbol i p ≡ true → ⊥) → d i ≡ joined p c d i
joined_off p c d i none = go (has_symbol i p) none
  where
    go : (b : Bool) → (b ≡ true → ⊥) → d i ≡ cond b (c i) (d i)
    go true h = absurd (h refl)
    go false h = refl

not_here : (a b : Bool) → (a ≡ true → b ≡ false) → b ≡ true → a ≡ true → ⊥
not_here a b apart e f = true≢false (sym e ∙ apart f)

-- at each symbol of an expression and of others a relation holds for the counts that are joined
joined_all :
    (R : ℕ → ℕ → Type 0) (p : Plan) (ps : Plans) (c d : ℕ → ℕ) → ((i : ℕ) → has_symbol i p ≡ true → R i (c i)) →
    ((i : ℕ) → some_has i ps ≡ true → R i (d i)) → (i : ℕ) → has_symbol i p || some_has i ps ≡ true → R i (joined p c d i)
joined_all R p ps c d here there i e = go (has_symbol i p) refl e
  where
    go : (b : Bool) → has_symbol i p ≡ b → b || some_has i ps ≡ true → R i (cond b (c i) (d i))
    go true f t = here i f
    go false f t = there i t

mutual
  unfolding Copies span IsSound IsDistinct

  pub span_counts :
      (p : Plan) (low high : ℕ → ℕ) (k : ℕ) → IsDistinct p → IsSound p → HasSpan (span p low high) k →
      (counts : ℕ → ℕ) × IsUnder p low counts × IsUnder p counts high × Copies p counts k
  span_counts (symbol i) low high k d s h =
      let t = in_proper (low i) (Some (high i)) k h in (
        (λ j. k),
        (λ j e. subst (λ z. low z ≤ k) (eqb-true i j e) t.0),
        (λ j e. subst (λ z. k ≤ high z) (eqb-true i j e) t.1),
        refl,
      )
  span_counts (each ps) low high k d s h = each_counts ps low high k d s h
  span_counts (one ps) low high k d s h = one_counts ps low high k d s h
  span_counts (many n bound p) low high k d (ord, s) h =
      let (j, inside, fills) = in_repeated n bound (span p low high) (span_is p low high) ord k h in
      let (c, from, to, spell) = span_counts p low high j d s inside in
      (c, from, to, (j, fills, spell))

  each_counts :
      (ps : Plans) (low high : ℕ → ℕ) (k : ℕ) → AreDistinct ps → AreSound ps → HasSpan (span_each ps low high) k →
      (counts : ℕ → ℕ) × ((i : ℕ) → some_has i ps ≡ true → low i ≤ counts i) × ((i : ℕ) → some_has i ps ≡ true → counts i ≤ high i)
      × CopiesEach ps counts k
  each_counts no_plans low high k d s h = (low, (λ i e. absurd (true≢false (sym e))), (λ i e. absurd (true≢false (sym e))), tt)
  each_counts (more_plans p ps) low high k (d, ds, apart) (s, ss) h =
      let t = in_meet (span p low high) (span_each ps low high) k h in
      let (c, from_c, to_c, spell_c) = span_counts p low high k d s t.0 in
      let (e, from_e, to_e, spell_e) = each_counts ps low high k ds ss t.1 in (
        joined p c e,
        joined_all (λ i m. low i ≤ m) p ps c e from_c from_e,
        joined_all (λ i m. m ≤ high i) p ps c e to_c to_e,
        (
          copies_agree p c (joined p c e) k (joined_at p c e) spell_c,
          each_agree ps e (joined p c e) k (λ i f. joined_off p c e i (not_here (has_symbol i p) (some_has i ps) (apart i) f)) spell_e,
        ),
      )

  one_counts :
      (ps : Plans) (low high : ℕ → ℕ) (k : ℕ) → AreDistinct ps → AreSound ps → HasSpan (span_one ps low high) k →
      (counts : ℕ → ℕ) × ((i : ℕ) → some_has i ps ≡ true → low i ≤ counts i) × ((i : ℕ) → some_has i ps ≡ true → counts i ≤ high i)
      × CopiesOne ps counts k
  one_counts no_plans low high k d s h =
      (low, (λ i e. absurd (true≢false (sym e))), (λ i e. absurd (true≢false (sym e))), (omega arith))
  one_counts (more_plans p ps) low high k (d, ds, apart) (s, ss) h =
      let (a, b, sum, left, right) = in_plus (span p low high) (span_one ps low high) (span_is p low high) (one_is ps low high) k h in
      let (c, from_c, to_c, spell_c) = span_counts p low high a d s left in
      let (e, from_e, to_e, spell_e) = one_counts ps low high b ds ss right in (
        joined p c e,
        joined_all (λ i m. low i ≤ m) p ps c e from_c from_e,
        joined_all (λ i m. m ≤ high i) p ps c e to_c to_e,
        (
          a,
          b,
          sum,
          copies_agree p c (joined p c e) a (joined_at p c e) spell_c,
          one_agree ps e (joined p c e) b (λ i f. joined_off p c e i (not_here (has_symbol i p) (some_has i ps) (apart i) f)) spell_e,
        ),
      )
