-- The cost of all strata is at most that of all narrow pairs.
use Rattle.std.proofs.Common.{◌≡◌, ◌∙◌, ℕ, zero, suc, ◌<◌, ◌≤◌, ◌+◌, ◌*◌, refl, arith, sym, subst, ap, Bool, true, false, cond, true≢false}
use Rattle.removal_laws.specs.Costs.{needs_count, phase_cost, total}
use Rattle.removal_laws.proofs.Bound.{total_le, whole}
use Rattle.removal_laws.proofs.Strata.{swap}
use Rattle.locality_laws.specs.Bounds.{IsOpenTest, StrataAreBounded, cost_where}

total_zero : (n : ℕ) → total (λ i. 0) n ≡ 0
total_zero zero = refl
total_zero (suc n) = let deeper = total_zero n in omega (arith, deeper)

total_twice : (φ : ℕ → ℕ) (n : ℕ) → total (λ k. φ k + φ k) n ≡ total φ n + total φ n
total_twice φ zero = refl
total_twice φ (suc n) = let deeper = total_twice φ n in omega (arith, deeper)

-- a test that holds of one number only weighs once
module _ (test : ℕ → Bool) (x : ℕ) (one : (k j : ℕ) → test k ≡ true → test j ≡ true → k ≡ j) where
  none_else : (k n : ℕ) → test k ≡ true → n ≤ k → total (λ j. cond (test j) x 0) n ≡ 0
  none_else k zero is le = refl
  none_else k (suc n) is le = by (test n) refl (none_else k n is (omega (arith, le)))
    where
      by : (b : Bool) → test n ≡ b → total (λ j. cond (test j) x 0) n ≡ 0 → cond (test n) x 0 + total (λ j. cond (test j) x 0) n ≡ 0
      by true e deeper = absurd (let f : k ≡ n = one k n is e in omega (arith, f, le))
      by false e deeper = let a : cond (test n) x 0 ≡ 0 = ap (λ b. cond b x 0) e in omega (arith, a, deeper)

  once : (n : ℕ) → total (λ j. cond (test j) x 0) n ≤ x
  once zero = omega arith
  once (suc n) = by (test n) refl (once n)
    where
      by : (b : Bool) → test n ≡ b → total (λ j. cond (test j) x 0) n ≤ x → cond (test n) x 0 + total (λ j. cond (test j) x 0) n ≤ x
      by true e deeper =
          let a : cond (test n) x 0 ≡ x = ap (λ b. cond b x 0) e in
          let z : total (λ j. cond (test j) x 0) n ≡ 0 = none_else n n e (omega arith) in omega (arith, a, z)
      by false e deeper = let a : cond (test n) x 0 ≡ 0 = ap (λ b. cond b x 0) e in omega (arith, a, deeper)

module _ (is_open : ℕ → ℕ → Bool) (narrow : ℕ → Bool) (are : IsOpenTest is_open narrow) (cost : ℕ → ℕ) where
  -- one number, over all strata
  row : (w i strata : ℕ) → total (λ k. cond (is_open k i) w 0) strata ≤ cond (narrow i) w 0
  row w i strata = by (narrow i) refl
    where
      shut : narrow i ≡ false → (k : ℕ) → k < strata → cond (is_open k i) w 0 ≤ 0
      shut e k lt = go (is_open k i) refl
        where
          go : (b : Bool) → is_open k i ≡ b → cond (is_open k i) w 0 ≤ 0
          go true h = absurd (true≢false (sym (are.narrow_only k i h) ∙ e))
          go false h = let a : cond (is_open k i) w 0 ≡ 0 = ap (λ b. cond b w 0) h in omega (arith, a)

      by : (b : Bool) → narrow i ≡ b → total (λ k. cond (is_open k i) w 0) strata ≤ cond (narrow i) w 0
      by true e =
          let a : cond (narrow i) w 0 ≡ w = ap (λ b. cond b w 0) e in
          let o = once (λ k. is_open k i) w (λ k j h l. are.once k j i h l) strata in omega (arith, a, o)
      by false e = let o = total_le (λ k. cond (is_open k i) w 0) (λ k. 0) strata (shut e) in let z = total_zero strata in omega (arith, o, z)

  weighed : (b : Bool) (c m : ℕ) → cond b c 0 * m ≡ cond b (c * m) 0
  weighed true c m = refl
  weighed false c m = omega arith

  phases : (need : ℕ → ℕ → Bool) (n strata : ℕ) → total (λ k. phase_cost (cost_where (is_open k) cost) need n) strata ≤ phase_cost (cost_where narrow cost) need n
  phases need n strata =
      subst (λ x. x ≤ phase_cost (cost_where narrow cost) need n)
      (sym (swap (λ k i. cost_where (is_open k) cost i * (1 + needs_count (cost_where (is_open k) cost) need n i)) n strata))
      (total_le _ _ n (λ i lt. column i))
    where
      column : (i : ℕ) → total (λ k. cost_where (is_open k) cost i * (1 + needs_count cost need n i)) strata ≤ cost_where narrow cost i * (1 + needs_count cost need n i)
      column i =
          let m : ℕ = 1 + needs_count cost need n i in
          let a = row (cost i * m) i strata in
          let b = weighed (narrow i) (cost i) m in
          let d = total_le (λ k. cond (is_open k i) (cost i) 0 * m) (λ k. cond (is_open k i) (cost i * m) 0) strata (λ k lt. (let e = weighed (is_open k i) (cost i) m in omega (arith, e))) in
          omega (arith, a, b, d)

pub strata_bounded : StrataAreBounded
strata_bounded is_open narrow are cost need n strata =
    let a = phases is_open narrow are cost need n strata in
    let b = total_twice (λ k. phase_cost (cost_where (is_open k) cost) need n) strata in
    let w = whole (cost_where narrow cost) need n in
    omega (arith, a, b, w)
