-- How many triples stand at some constraints, by the counts of the symbols of an expression: between its bounds.
use Rattle.std.proofs.Common.{◌≡◌, ℕ, zero, suc, ◌+◌, ◌*◌, ◌≤◌, refl, arith, sym, subst, ap, Bool, true, false, true≢false, cond, min, max, List, [], ◌∷◌}
use Rattle.std.proofs.Math.Nat.{mul-le-mul_left, mul-le-mul_right}
use Rattle.std.proofs.lemmas.Bool.{eqb-true}
use Rattle.std.specs.Prelude.{Option, Some, None, nat_eq, ◌||◌}
use Rattle.std.specs.List.{AllByRecursion}
use Rattle.tally.specs.declared.Bound.{Bound}
use Rattle.tally.specs.declared.Bound.TheVariants.{Upto, Free}
use Rattle.tally.specs.Copies.{Copies, CopiesEach, CopiesOne, Fills}
use Rattle.tally.specs.Plan.{Plan, sym as symbol, each, one, many, Plans, no_plans, more_plans}
use Rattle.tally.specs.Span.{add_ends}
use Rattle.tally.specs.Symbols.{IsDistinct, AreDistinct, has_symbol, some_has}
use Rattle.schema_tree.specs.declared.verdicts.Place.{Place}
use Rattle.schema_tree.specs.declared.verdicts.Place.TheVariants.{At, Rest}
use Rattle.schema_tree.specs.Places.{times}
use Rattle.nonconformance.specs.Bounds.{IsPlaceOf, TakeAtLeast, TakeAtMost, is_among, least_each, least_of, least_one, least_or, max_ends, most_each, most_of, most_one, served, times_end}

unfoldable mutual
  -- the sum of the counts of those symbols that are among these
  pub total : List ℕ → Plan → (ℕ → ℕ) → ℕ
  total cs (symbol i) counts = cond (is_among cs i) (counts i) 0
  total cs (each ps) counts = totals cs ps counts
  total cs (one ps) counts = totals cs ps counts
  total cs (many n bound p) counts = total cs p counts

  pub totals : List ℕ → Plans → (ℕ → ℕ) → ℕ
  totals cs no_plans counts = 0
  totals cs (more_plans p ps) counts = total cs p counts + totals cs ps counts

-- at least
least_sum : (k x y a b : ℕ) → k * x ≤ a → k * y ≤ b → k * (x + y) ≤ a + b
least_sum k x y a b h t = omega arith

least_many : (k n x j a : ℕ) → n * k ≤ j → j * x ≤ a → k * (n * x) ≤ a
least_many k n x j a h t = (let up : (n * k) * x ≤ j * x = mul-le-mul_right x h in omega arith)

least_either : (i j x y a b : ℕ) → i * x ≤ a → j * y ≤ b → (i + j) * min x y ≤ a + b
least_either i j x y a b h t =
    let left : i * min x y ≤ i * x = mul-le-mul_left i (omega arith) in
    let right : j * min x y ≤ j * y = mul-le-mul_left j (omega arith) in
    least_sum_of i j (min x y) a b (omega arith) (omega arith)
  where
    least_sum_of : (i j m a b : ℕ) → i * m ≤ a → j * m ≤ b → (i + j) * m ≤ a + b
    least_sum_of i j m a b h t = omega arith

needed_one : (b : Bool) (k c : ℕ) → c ≡ k → k * cond b 1 0 ≤ cond b c 0
needed_one true k c h = omega arith
needed_one false k c h = omega arith

needed_or :
    (cs : List ℕ) (p : Plan) (ps : Plans) (counts : ℕ → ℕ) (k a b : ℕ) → k ≡ a + b → a * least_of cs p ≤ total cs p counts →
    CopiesOne ps counts b → b * least_one cs ps ≤ totals cs ps counts →
    k * least_or ps (least_of cs p) (least_one cs ps) ≤ total cs p counts + totals cs ps counts
unfolding Copies total least_of
needed_or cs p no_plans counts k a b e h none t =
    subst (λ z. z * least_of cs p ≤ total cs p counts + 0) (let same : a ≡ k = omega (arith, e, none) in same) (omega arith)
needed_or cs p (more_plans q qs) counts k a b e h none t =
    subst (λ z. z * min (least_of cs p) (least_one cs (more_plans q qs)) ≤ total cs p counts + totals cs (more_plans q qs) counts) (sym e)
    (least_either a b (least_of cs p) (least_one cs (more_plans q qs)) (total cs p counts) (totals cs (more_plans q qs) counts) h t)

mutual
  unfolding Copies total least_of

  pub needed : (cs : List ℕ) (p : Plan) (counts : ℕ → ℕ) (k : ℕ) → Copies p counts k → k * least_of cs p ≤ total cs p counts
  needed cs (symbol i) counts k h = needed_one (is_among cs i) k (counts i) h
  needed cs (each ps) counts k h = needed_each cs ps counts k h
  needed cs (one ps) counts k h = needed_some cs ps counts k h
  needed cs (many n (Upto m) p) counts k (j, fills, h) =
      least_many k n (least_of cs p) j (total cs p counts) fills.0 (needed cs p counts j h)
  needed cs (many n Free p) counts k (j, fills, h) =
      least_many k n (least_of cs p) j (total cs p counts) fills.0 (needed cs p counts j h)

  pub needed_each : (cs : List ℕ) (ps : Plans) (counts : ℕ → ℕ) (k : ℕ) → CopiesEach ps counts k → k * least_each cs ps ≤ totals cs ps counts
  needed_each cs no_plans counts k h = omega arith
  needed_each cs (more_plans p ps) counts k (h, t) =
      least_sum k (least_of cs p) (least_each cs ps) (total cs p counts) (totals cs ps counts) (needed cs p counts k h) (needed_each cs ps counts k t)

  pub needed_some : (cs : List ℕ) (ps : Plans) (counts : ℕ → ℕ) (k : ℕ) → CopiesOne ps counts k → k * least_one cs ps ≤ totals cs ps counts
  needed_some cs no_plans counts k h = omega arith
  needed_some cs (more_plans p ps) counts k (a, b, e, h, t) =
      needed_or cs p ps counts k a b e (needed cs p counts a h) t (needed_some cs ps counts b t)

-- at most
-- k copies have at most so many, where one has at most the end; without one only no copies have none
abbrev pub IsUnderEnd : ℕ → ℕ → Option ℕ → Type 0
IsUnderEnd k a None = k ≡ 0 → a ≡ 0
IsUnderEnd k a (Some h) = a ≤ k * h

left_none : (i j : ℕ) → i + j ≡ 0 → i ≡ 0
left_none i j e = omega arith

right_none : (i j : ℕ) → i + j ≡ 0 → j ≡ 0
right_none i j e = omega arith

none_filled : (k m j : ℕ) → j ≤ suc m * k → k ≡ 0 → j ≡ 0
none_filled k m j le e = (let same : suc m * k ≡ suc m * 0 = ap (λ z. suc m * z) e in omega (arith, le, same))

none_under : (k a : ℕ) (x : Option ℕ) → IsUnderEnd k a x → k ≡ 0 → a ≡ 0
none_under k a None h e = h e
none_under k a (Some x) h e = (let same : k * x ≡ 0 * x = ap (λ z. z * x) e in omega (arith, h, same))

end_sum : (k a b : ℕ) (x y : Option ℕ) → IsUnderEnd k a x → IsUnderEnd k b y → IsUnderEnd k (a + b) (add_ends x y)
end_sum k a b None y h t = λ e. (let p = h e in let q = none_under k b y t e in omega (arith, p, q))
end_sum k a b (Some x) None h t = λ e. (let p = none_under k a (Some x) h e in let q = t e in omega (arith, p, q))
end_sum k a b (Some x) (Some y) h t = omega arith

end_either : (i j a b : ℕ) (x y : Option ℕ) → IsUnderEnd i a x → IsUnderEnd j b y → IsUnderEnd (i + j) (a + b) (max_ends x y)
end_either i j a b None y h t = λ e.
    (let p = h (left_none i j e) in let q = none_under j b y t (right_none i j e) in omega (arith, p, q))
end_either i j a b (Some x) None h t = λ e.
    (let p = none_under i a (Some x) h (left_none i j e) in let q = t (right_none i j e) in omega (arith, p, q))
end_either i j a b (Some x) (Some y) h t =
    let left : i * x ≤ i * max x y = mul-le-mul_left i (omega arith) in
    let right : j * y ≤ j * max x y = mul-le-mul_left j (omega arith) in
    sum_of i j (max x y) a b (omega arith) (omega arith)
  where
    sum_of : (i j m a b : ℕ) → a ≤ i * m → b ≤ j * m → a + b ≤ (i + j) * m
    sum_of i j m a b h t = omega arith

end_many : (k n j a : ℕ) (bound : Bound) (x : Option ℕ) → Fills n bound k j → IsUnderEnd j a x → IsUnderEnd k a (times_end bound x)
end_many k n j a (Upto zero) x fills h = (let none = none_under j a x h (omega arith) in omega (arith, none))
end_many k n j a (Upto (suc m)) None fills h = λ e. h (none_filled k m j fills.1 e)
end_many k n j a (Upto (suc m)) (Some x) fills h = (let up : j * x ≤ (suc m * k) * x = mul-le-mul_right x fills.1 in turned k (suc m) x j a up h)
  where
    turned : (k m x j a : ℕ) → j * x ≤ (m * k) * x → a ≤ j * x → a ≤ k * (m * x)
    turned k m x j a up h = omega arith
end_many k n j a Free None fills h = λ e. h (fills.1 e)
end_many k n j a Free (Some zero) fills h = omega arith
end_many k n j a Free (Some (suc x)) fills h = λ e. none_under j a (Some (suc x)) h (fills.1 e)

allowed_one : (b : Bool) (k c : ℕ) → c ≡ k → cond b c 0 ≤ k * cond b 1 0
allowed_one true k c h = omega arith
allowed_one false k c h = omega arith

mutual
  unfolding Copies total most_of

  pub allowed : (cs : List ℕ) (p : Plan) (counts : ℕ → ℕ) (k : ℕ) → Copies p counts k → IsUnderEnd k (total cs p counts) (most_of cs p)
  allowed cs (symbol i) counts k h = allowed_one (is_among cs i) k (counts i) h
  allowed cs (each ps) counts k h = allowed_each cs ps counts k h
  allowed cs (one ps) counts k h = allowed_some cs ps counts k h
  allowed cs (many n bound p) counts k (j, fills, h) = end_many k n j (total cs p counts) bound (most_of cs p) fills (allowed cs p counts j h)

  pub allowed_each : (cs : List ℕ) (ps : Plans) (counts : ℕ → ℕ) (k : ℕ) → CopiesEach ps counts k → IsUnderEnd k (totals cs ps counts) (most_each cs ps)
  allowed_each cs no_plans counts k h = omega arith
  allowed_each cs (more_plans p ps) counts k (h, t) =
      end_sum k (total cs p counts) (totals cs ps counts) (most_of cs p) (most_each cs ps) (allowed cs p counts k h) (allowed_each cs ps counts k t)

  pub allowed_some : (cs : List ℕ) (ps : Plans) (counts : ℕ → ℕ) (k : ℕ) → CopiesOne ps counts k → IsUnderEnd k (totals cs ps counts) (most_one cs ps)
  allowed_some cs no_plans counts k h = omega arith
  allowed_some cs (more_plans p ps) counts k (a, b, e, h, t) =
      subst (λ z. IsUnderEnd z (total cs p counts + totals cs ps counts) (max_ends (most_of cs p) (most_one cs ps))) (sym e)
      (end_either a b (total cs p counts) (totals cs ps counts) (most_of cs p) (most_one cs ps) (allowed cs p counts a h) (allowed_some cs ps counts b t))

none_one : (b : Bool) → ◌≡◌ {A = ℕ} (cond b 0 0) 0
none_one true = refl
none_one false = refl

-- counts of 0 sum to 0
mutual
  unfolding total

  pub total_none : (cs : List ℕ) (p : Plan) → total cs p (λ i. 0) ≡ 0
  total_none cs (symbol i) = none_one (is_among cs i)
  total_none cs (each ps) = totals_none cs ps
  total_none cs (one ps) = totals_none cs ps
  total_none cs (many n bound p) = total_none cs p

  pub totals_none : (cs : List ℕ) (ps : Plans) → totals cs ps (λ i. 0) ≡ 0
  totals_none cs no_plans = refl
  totals_none cs (more_plans p ps) = let h = total_none cs p in let t = totals_none cs ps in omega (arith, h, t)

-- one more at the symbol j
abbrev pub raised_at : ℕ → (ℕ → ℕ) → ℕ → ℕ
raised_at j counts i = cond (nat_eq i j) (suc (counts i)) (counts i)

-- what one more at a symbol adds, where the first says whether it stands there, and the second whether it is among these
abbrev pub gain : Bool → Bool → ℕ
gain true true = 1
gain true false = 0
gain false b = 0

gain_one : (same a b : Bool) (c : ℕ) → (same ≡ true → a ≡ b) → cond a (cond same (suc c) c) 0 ≡ cond a c 0 + gain same b
gain_one true true true c h = omega arith
gain_one true true false c h = absurd (true≢false (h refl))
gain_one true false true c h = absurd (true≢false (sym (h refl)))
gain_one true false false c h = refl
gain_one false true b c h = omega arith
gain_one false false b c h = refl

gain_sum : (x y b : Bool) (p q u v : ℕ) → (x ≡ true → y ≡ false) → p ≡ u + gain x b → q ≡ v + gain y b → p + q ≡ (u + v) + gain (x || y) b
gain_sum true true b p q u v apart e f = absurd (true≢false (apart refl))
gain_sum true false b p q u v apart e f = omega arith
gain_sum false true b p q u v apart e f = omega arith
gain_sum false false b p q u v apart e f = omega arith

mutual
  unfolding IsDistinct total

  pub total_raised :
      (cs : List ℕ) (p : Plan) (j : ℕ) (counts : ℕ → ℕ) → IsDistinct p →
      total cs p (raised_at j counts) ≡ total cs p counts + gain (has_symbol j p) (is_among cs j)
  total_raised cs (symbol i) j counts d = gain_one (nat_eq i j) (is_among cs i) (is_among cs j) (counts i) (λ e. ap (is_among cs) (eqb-true i j e))
  total_raised cs (each ps) j counts d = totals_raised cs ps j counts d
  total_raised cs (one ps) j counts d = totals_raised cs ps j counts d
  total_raised cs (many n bound p) j counts d = total_raised cs p j counts d

  pub totals_raised :
      (cs : List ℕ) (ps : Plans) (j : ℕ) (counts : ℕ → ℕ) → AreDistinct ps →
      totals cs ps (raised_at j counts) ≡ totals cs ps counts + gain (some_has j ps) (is_among cs j)
  totals_raised cs no_plans j counts d = refl
  totals_raised cs (more_plans p ps) j counts (d, ds, apart) =
      gain_sum (has_symbol j p) (some_has j ps) (is_among cs j) _ _ (total cs p counts) (totals cs ps counts) (apart j)
      (total_raised cs p j counts d) (totals_raised cs ps j counts ds)

-- so the sum of the counts of places is at most the number of places at these constraints
gain_under : (x b : Bool) (t s : ℕ) → t ≤ s → t + gain x b ≤ cond b (suc s) s
gain_under true true t s h = omega arith
gain_under true false t s h = omega arith
gain_under false true t s h = omega arith
gain_under false false t s h = omega arith

pub total_under : (cs : List ℕ) (p : Plan) → IsDistinct p → (places : List Place) → total cs p (times places) ≤ served cs places
total_under cs p d [] = let none = total_none cs p in omega (arith, none)
total_under cs p d (Rest ∷ ps) = total_under cs p d ps
total_under cs p d (At j ∷ ps) =
    subst (λ z. z ≤ cond (is_among cs j) (suc (served cs ps)) (served cs ps)) (sym (total_raised cs p j (times ps) d))
    (gain_under (has_symbol j p) (is_among cs j) (total cs p (times ps)) (served cs ps) (total_under cs p d ps))

-- and no less where they stand in the expression
gain_over : (x b : Bool) (t s : ℕ) → x ≡ true → s ≤ t → cond b (suc s) s ≤ t + gain x b
gain_over true true t s is h = omega arith
gain_over true false t s is h = omega arith
gain_over false b t s is h = absurd (true≢false (sym is))

pub total_over :
    (cs : List ℕ) (p : Plan) → IsDistinct p → (places : List Place) → AllByRecursion (IsPlaceOf p) places → served cs places ≤ total cs p (times places)
total_over cs p d [] stand = omega arith
total_over cs p d (Rest ∷ ps) stand = total_over cs p d ps stand.1
total_over cs p d (At j ∷ ps) stand =
    subst (λ z. cond (is_among cs j) (suc (served cs ps)) (served cs ps) ≤ z) (sym (total_raised cs p j (times ps) d))
    (gain_over (has_symbol j p) (is_among cs j) (total cs p (times ps)) (served cs ps) stand.0 (total_over cs p d ps stand.1))

-- so the constraints take at least the least, and at most the most
pub keep_least : (c : Plan) (cs : List ℕ) → IsDistinct c → TakeAtLeast c cs (least_of cs c)
keep_least c cs d places (stand, spell) =
    let low = needed cs c (times places) 1 spell in
    let up = total_under cs c d places in
    omega (arith, low, up)

pub keep_most : (c : Plan) (cs : List ℕ) (most : ℕ) → IsDistinct c → most_of cs c ≡ Some most → TakeAtMost c cs most
keep_most c cs most d is places (stand, spell) =
    let up : total cs c (times places) ≤ 1 * most = subst (IsUnderEnd 1 (total cs c (times places))) is (allowed cs c (times places) 1 spell) in
    let low = total_over cs c d places stand in
    omega (arith, low, up)
