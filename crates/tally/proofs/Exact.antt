-- The interval is exactly the numbers of copies.
use Rattle.std.proofs.Common.{◌≡◌, ℕ, ◌+◌, ◌-◌, ◌*◌, ◌/◌, ◌<◌, ◌≤◌, ◌≢◌, inl, inr, refl, subst, arith, Bool, true, false, cond, min, max}
use Rattle.std.proofs.lemmas.Bool.{cases_lt, cases_eq, eqb-true, eq-eqb, or_left, or_right}
use Rattle.std.proofs.lemmas.Bool.Decides.{nat_tests}
use Rattle.std.proofs.lemmas.Grind.{div_ceil_times}
use Rattle.std.proofs.Math.Nat.{le-div_iff_mul-le, mul-le-mul_right}
use Rattle.std.specs.Int.{div_ceil}
use Rattle.std.specs.Prelude.{Option, Some, None, nat_le, nat_eq}
use Rattle.tally.specs.declared.Bound.{Bound}
use Rattle.tally.specs.declared.Bound.TheVariants.{Upto, Free}
use Rattle.tally.specs.declared.Interval.{Interval}
use Rattle.tally.specs.Plan.{Plan, sym as symbol, each, one, many, Plans, no_plans, more_plans}
use Rattle.tally.specs.Copies.{Copies, CopiesEach, CopiesOne, Fills}
use Rattle.tally.specs.Symbols.{IsUnder, has_symbol, some_has}
use Rattle.tally.specs.Span.{HasSpan, IsBelow, IsProper, IsOrdered, IsSound, AreSound, proper, meet, meet_ends, plus, add_ends, least, most, repeated, is_nothing, span, span_each, span_one}

pub ceil_le : (lo m k : ℕ) → 0 < m → lo ≤ m * k → div_ceil lo m ≤ k
ceil_le lo m k pos h = elim (cases_lt k (div_ceil lo m)) [
  | inl lt ↦
      let up : (k + 1) * m ≤ div_ceil lo m * m = mul-le-mul_right m (omega arith) in
      let above = (div_ceil_times lo m pos).1 in
      absurd (omega arith)
  | inr le ↦ le
]

pub le_ceil : (lo m k : ℕ) → 0 < m → div_ceil lo m ≤ k → lo ≤ m * k
le_ceil lo m k pos h =
    let up : div_ceil lo m * m ≤ k * m = mul-le-mul_right m h in
    let below = (div_ceil_times lo m pos).0 in
    omega arith

pub proper_in : (lo : ℕ) (hi : Option ℕ) (k : ℕ) → lo ≤ k → IsBelow k hi → HasSpan (proper lo hi) k
proper_in lo None k h t = (h, tt)
proper_in lo (Some e) k h t = go (nat_le lo e) refl
  where
    go : (b : Bool) → nat_le lo e ≡ b → HasSpan (cond b (Some (record { lo = lo; hi = Some e })) None) k
    go true is = (h, t)
    go false is = absurd (grind (arith, nat_tests))

pub in_proper : (lo : ℕ) (hi : Option ℕ) (k : ℕ) → HasSpan (proper lo hi) k → (lo ≤ k) × IsBelow k hi
in_proper lo None k h = (h.0, tt)
in_proper lo (Some e) k h = go (nat_le lo e) h
  where
    go : (b : Bool) → HasSpan (cond b (Some (record { lo = lo; hi = Some e })) None) k → (lo ≤ k) × (k ≤ e)
    go true p = p
    go false p = absurd p

pub proper_is : (lo : ℕ) (hi : Option ℕ) → IsProper (proper lo hi)
proper_is lo None = tt
proper_is lo (Some e) = go (nat_le lo e) refl
  where
    go : (b : Bool) → nat_le lo e ≡ b → IsProper (cond b (Some (record { lo = lo; hi = Some e })) None)
    go true is = grind (arith, nat_tests)
    go false is = tt

pub meet_in : (a b : Option Interval) (k : ℕ) → HasSpan a k → HasSpan b k → HasSpan (meet a b) k
meet_in None b k h t = absurd h
meet_in (Some a) None k h t = absurd t
meet_in (Some a) (Some b) k h t = proper_in (max a.lo b.lo) (meet_ends a.hi b.hi) k (omega arith)
    (ends a.hi b.hi h.1 t.1)
  where
    ends : (x y : Option ℕ) → IsBelow k x → IsBelow k y → IsBelow k (meet_ends x y)
    ends None y p q = q
    ends (Some x) None p q = p
    ends (Some x) (Some y) p q = omega arith

pub in_meet : (a b : Option Interval) (k : ℕ) → HasSpan (meet a b) k → HasSpan a k × HasSpan b k
in_meet None b k h = absurd h
in_meet (Some a) None k h = absurd h
in_meet (Some a) (Some b) k h =
    let t = in_proper (max a.lo b.lo) (meet_ends a.hi b.hi) k h in
    let e = ends a.hi b.hi t.1 in
    ((omega arith, e.0), (omega arith, e.1))
  where
    ends : (x y : Option ℕ) → IsBelow k (meet_ends x y) → IsBelow k x × IsBelow k y
    ends None y p = (tt, p)
    ends (Some x) None p = (p, tt)
    ends (Some x) (Some y) p = (omega arith, omega arith)

pub plus_in : (a b : Option Interval) (i j : ℕ) → HasSpan a i → HasSpan b j → HasSpan (plus a b) (i + j)
plus_in None b i j h t = absurd h
plus_in (Some a) None i j h t = absurd t
plus_in (Some a) (Some b) i j h t = (omega arith, ends a.hi b.hi h.1 t.1)
  where
    ends : (x y : Option ℕ) → IsBelow i x → IsBelow j y → IsBelow (i + j) (add_ends x y)
    ends None y p q = tt
    ends (Some x) None p q = tt
    ends (Some x) (Some y) p q = omega arith

-- a number of the sum is one from each
pub in_plus :
    (a b : Option Interval) → IsProper a → IsProper b → (k : ℕ) → HasSpan (plus a b) k →
    (i j : ℕ) × (k ≡ i + j) × HasSpan a i × HasSpan b j
in_plus None b pa pb k h = absurd h
in_plus (Some a) None pa pb k h = absurd h
in_plus (Some a) (Some b) pa pb k h = ends a.lo b.lo a.hi b.hi pa pb h.0 h.1
  where
    ends :
        (l m : ℕ) (x y : Option ℕ) → IsBelow l x → IsBelow m y → l + m ≤ k → IsBelow k (add_ends x y) →
        (i j : ℕ) × (k ≡ i + j) × ((l ≤ i) × IsBelow i x) × ((m ≤ j) × IsBelow j y)
    ends l m None y p q low up = (k - m, m, omega arith, (omega arith, tt), (omega arith, q))
    ends l m (Some x) None p q low up = (l, k - l, omega arith, (omega arith, p), (omega arith, tt))
    ends l m (Some x) (Some y) p q low up =
        (min x (k - m), k - min x (k - m), omega arith, (omega arith, omega arith), (omega arith, omega arith))

pub plus_is : (a b : Option Interval) → IsProper a → IsProper b → IsProper (plus a b)
plus_is None b p q = tt
plus_is (Some a) None p q = tt
plus_is (Some a) (Some b) p q = ends a.hi b.hi p q
  where
    ends : (x y : Option ℕ) → IsBelow a.lo x → IsBelow b.lo y → IsBelow (a.lo + b.lo) (add_ends x y)
    ends None y p q = tt
    ends (Some x) None p q = tt
    ends (Some x) (Some y) p q = omega arith

pub meet_is : (a b : Option Interval) → IsProper (meet a b)
meet_is None b = tt
meet_is (Some a) None = tt
meet_is (Some a) (Some b) = proper_is (max a.lo b.lo) (meet_ends a.hi b.hi)

-- k repetitions of at least n are at most the most
pub below_most : (n : ℕ) (hi : Option ℕ) (k j : ℕ) → IsBelow j hi → n * k ≤ j → IsBelow k (most n hi)
below_most n None k j h t = tt
below_most n (Some e) k j h t = go (nat_eq n 0) refl
  where
    go : (b : Bool) → nat_eq n 0 ≡ b → IsBelow k (cond b None (Some (e / n)))
    go true is = tt
    go false is =
        let pos : 0 < n = (let ne : n ≢ 0 = (λ z. grind (arith, nat_tests)) in omega arith) in
        (le-div_iff_mul-le pos).1 (omega arith)

pub most_above : (n e k : ℕ) → IsBelow k (most n (Some e)) → n * k ≤ e
most_above n e k h = go (nat_eq n 0) refl h
  where
    go : (b : Bool) → nat_eq n 0 ≡ b → IsBelow k (cond b None (Some (e / n))) → n * k ≤ e
    go true is p = (let z : n ≡ 0 = grind (arith, nat_tests) in rw z (omega arith))
    go false is p =
        let pos : 0 < n = (let ne : n ≢ 0 = (λ z. grind (arith, nat_tests)) in omega arith) in
        (let t : k * n ≤ e = (le-div_iff_mul-le pos).0 p in omega arith)

-- numbers of repetitions that take j fall between the least and the most
pub repeated_in :
    (n : ℕ) (bound : Bound) (a : Option Interval) (k j : ℕ) → HasSpan a j → Fills n bound k j →
    HasSpan (repeated n bound a) k
repeated_in n bound None k j h t = absurd h
repeated_in n Free (Some a) k j h t = proper_in (least Free a.lo) (most n a.hi) k (low (nat_eq a.lo 0) refl)
    (below_most n a.hi k j h.1 t.0)
  where
    low : (b : Bool) → nat_eq a.lo 0 ≡ b → cond b 0 1 ≤ k
    low true is = omega arith
    low false is = elim (cases_eq k 0) [
      | inl e ↦ (let none : j ≡ 0 = t.1 e in let z : a.lo ≡ 0 = omega arith in absurd (grind (arith, nat_tests)))
      | inr ne ↦ omega arith
    ]
repeated_in n (Upto m) (Some a) k j h t = go (nat_eq m 0) refl
  where
    zero_low :
        (b : Bool) → nat_eq a.lo 0 ≡ b → a.lo ≡ 0 →
        HasSpan (cond b (Some (record { lo = 0; hi = None })) None) k
    zero_low true is e = (omega arith, tt)
    zero_low false is e = absurd (grind (arith, nat_tests))

    go : (b : Bool) → nat_eq m 0 ≡ b →
        HasSpan (cond b (cond (nat_eq a.lo 0) (Some (record { lo = 0; hi = None })) None)
        (proper (least (Upto m) a.lo) (most n a.hi))) k
    go true is =
        let z : m ≡ 0 = grind (arith, nat_tests) in
        let up : j ≤ 0 * k = subst (λ x. j ≤ x * k) z t.1 in
        zero_low (nat_eq a.lo 0) refl (omega arith)
    go false is =
        let pos : 0 < m = (let ne : m ≢ 0 = (λ e. grind (arith, nat_tests)) in omega arith) in
        proper_in (least (Upto m) a.lo) (most n a.hi) k (ceil_le a.lo m k pos (omega arith))
        (below_most n a.hi k j h.1 t.0)

pub repeated_is : (n : ℕ) (bound : Bound) (a : Option Interval) → IsProper (repeated n bound a)
repeated_is n bound None = tt
repeated_is n bound (Some a) = go (is_nothing bound) (nat_eq a.lo 0)
  where
    go :
        (b e : Bool) →
        IsProper (cond b (cond e (Some (record { lo = 0; hi = None })) None)
        (proper (least bound a.lo) (most n a.hi)))
    go true true = tt
    go true false = tt
    go false e = proper_is (least bound a.lo) (most n a.hi)

-- a number between the least and the most is one of repetitions that take some j
pub in_repeated :
    (n : ℕ) (bound : Bound) (a : Option Interval) → IsProper a → IsOrdered n bound → (k : ℕ) →
    HasSpan (repeated n bound a) k →
    (j : ℕ) × HasSpan a j × Fills n bound k j
in_repeated n bound None p ord k h = absurd h
in_repeated n Free (Some a) p ord k h =
    let t = in_proper (least Free a.lo) (most n a.hi) k h in
    (max a.lo (n * k), (omega arith, under a.hi p t.1), (omega arith, λ z. start (nat_eq a.lo 0) refl z t.0))
  where
    under : (hi : Option ℕ) → IsBelow a.lo hi → IsBelow k (most n hi) → IsBelow (max a.lo (n * k)) hi
    under None q m = tt
    under (Some e) q m = (let low : n * k ≤ e = most_above n e k m in omega arith)

    start : (b : Bool) → nat_eq a.lo 0 ≡ b → k ≡ 0 → cond b 0 1 ≤ k → max a.lo (n * k) ≡ 0
    start true is z q = (let l : a.lo ≡ 0 = grind (arith, nat_tests) in rw (z, l) (omega arith))
    start false is z q = absurd (omega arith)
in_repeated n (Upto m) (Some a) p ord k h = go (nat_eq m 0) refl h
  where
    under : (hi : Option ℕ) → IsBelow a.lo hi → IsBelow k (most n hi) → IsBelow (max a.lo (n * k)) hi
    under None q t = tt
    under (Some e) q t = (let low : n * k ≤ e = most_above n e k t in omega arith)

    from_zero : (hi : Option ℕ) → IsBelow a.lo hi → IsBelow 0 hi
    from_zero None q = tt
    from_zero (Some e) q = omega arith

    nothing :
        m ≡ 0 → (b : Bool) → nat_eq a.lo 0 ≡ b → HasSpan (cond b (Some (record { lo = 0; hi = None })) None) k →
        (j : ℕ) × ((a.lo ≤ j) × IsBelow j a.hi) × Fills n (Upto m) k j
    nothing z true is q =
        let l : a.lo ≡ 0 = grind (arith, nat_tests) in
        let least_none : n ≡ 0 = omega arith in
        (0, (omega arith, from_zero a.hi p), (rw least_none (omega arith), omega arith))
    nothing z false is q = absurd q

    go : (b : Bool) → nat_eq m 0 ≡ b →
        HasSpan (cond b (cond (nat_eq a.lo 0) (Some (record { lo = 0; hi = None })) None)
        (proper (least (Upto m) a.lo) (most n a.hi))) k →
        (j : ℕ) × ((a.lo ≤ j) × IsBelow j a.hi) × Fills n (Upto m) k j
    go true is q = nothing (eqb-true m 0 is) (nat_eq a.lo 0) refl q
    go false is q =
        let pos : 0 < m = (let ne : m ≢ 0 = (λ e. grind (arith, nat_tests)) in omega arith) in
        let t = in_proper (least (Upto m) a.lo) (most n a.hi) k q in
        let up : a.lo ≤ m * k = le_ceil a.lo m k pos t.0 in
        let order : n * k ≤ m * k = mul-le-mul_right k ord in
        (max a.lo (n * k), (omega arith, under a.hi p t.1), (omega arith, omega arith))

-- what counts inside a box spell is in the box's interval
mutual
  unfolding Copies span

  pub copies_under :
      (p : Plan) (low c high : ℕ → ℕ) (k : ℕ) → IsUnder p low c → IsUnder p c high → Copies p c k →
      HasSpan (span p low high) k
  copies_under (symbol i) low c high k from to h =
      (let a = from i (eq-eqb i i refl) in let b = to i (eq-eqb i i refl) in
      proper_in (low i) (Some (high i)) k (omega arith) (omega arith))
  copies_under (each ps) low c high k from to h = each_under ps low c high k from to h
  copies_under (one ps) low c high k from to h = one_under ps low c high k from to h
  copies_under (many n bound p) low c high k from to (j, fills, h) =
      repeated_in n bound (span p low high) k j (copies_under p low c high j from to h) fills

  pub each_under :
      (ps : Plans) (low c high : ℕ → ℕ) (k : ℕ) → ((i : ℕ) → some_has i ps ≡ true → low i ≤ c i) →
      ((i : ℕ) → some_has i ps ≡ true → c i ≤ high i) →
      CopiesEach ps c k → HasSpan (span_each ps low high) k
  each_under no_plans low c high k from to h = (omega arith, tt)
  each_under (more_plans p ps) low c high k from to (h, t) =
      meet_in (span p low high) (span_each ps low high) k
      (copies_under p low c high k
      (λ i e. from i (or_left (has_symbol i p) (some_has i ps) e))
      (λ i e. to i (or_left (has_symbol i p) (some_has i ps) e)) h)
      (each_under ps low c high k
      (λ i e. from i (or_right (has_symbol i p) (some_has i ps) e))
      (λ i e. to i (or_right (has_symbol i p) (some_has i ps) e)) t)

  pub one_under :
      (ps : Plans) (low c high : ℕ → ℕ) (k : ℕ) → ((i : ℕ) → some_has i ps ≡ true → low i ≤ c i) →
      ((i : ℕ) → some_has i ps ≡ true → c i ≤ high i) →
      CopiesOne ps c k → HasSpan (span_one ps low high) k
  one_under no_plans low c high k from to h = (omega arith, omega arith)
  one_under (more_plans p ps) low c high k from to (a, b, e, h, t) =
      rw e
      (plus_in (span p low high) (span_one ps low high) a b
      (copies_under p low c high a
      (λ i e. from i (or_left (has_symbol i p) (some_has i ps) e))
      (λ i e. to i (or_left (has_symbol i p) (some_has i ps) e)) h)
      (one_under ps low c high b
      (λ i e. from i (or_right (has_symbol i p) (some_has i ps) e))
      (λ i e. to i (or_right (has_symbol i p) (some_has i ps) e)) t))

-- the same for a box over all symbols
pub copies_box :
    (p : Plan) (low c high : ℕ → ℕ) → ((i : ℕ) → (low i ≤ c i) × (c i ≤ high i)) → (k : ℕ) → Copies p c k →
    HasSpan (span p low high) k
copies_box p low c high box k h = copies_under p low c high k (λ i e. (box i).0) (λ i e. (box i).1) h

pub copies_span : (p : Plan) (c : ℕ → ℕ) (k : ℕ) → Copies p c k → HasSpan (span p c c) k
copies_span p c k h = copies_box p c c c (λ i. (omega arith, omega arith)) k h

mutual
  unfolding span

  pub span_is : (p : Plan) (c d : ℕ → ℕ) → IsProper (span p c d)
  span_is (symbol i) c d = proper_is (c i) (Some (d i))
  span_is (each ps) c d = each_is ps c d
  span_is (one ps) c d = one_is ps c d
  span_is (many n bound p) c d = repeated_is n bound (span p c d)

  pub each_is : (ps : Plans) (c d : ℕ → ℕ) → IsProper (span_each ps c d)
  each_is no_plans c d = tt
  each_is (more_plans p ps) c d = meet_is (span p c d) (span_each ps c d)

  pub one_is : (ps : Plans) (c d : ℕ → ℕ) → IsProper (span_one ps c d)
  one_is no_plans c d = omega arith
  one_is (more_plans p ps) c d = plus_is (span p c d) (span_one ps c d) (span_is p c d) (one_is ps c d)

mutual
  unfolding Copies span IsSound

  pub span_copies : (p : Plan) (c : ℕ → ℕ) (k : ℕ) → IsSound p → HasSpan (span p c c) k → Copies p c k
  span_copies (symbol i) c k s h = (let t = in_proper (c i) (Some (c i)) k h in omega arith)
  span_copies (each ps) c k s h = span_each_copies ps c k s h
  span_copies (one ps) c k s h = span_one_copies ps c k s h
  span_copies (many n bound p) c k (ord, s) h =
      (let (j, inside, fills) = in_repeated n bound (span p c c) (span_is p c c) ord k h in
      (j, fills, span_copies p c j s inside))

  pub span_each_copies :
      (ps : Plans) (c : ℕ → ℕ) (k : ℕ) → AreSound ps → HasSpan (span_each ps c c) k → CopiesEach ps c k
  span_each_copies no_plans c k s h = tt
  span_each_copies (more_plans p ps) c k (s, more) h =
      (let t = in_meet (span p c c) (span_each ps c c) k h in
      (span_copies p c k s t.0, span_each_copies ps c k more t.1))

  pub span_one_copies :
      (ps : Plans) (c : ℕ → ℕ) (k : ℕ) → AreSound ps → HasSpan (span_one ps c c) k → CopiesOne ps c k
  span_one_copies no_plans c k s h = omega arith
  span_one_copies (more_plans p ps) c k (s, more) h =
      (let (a, b, e, left, right) = in_plus (span p c c) (span_one ps c c) (span_is p c c) (one_is ps c c) k h in
      (a, b, e, span_copies p c a s left, span_one_copies ps c b more right))
