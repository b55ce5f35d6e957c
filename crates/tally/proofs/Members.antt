-- What a walk over the members of an EachOf or a OneOf knows at each of them.
use Rattle.std.proofs.Common.{◌≡◌, ℕ, suc, ◌+◌, ◌<◌, ◌≤◌, sym, ap, subst, ◌∙◌, arith, Bool, true, max, List, length, drop, get_or, add-one}
use Rattle.std.proofs.lemmas.Bool.{or_left, or_right}
use Rattle.std.proofs.Math.ListN.{drop_of_length-le}
use Rattle.std.proofs.Math.Seq.{drop-cons}
use Rattle.std.specs.Prelude.{Option, Some, None, IfSome, ⊤, ◌||◌, ◌^◌}
use Rattle.tally.proofs.Exact.{each_is, meet_is}
use Rattle.tally.proofs.Algebra.{meet_all, meet_assoc, meet_with_all, plus_assoc, plus_zero, proper_ends, zero_plus}
use Rattle.tally.proofs.Totals.{total_join, total_part, total_under}
use Rattle.tally.specs.declared.Interval.{Interval}
use Rattle.tally.specs.declared.Count.{Count}
use Rattle.tally.specs.Plan.{Plan, Plans, no_plans, more_plans, plan_of, plans_of, each, one}
use Rattle.tally.specs.Symbols.{has_symbol, some_has, IsDistinct, AreDistinct}
use Rattle.tally.specs.Span.{IsProper, add_ends, all, meet, meet_ends, plus, span, span_each, span_one}
use Rattle.tally.specs.Totals.{total, EndsBy, IsWithin}

-- the rest of a list of members, at one of them and at the end
rest_at :
    (xs : List Count) (i : ℕ) (x : Count) → i < length xs → x ≡ get_or xs i x →
    plans_of (drop i xs) ≡ more_plans (plan_of x) (plans_of (drop (i + 1) xs))
rest_at xs i x lt is =
    rw add-one (ap plans_of (drop-cons xs i x lt)
    ∙ ap (λ y. more_plans (plan_of y) (plans_of (drop (suc i) xs))) (sym is))

rest_end : (xs : List Count) (i : ℕ) → length xs ≤ i → plans_of (drop i xs) ≡ no_plans
rest_end xs i le = ap plans_of (drop_of_length-le xs le)

-- the members met so far have s in common, and the rest is still to come
pub record EachRest (whole rest : Plans) (low high : ℕ → ℕ) (s : Interval) : Type 0 where
  pub value : meet (Some s) (span_each rest low high) ≡ span_each whole low high
  pub is_proper : IsProper (Some s)
  pub distinct : AreDistinct rest
  pub part : (i : ℕ) → some_has i rest ≡ true → some_has i whole ≡ true
  pub within : IsWithin (λ i. some_has i whole) low high s

-- what a number leaves of n, if there is one
abbrev pub Leaves : Option ℕ → ℕ → ℕ → Type 0
Leaves None t n = ⊤
Leaves (Some h) t n = h + t ≤ n

-- the members met so far have the sum s, and the rest is still to come
pub record OneRest (whole rest : Plans) (low high : ℕ → ℕ) (s : Interval) : Type 0 where
  pub value : plus (Some s) (span_one rest low high) ≡ span_one whole low high
  pub distinct : AreDistinct rest
  pub part : (i : ℕ) → some_has i rest ≡ true → some_has i whole ≡ true
  pub lower : s.lo + total (λ i. some_has i rest) low ≤ total (λ i. some_has i whole) low
  pub upper : Leaves s.hi (total (λ i. some_has i rest) high) (total (λ i. some_has i whole) high)

module _ (whole : Plans) (low high : ℕ → ℕ) where
  pub each_start : IsDistinct (each whole) → EachRest whole whole low high all
  unfolding IsDistinct
  each_start distinct = record {
    value = meet_all (span_each whole low high) (each_is whole low high);
    is_proper = tt;
    distinct = distinct;
    part = λ i e. e;
    within = record { lower = omega arith; upper = tt };
  }

  ends_part : (n m : ℕ) (hi : Option ℕ) → n ≤ m → EndsBy hi n → EndsBy hi m
  ends_part n m None le h = tt
  ends_part n m (Some e) le h = omega arith

  ends_meet : (n : ℕ) (x y : Option ℕ) → EndsBy x n → EndsBy y n → EndsBy (meet_ends x y) n
  ends_meet n None y p q = q
  ends_meet n (Some x) None p q = p
  ends_meet n (Some x) (Some y) p q = omega arith

  pub within_part :
      (a b : ℕ → Bool) (s : Interval) → ((i : ℕ) → a i ≡ true → b i ≡ true) → IsWithin a low high s →
      IsWithin b low high s
  within_part a b s part w = record {
    lower = (let more = total_part a b low part in let here = w.lower in omega arith);
    upper = ends_part (total a high) (total b high) s.hi (total_part a b high part) w.upper;
  }

  within_meet :
      (a : ℕ → Bool) (s m r : Interval) → IsWithin a low high s → IsWithin a low high m →
      meet (Some s) (Some m) ≡ Some r → IsWithin a low high r
  within_meet a s m r p q is =
      let ends = proper_ends (max s.lo m.lo) (meet_ends s.hi m.hi) r is in
      record {
        lower = (let e = ends.0 in let x = p.lower in let y = q.lower in omega arith);
        upper = rw ends.1 (ends_meet (total a high) s.hi m.hi p.upper q.upper);
      }

  next_each :
      (p : Plan) (ps : Plans) (s m r : Interval) → EachRest whole (more_plans p ps) low high s →
      span p low high ≡ Some m →
      IsWithin (λ i. has_symbol i p) low high m → meet (Some s) (Some m) ≡ Some r → EachRest whole ps low high r
  unfolding span AreDistinct
  next_each p ps s m r rest is within met = record {
    value =
        ap (λ x. meet x (span_each ps low high)) (sym met)
        ∙ (meet_assoc (Some s) (Some m) (span_each ps low high)
        ∙ (ap (λ x. meet (Some s) (meet x (span_each ps low high))) (sym is) ∙ rest.value));
    is_proper = subst IsProper met (meet_is (Some s) (Some m));
    distinct = rest.distinct.1;
    part = λ i e. rest.part i (or_right (has_symbol i p) (some_has i ps) e);
    within =
        within_meet (λ i. some_has i whole) s m r rest.within
        (within_part (λ i. has_symbol i p) (λ i. some_has i whole) m
        (λ i e. rest.part i (or_left (has_symbol i p) (some_has i ps) e)) within) met;
  }

  -- a member with the empty interval, or with nothing in common with those before it, makes the whole empty
  empty_each :
      (p : Plan) (ps : Plans) (s : Interval) → EachRest whole (more_plans p ps) low high s →
      meet (Some s) (span p low high) ≡ None →
      span_each whole low high ≡ None
  unfolding span
  empty_each p ps s rest none =
      sym rest.value ∙ (sym (meet_assoc (Some s) (span p low high) (span_each ps low high))
      ∙ ap (λ x. meet x (span_each ps low high)) none)

  end_each : (s : Interval) → EachRest whole no_plans low high s → span_each whole low high ≡ Some s
  unfolding span
  end_each s rest = sym rest.value ∙ meet_with_all s rest.is_proper

  pub one_start : IsDistinct (one whole) → OneRest whole whole low high (record { lo = 0; hi = Some 0 })
  unfolding IsDistinct
  one_start distinct = record {
    value = plus_zero (span_one whole low high);
    distinct = distinct;
    part = λ i e. e;
    lower = omega arith;
    upper = omega arith;
  }

  ends_plus : (x y : Option ℕ) (t u v n : ℕ) → t + u ≤ v → Leaves x v n → EndsBy y t → Leaves (add_ends x y) u n
  ends_plus None y t u v n le p q = tt
  ends_plus (Some x) None t u v n le p q = tt
  ends_plus (Some x) (Some y) t u v n le p q = omega arith

  next_one :
      (p : Plan) (ps : Plans) (s m r : Interval) → OneRest whole (more_plans p ps) low high s →
      span p low high ≡ Some m →
      IsWithin (λ i. has_symbol i p) low high m → Some r ≡ plus (Some s) (Some m) → OneRest whole ps low high r
  unfolding span AreDistinct
  next_one p ps s m r rest is within sum =
      let lo : r.lo ≡ s.lo + m.lo = cc in
      let hi : r.hi ≡ add_ends s.hi m.hi = cc in
      let lows = total_join (λ i. has_symbol i p) (λ i. some_has i ps) low rest.distinct.2 in
      let highs = total_join (λ i. has_symbol i p) (λ i. some_has i ps) high rest.distinct.2 in
      record {
        value =
            ap (λ x. plus x (span_one ps low high)) sum
            ∙ (plus_assoc (Some s) (Some m) (span_one ps low high)
            ∙ (ap (λ x. plus (Some s) (plus x (span_one ps low high))) (sym is) ∙ rest.value));
        distinct = rest.distinct.1;
        part = λ i e. rest.part i (or_right (has_symbol i p) (some_has i ps) e);
        lower = (let a = rest.lower in let b = within.lower in omega arith);
        upper =
            rw hi
            (ends_plus s.hi m.hi (total (λ i. has_symbol i p) high) (total (λ i. some_has i ps) high)
            (total (λ i. has_symbol i p || some_has i ps) high)
            (total (λ i. some_has i whole) high) highs rest.upper within.upper);
      }

  -- a member with the empty interval makes the whole empty
  empty_one :
      (p : Plan) (ps : Plans) (s : Interval) → OneRest whole (more_plans p ps) low high s →
      span p low high ≡ None → span_one whole low high ≡ None
  unfolding span
  empty_one p ps s rest none = sym rest.value ∙ ap (λ x. plus (Some s) (plus x (span_one ps low high))) none

  end_one : (s : Interval) → OneRest whole no_plans low high s → span_one whole low high ≡ Some s
  unfolding span
  end_one s rest = sym rest.value ∙ zero_plus s

  -- the sum so far is within the totals
  within_one : (s : Interval) → OneRest whole no_plans low high s → IsWithin (λ i. some_has i whole) low high s
  within_one s rest = record { lower = (let a = rest.lower in omega arith); upper = ends s.hi rest.upper }
    where
      ends :
          (x : Option ℕ) →
          Leaves x (total (λ i. some_has i no_plans) high) (total (λ i. some_has i whole) high) →
          EndsBy x (total (λ i. some_has i whole) high)
      ends None p = tt
      ends (Some h) p = omega arith

  ends_fit :
      (x y : Option ℕ) (t u v n : ℕ) → t + u ≤ v → Leaves x v n → EndsBy y t → n < 2 ^ 48 →
      IfSome (add_ends x y) (λ end. end < 2 ^ 64)
  ends_fit None y t u v n le p q small = tt
  ends_fit (Some x) None t u v n le p q small = tt
  ends_fit (Some x) (Some y) t u v n le p q small = omega arith

  -- no sum overflows: the totals of 32-bit counts of 16-bit symbols have 48 bits
  fits_one :
      (p : Plan) (ps : Plans) (s m : Interval) → OneRest whole (more_plans p ps) low high s →
      IsWithin (λ i. has_symbol i p) low high m →
      ((i : ℕ) → low i < 2 ^ 32) → ((i : ℕ) → high i < 2 ^ 32) →
      (s.lo + m.lo < 2 ^ 64) × IfSome (add_ends s.hi m.hi) (λ end. end < 2 ^ 64)
  unfolding AreDistinct
  fits_one p ps s m rest within low_small high_small =
      let lows = total_join (λ i. has_symbol i p) (λ i. some_has i ps) low rest.distinct.2 in
      let highs = total_join (λ i. has_symbol i p) (λ i. some_has i ps) high rest.distinct.2 in
      let small = total_under (λ i. some_has i whole) low low_small in
      let high_total = total_under (λ i. some_has i whole) high high_small in (
        (let a = rest.lower in let b = within.lower in omega arith),
        ends_fit s.hi m.hi (total (λ i. has_symbol i p) high) (total (λ i. some_has i ps) high)
            (total (λ i. has_symbol i p || some_has i ps) high)
            (total (λ i. some_has i whole) high) highs rest.upper within.upper high_total,
      )

-- what is known at a member of an EachOf, and after it
module _
    (xs : List Count) (low high : ℕ → ℕ) (i : ℕ) (x : Count) (s : Interval) (lt : i < length xs)
    (is : x ≡ get_or xs i x)
    (rest : EachRest (plans_of xs) (plans_of (drop i xs)) low high s)
  where
    here_each : EachRest (plans_of xs) (more_plans (plan_of x) (plans_of (drop (i + 1) xs))) low high s
    here_each = subst (λ ps. EachRest (plans_of xs) ps low high s) (rest_at xs i x lt is) rest

    pub each_asks :
        IsDistinct (plan_of x) × ((k : ℕ) → has_symbol k (plan_of x) ≡ true → some_has k (plans_of xs) ≡ true)
    unfolding AreDistinct
    each_asks = (
      here_each.distinct.0,
      λ k h. here_each.part k
          (or_left (has_symbol k (plan_of x)) (some_has k (plans_of (drop (i + 1) xs))) h),
    )

    pub each_none : None ≡ span (plan_of x) low high → span_each (plans_of xs) low high ≡ None
    each_none none =
        empty_each (plans_of xs) low high (plan_of x) (plans_of (drop (i + 1) xs)) s here_each
        (ap (meet (Some s)) (sym none))

    pub each_apart :
        (m : Interval) → Some m ≡ span (plan_of x) low high → None ≡ meet (Some s) (Some m) →
        span_each (plans_of xs) low high ≡ None
    each_apart m found none =
        empty_each (plans_of xs) low high (plan_of x) (plans_of (drop (i + 1) xs)) s here_each
        (ap (meet (Some s)) (sym found) ∙ sym none)

    pub each_next :
        (m r : Interval) → Some m ≡ span (plan_of x) low high →
        IsWithin (λ k. has_symbol k (plan_of x)) low high m →
        Some r ≡ meet (Some s) (Some m) → EachRest (plans_of xs) (plans_of (drop (i + 1) xs)) low high r
    each_next m r found within met =
        next_each (plans_of xs) low high (plan_of x) (plans_of (drop (i + 1) xs)) s m r here_each (sym found) within
        (sym met)

pub each_end :
    (xs : List Count) (low high : ℕ → ℕ) (i : ℕ) (s : Interval) → length xs ≤ i →
    EachRest (plans_of xs) (plans_of (drop i xs)) low high s → Some s ≡ span_each (plans_of xs) low high
each_end xs low high i s le rest =
    sym (end_each (plans_of xs) low high s
    (subst (λ ps. EachRest (plans_of xs) ps low high s) (rest_end xs i le) rest))

-- what is known at a member of a OneOf, and after it
module _
    (xs : List Count) (low high : ℕ → ℕ) (i : ℕ) (x : Count) (s : Interval) (lt : i < length xs)
    (is : x ≡ get_or xs i x)
    (rest : OneRest (plans_of xs) (plans_of (drop i xs)) low high s)
  where
    here_one : OneRest (plans_of xs) (more_plans (plan_of x) (plans_of (drop (i + 1) xs))) low high s
    here_one = subst (λ ps. OneRest (plans_of xs) ps low high s) (rest_at xs i x lt is) rest

    pub one_asks :
        IsDistinct (plan_of x) × ((k : ℕ) → has_symbol k (plan_of x) ≡ true → some_has k (plans_of xs) ≡ true)
    unfolding AreDistinct
    one_asks = (
      here_one.distinct.0,
      λ k h. here_one.part k
          (or_left (has_symbol k (plan_of x)) (some_has k (plans_of (drop (i + 1) xs))) h),
    )

    pub one_none : None ≡ span (plan_of x) low high → span_one (plans_of xs) low high ≡ None
    one_none none = empty_one (plans_of xs) low high (plan_of x) (plans_of (drop (i + 1) xs)) s here_one (sym none)

    pub one_fits :
        (m : Interval) → IsWithin (λ k. has_symbol k (plan_of x)) low high m → ((k : ℕ) → low k < 2 ^ 32) →
        ((k : ℕ) → high k < 2 ^ 32) →
        (s.lo + m.lo < 2 ^ 64) × IfSome (add_ends s.hi m.hi) (λ end. end < 2 ^ 64)
    one_fits m within low_small high_small =
        fits_one (plans_of xs) low high (plan_of x)
        (plans_of (drop (i + 1) xs)) s m here_one within low_small high_small

    pub one_next :
        (m r : Interval) → Some m ≡ span (plan_of x) low high →
        IsWithin (λ k. has_symbol k (plan_of x)) low high m →
        Some r ≡ plus (Some s) (Some m) → OneRest (plans_of xs) (plans_of (drop (i + 1) xs)) low high r
    one_next m r found within sum =
        next_one (plans_of xs) low high (plan_of x) (plans_of (drop (i + 1) xs)) s m r here_one
        (sym found) within sum

pub one_end :
    (xs : List Count) (low high : ℕ → ℕ) (i : ℕ) (s : Interval) → length xs ≤ i →
    OneRest (plans_of xs) (plans_of (drop i xs)) low high s → Some s ≡ span_one (plans_of xs) low high
one_end xs low high i s le rest =
    sym (end_one (plans_of xs) low high s
    (subst (λ ps. OneRest (plans_of xs) ps low high s) (rest_end xs i le) rest))

pub one_within :
    (xs : List Count) (low high : ℕ → ℕ) (i : ℕ) (s : Interval) → length xs ≤ i →
    OneRest (plans_of xs) (plans_of (drop i xs)) low high s → IsWithin (λ k. some_has k (plans_of xs)) low high s
one_within xs low high i s le rest =
    within_one (plans_of xs) low high s (subst (λ ps. OneRest (plans_of xs) ps low high s) (rest_end xs i le) rest)
