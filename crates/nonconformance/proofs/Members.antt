-- What a walk over the members of an EachOf or a OneOf knows at each of them.
use Rattle.std.proofs.Common.{◌≡◌, ℕ, zero, suc, ◌+◌, ◌*◌, ◌<◌, ◌≤◌, inl, inr, refl, arith, sym, ap, subst, ◌∙◌, Bool, true, false, cond, List, length, drop, get_or, add-one, min, max}
use Rattle.std.proofs.lemmas.Bool.{cases_lt}
use Rattle.std.proofs.Math.ListN.{drop_of_length-le}
use Rattle.std.proofs.Math.Seq.{drop-cons}
use Rattle.std.specs.Prelude.{Option, Some, None, ◌-◌, ◌^◌, unwrap_or}
use Rattle.tally.specs.Totals.{EndsBy}
use Rattle.tally.specs.declared.Bound.{Bound}
use Rattle.tally.specs.declared.Bound.TheVariants.{Upto, Free}
use Rattle.tally.specs.declared.Count.{Count}
use Rattle.tally.specs.Plan.{Plan, Plans, no_plans, more_plans, plan_of, plans_of, sym as symbol, each, one, many}
use Rattle.tally.specs.Span.{add_ends}
use Rattle.nonconformance.specs.Bounds.{capped, is_among, least_each, least_of, least_one, least_or, lesser, max_ends, most_each, most_of, most_one, times_end}

-- the rest of a list of members, at one of them and at the end
pub rest_at :
    (xs : List Count) (i : ℕ) (x : Count) → i < length xs → x ≡ get_or xs i x →
    plans_of (drop i xs) ≡ more_plans (plan_of x) (plans_of (drop (i + 1) xs))
rest_at xs i x lt is =
    rw add-one (ap plans_of (drop-cons xs i x lt)
    ∙ ap (λ y. more_plans (plan_of y) (plans_of (drop (suc i) xs))) (sym is))

pub rest_end : (xs : List Count) (i : ℕ) → length xs ≤ i → plans_of (drop i xs) ≡ no_plans
rest_end xs i le = ap plans_of (drop_of_length-le xs le)

-- a product of a number that is cut off at m, cut off there
pub cut_times : (a n m : ℕ) → min (min a m * n) m ≡ min (n * a) m
cut_times a zero m = omega arith
cut_times a (suc n) m = elim (cases_lt m a) [
  | inl above ↦ (let same : min a m ≡ m = omega arith in rw same (let up : m ≤ m * suc n = times_more m n in let over : a ≤ suc n * a = more_times a n in omega arith))
  | inr within ↦ (let same : min a m ≡ a = omega arith in rw same (let turned : a * suc n ≡ suc n * a = omega arith in ap (λ z. min z m) turned))
]
  where
    times_more : (x k : ℕ) → x ≤ x * suc k
    times_more x k = omega arith

    more_times : (x k : ℕ) → x ≤ suc k * x
    more_times x k = omega arith

sum_step : (s a b m here next whole : ℕ) → min (s + (a + b)) m ≡ whole → here ≡ min a m → next ≡ min (s + here) m → min (next + b) m ≡ whole
sum_step s a b m here next whole h is sum = omega arith

-- the least so far, and that of the members that are left
abbrev pub least_with : Option ℕ → Plans → ℕ → ℕ
least_with None rest r = r
least_with (Some x) rest r = least_or rest x r

least_first : (rest : Plans) (a r m x whole : ℕ) → min (least_or rest a r) m ≡ whole → x ≡ min a m → min (least_or rest x r) m ≡ whole
least_first no_plans a r m x whole h is = omega arith
least_first (more_plans p ps) a r m x whole h is = omega arith

least_next : (rest : Plans) (a r m x y whole : ℕ) → min (min y (least_or rest a r)) m ≡ whole → x ≡ min y (min a m) → min (least_or rest x r) m ≡ whole
least_next no_plans a r m x y whole h is = omega arith
least_next (more_plans p ps) a r m x y whole h is = omega arith

module _ (cs : List ℕ) (m whole : ℕ) where
  pub least_sum_step :
      (xs : List Count) (i : ℕ) (x : Count) → i < length xs → x ≡ get_or xs i x → (s here next : ℕ) →
      min (s + least_each cs (plans_of (drop i xs))) m ≡ whole → here ≡ min (least_of cs (plan_of x)) m → next ≡ min (s + here) m →
      min (next + least_each cs (plans_of (drop (i + 1) xs))) m ≡ whole
  unfolding least_of
  least_sum_step xs i x lt is s here next h each_is sum =
      sum_step s (least_of cs (plan_of x)) (least_each cs (plans_of (drop (i + 1) xs))) m here next whole
      (subst (λ ps. min (s + least_each cs ps) m ≡ whole) (rest_at xs i x lt is) h) each_is sum

  pub least_sum_end : (xs : List Count) (i : ℕ) → length xs ≤ i → (s : ℕ) → min (s + least_each cs (plans_of (drop i xs))) m ≡ whole → s ≤ m → s ≡ whole
  unfolding least_of
  least_sum_end xs i le s h small =
      let last : min (s + least_each cs no_plans) m ≡ whole = subst (λ ps. min (s + least_each cs ps) m ≡ whole) (rest_end xs i le) h in
      last_of s last small
    where
      last_of : (s : ℕ) → min (s + 0) m ≡ whole → s ≤ m → s ≡ whole
      last_of s h small = omega arith

  pub least_one_step :
      (xs : List Count) (i : ℕ) (x : Count) → i < length xs → x ≡ get_or xs i x → (o : Option ℕ) (here next : ℕ) →
      min (least_with o (plans_of (drop i xs)) (least_one cs (plans_of (drop i xs)))) m ≡ whole → here ≡ min (least_of cs (plan_of x)) m → next ≡ lesser o here →
      min (least_or (plans_of (drop (i + 1) xs)) next (least_one cs (plans_of (drop (i + 1) xs)))) m ≡ whole
  unfolding least_of
  least_one_step xs i x lt is None here next h each_is sum =
      least_first (plans_of (drop (i + 1) xs)) (least_of cs (plan_of x)) (least_one cs (plans_of (drop (i + 1) xs))) m next whole
      (subst (λ ps. min (least_one cs ps) m ≡ whole) (rest_at xs i x lt is) h) (sum ∙ each_is)
  least_one_step xs i x lt is (Some y) here next h each_is sum =
      least_next (plans_of (drop (i + 1) xs)) (least_of cs (plan_of x)) (least_one cs (plans_of (drop (i + 1) xs))) m next y whole
      (subst (λ ps. min (least_or ps y (least_one cs ps)) m ≡ whole) (rest_at xs i x lt is) h) (sum ∙ ap (λ z. min y z) each_is)

-- at most
end_sum_step : (s a m here next : ℕ) (y w : Option ℕ) → capped (add_ends (Some s) (add_ends (Some a) y)) ≡ w → m ≡ 2 ^ 64 - 1 → here ≡ min a m → next ≡ min (s + here) m →
    capped (add_ends (Some next) y) ≡ w
end_sum_step s a m here next None w h is each_is sum = h
end_sum_step s a m here next (Some b) w h is each_is sum =
    ap (λ z. Some z) (let same : min (next + b) (2 ^ 64 - 1) ≡ min (s + (a + b)) (2 ^ 64 - 1) = rw (← is) (omega arith) in same) ∙ h

end_max_step : (s a m here next : ℕ) (y w : Option ℕ) → capped (max_ends (Some s) (max_ends (Some a) y)) ≡ w → m ≡ 2 ^ 64 - 1 → here ≡ min a m → next ≡ max s here →
    capped (max_ends (Some next) y) ≡ w
end_max_step s a m here next None w h is each_is sum = h
end_max_step s a m here next (Some b) w h is each_is sum =
    ap (λ z. Some z) (let same : min (max next b) (2 ^ 64 - 1) ≡ min (max s (max a b)) (2 ^ 64 - 1) = rw (← is) (omega arith) in same) ∙ h

-- what one member has, as it is cut off
some_capped : (x : Option ℕ) (here : ℕ) → Some here ≡ capped x → (a : ℕ) × (x ≡ Some a) × (here ≡ min a (2 ^ 64 - 1))
some_capped None here e = absurd cc
some_capped (Some a) here e = (a, refl, cc)

none_capped : (x : Option ℕ) → None ≡ capped x → x ≡ None
none_capped None e = refl
none_capped (Some a) e = absurd cc

no_sum : (s : ℕ) (y : Option ℕ) → capped (add_ends (Some s) (add_ends None y)) ≡ None
no_sum s y = refl

no_max : (s : ℕ) (y : Option ℕ) → capped (max_ends (Some s) (max_ends None y)) ≡ None
no_max s y = refl

pub start_sum : (y : Option ℕ) → capped (add_ends (Some 0) y) ≡ capped y
start_sum None = refl
start_sum (Some b) = ap (λ z. Some (min z (2 ^ 64 - 1))) (let same : 0 + b ≡ b = omega arith in same)

pub start_max : (y : Option ℕ) → capped (max_ends (Some 0) y) ≡ capped y
start_max None = refl
start_max (Some b) = ap (λ z. Some (min z (2 ^ 64 - 1))) (let same : max 0 b ≡ b = omega arith in same)

module _ (cs : List ℕ) (whole : Option ℕ) where
  pub most_sum_step :
      (xs : List Count) (i : ℕ) (x : Count) → i < length xs → x ≡ get_or xs i x → (s here next : ℕ) →
      capped (add_ends (Some s) (most_each cs (plans_of (drop i xs)))) ≡ whole → Some here ≡ capped (most_of cs (plan_of x)) → next ≡ min (s + here) (2 ^ 64 - 1) →
      capped (add_ends (Some next) (most_each cs (plans_of (drop (i + 1) xs)))) ≡ whole
  unfolding most_of
  most_sum_step xs i x lt is s here next h each_is sum =
      let (a, at, cut) = some_capped (most_of cs (plan_of x)) here each_is in
      end_sum_step s a (2 ^ 64 - 1) here next (most_each cs (plans_of (drop (i + 1) xs))) whole
      (subst (λ z. capped (add_ends (Some s) (add_ends z (most_each cs (plans_of (drop (i + 1) xs))))) ≡ whole) at
      (subst (λ ps. capped (add_ends (Some s) (most_each cs ps)) ≡ whole) (rest_at xs i x lt is) h)) refl cut sum

  pub most_sum_none :
      (xs : List Count) (i : ℕ) (x : Count) → i < length xs → x ≡ get_or xs i x → (s : ℕ) →
      capped (add_ends (Some s) (most_each cs (plans_of (drop i xs)))) ≡ whole → None ≡ capped (most_of cs (plan_of x)) → None ≡ whole
  unfolding most_of
  most_sum_none xs i x lt is s h none =
      let at = none_capped (most_of cs (plan_of x)) none in
      subst (λ z. capped (add_ends (Some s) (add_ends z (most_each cs (plans_of (drop (i + 1) xs))))) ≡ whole) at
      (subst (λ ps. capped (add_ends (Some s) (most_each cs ps)) ≡ whole) (rest_at xs i x lt is) h)

  pub most_sum_end : (xs : List Count) (i : ℕ) → length xs ≤ i → (s : ℕ) → capped (add_ends (Some s) (most_each cs (plans_of (drop i xs)))) ≡ whole → s ≤ 2 ^ 64 - 1 → Some s ≡ whole
  unfolding most_of
  most_sum_end xs i le s h small =
      ap (λ z. Some z) (let same : s ≡ min (s + 0) (2 ^ 64 - 1) = omega arith in same)
      ∙ subst (λ ps. capped (add_ends (Some s) (most_each cs ps)) ≡ whole) (rest_end xs i le) h

  pub most_max_step :
      (xs : List Count) (i : ℕ) (x : Count) → i < length xs → x ≡ get_or xs i x → (s here next : ℕ) →
      capped (max_ends (Some s) (most_one cs (plans_of (drop i xs)))) ≡ whole → Some here ≡ capped (most_of cs (plan_of x)) → next ≡ max s here →
      capped (max_ends (Some next) (most_one cs (plans_of (drop (i + 1) xs)))) ≡ whole
  unfolding most_of
  most_max_step xs i x lt is s here next h each_is sum =
      let (a, at, cut) = some_capped (most_of cs (plan_of x)) here each_is in
      end_max_step s a (2 ^ 64 - 1) here next (most_one cs (plans_of (drop (i + 1) xs))) whole
      (subst (λ z. capped (max_ends (Some s) (max_ends z (most_one cs (plans_of (drop (i + 1) xs))))) ≡ whole) at
      (subst (λ ps. capped (max_ends (Some s) (most_one cs ps)) ≡ whole) (rest_at xs i x lt is) h)) refl cut sum

  pub most_max_none :
      (xs : List Count) (i : ℕ) (x : Count) → i < length xs → x ≡ get_or xs i x → (s : ℕ) →
      capped (max_ends (Some s) (most_one cs (plans_of (drop i xs)))) ≡ whole → None ≡ capped (most_of cs (plan_of x)) → None ≡ whole
  unfolding most_of
  most_max_none xs i x lt is s h none =
      let at = none_capped (most_of cs (plan_of x)) none in
      subst (λ z. capped (max_ends (Some s) (max_ends z (most_one cs (plans_of (drop (i + 1) xs))))) ≡ whole) at
      (subst (λ ps. capped (max_ends (Some s) (most_one cs ps)) ≡ whole) (rest_at xs i x lt is) h)

  pub most_max_end : (xs : List Count) (i : ℕ) → length xs ≤ i → (s : ℕ) → capped (max_ends (Some s) (most_one cs (plans_of (drop i xs)))) ≡ whole → s ≤ 2 ^ 64 - 1 → Some s ≡ whole
  unfolding most_of
  most_max_end xs i le s h small =
      ap (λ z. Some z) (let same : s ≡ min (max s 0) (2 ^ 64 - 1) = omega arith in same)
      ∙ subst (λ ps. capped (max_ends (Some s) (most_one cs ps)) ≡ whole) (rest_end xs i le) h

-- ---- one layer
cut_one : (b : Bool) → cond b 1 0 ≡ min (cond b 1 0) (2 ^ 64 - 1)
cut_one true = refl
cut_one false = refl

pub least_symbol : (cs : List ℕ) (p : Plan) (i r : ℕ) (a : Bool) → p ≡ symbol i → a ≡ is_among cs i → r ≡ cond a 1 0 → r ≡ min (least_of cs p) (2 ^ 64 - 1)
unfolding least_of
least_symbol cs p i r a is same it =
    it ∙ ap (λ b. cond b 1 0) same ∙ cut_one (is_among cs i) ∙ ap (λ q. min (least_of cs q) (2 ^ 64 - 1)) (sym is)

pub least_all : (cs : List ℕ) (p : Plan) (ps : Plans) (r : ℕ) → p ≡ each ps → r ≡ min (least_each cs ps) (2 ^ 64 - 1) → r ≡ min (least_of cs p) (2 ^ 64 - 1)
unfolding least_of
least_all cs p ps r is it = it ∙ ap (λ q. min (least_of cs q) (2 ^ 64 - 1)) (sym is)

pub least_some : (cs : List ℕ) (p : Plan) (ps : Plans) (r : ℕ) → p ≡ one ps → r ≡ min (least_one cs ps) (2 ^ 64 - 1) → r ≡ min (least_of cs p) (2 ^ 64 - 1)
unfolding least_of
least_some cs p ps r is it = it ∙ ap (λ q. min (least_of cs q) (2 ^ 64 - 1)) (sym is)

pub least_repeated :
    (cs : List ℕ) (p q : Plan) (n : ℕ) (bound : Bound) (here number r : ℕ) → p ≡ many n bound q → here ≡ min (least_of cs q) (2 ^ 64 - 1) → number ≡ n →
    r ≡ min (here * number) (2 ^ 64 - 1) → r ≡ min (least_of cs p) (2 ^ 64 - 1)
unfolding least_of
least_repeated cs p q n bound here number r is it same product =
    product ∙ ap (λ x. min (x * number) (2 ^ 64 - 1)) it ∙ ap (λ x. min (min (least_of cs q) (2 ^ 64 - 1) * x) (2 ^ 64 - 1)) same
    ∙ cut_times (least_of cs q) n (2 ^ 64 - 1) ∙ ap (λ z. min (least_of cs z) (2 ^ 64 - 1)) (sym is)

pub most_symbol : (cs : List ℕ) (p : Plan) (i r : ℕ) (a : Bool) → p ≡ symbol i → a ≡ is_among cs i → r ≡ cond a 1 0 → Some r ≡ capped (most_of cs p)
unfolding most_of
most_symbol cs p i r a is same it =
    ap (λ z. Some z) (it ∙ ap (λ b. cond b 1 0) same ∙ cut_one (is_among cs i)) ∙ ap (λ q. capped (most_of cs q)) (sym is)

pub most_all : (cs : List ℕ) (p : Plan) (ps : Plans) (r : Option ℕ) → p ≡ each ps → r ≡ capped (most_each cs ps) → r ≡ capped (most_of cs p)
unfolding most_of
most_all cs p ps r is it = it ∙ ap (λ q. capped (most_of cs q)) (sym is)

pub most_some : (cs : List ℕ) (p : Plan) (ps : Plans) (r : Option ℕ) → p ≡ one ps → r ≡ capped (most_one cs ps) → r ≡ capped (most_of cs p)
unfolding most_of
most_some cs p ps r is it = it ∙ ap (λ q. capped (most_of cs q)) (sym is)

no_end : (x : ℕ) → 0 < x → times_end Free (Some x) ≡ None
no_end zero lt = absurd (omega arith)
no_end (suc x) lt = refl

cut_end : (bound : Bound) (a : ℕ) → capped (times_end bound (Some (min a (2 ^ 64 - 1)))) ≡ capped (times_end bound (Some a))
cut_end (Upto zero) a = refl
cut_end (Upto (suc k)) a =
    ap (λ z. Some z)
    (ap (λ z. min z (2 ^ 64 - 1)) (let turned : suc k * min a (2 ^ 64 - 1) ≡ min a (2 ^ 64 - 1) * suc k = omega arith in turned) ∙ cut_times a (suc k) (2 ^ 64 - 1))
cut_end Free zero = refl
cut_end Free (suc a) = ap capped (no_end (min (suc a) (2 ^ 64 - 1)) (omega arith))

-- the upper end of the child may be cut off first
cut_ends : (bound : Bound) (x : Option ℕ) → capped (times_end bound (capped x)) ≡ capped (times_end bound x)
cut_ends bound None = refl
cut_ends bound (Some a) = cut_end bound a

pub most_repeated :
    (cs : List ℕ) (p q : Plan) (n : ℕ) (bound : Bound) (here r : Option ℕ) → p ≡ many n bound q → here ≡ capped (most_of cs q) →
    r ≡ capped (times_end bound here) → r ≡ capped (most_of cs p)
unfolding most_of
most_repeated cs p q n bound here r is it product =
    product ∙ ap (λ z. capped (times_end bound z)) it ∙ cut_ends bound (most_of cs q) ∙ ap (λ z. capped (most_of cs z)) (sym is)

-- the least of those so far at the end
module _ (cs : List ℕ) (m whole : ℕ) where
  pub least_one_end :
      (xs : List Count) (i : ℕ) → length xs ≤ i → (o : Option ℕ) (r : ℕ) →
      min (least_with o (plans_of (drop i xs)) (least_one cs (plans_of (drop i xs)))) m ≡ whole → EndsBy o m → r ≡ unwrap_or o 0 → r ≡ whole
  unfolding least_of
  least_one_end xs i le o r h small it = it ∙ go o small (subst (λ ps. min (least_with o ps (least_one cs ps)) m ≡ whole) (rest_end xs i le) h)
    where
      go : (o : Option ℕ) → EndsBy o m → min (least_with o no_plans (least_one cs no_plans)) m ≡ whole → unwrap_or o 0 ≡ whole
      go None small e = (let none : min 0 m ≡ whole = e in omega arith)
      go (Some x) small e = (let some : min x m ≡ whole = e in omega arith)

pub lesser_small : (o : Option ℕ) (here a m r : ℕ) → here ≡ min a m → r ≡ lesser o here → r ≤ m
lesser_small None here a m r e f = omega arith
lesser_small (Some x) here a m r e f = omega arith

pub max_small : (s here r : ℕ) (x : Option ℕ) → s ≤ 2 ^ 64 - 1 → Some here ≡ capped x → r ≡ max s here → r ≤ 2 ^ 64 - 1
max_small s here r x small it is = let (a, at, cut) = some_capped x here it in omega arith

-- an end so often, where some repetition is allowed
pub end_times :
    (m h k r : ℕ) (most : Option ℕ) → ¬ (m ≡ 0) → most ≡ Some h → k ≡ m → r ≡ min (h * k) (2 ^ 64 - 1) → Some r ≡ capped (times_end (Upto m) most)
end_times zero h k r most some is same product = absurd (some refl)
end_times (suc u) h k r most some is same product =
    ap (λ z. Some z)
    (product ∙ ap (λ z. min (h * z) (2 ^ 64 - 1)) same
    ∙ ap (λ z. min z (2 ^ 64 - 1)) (let turned : h * suc u ≡ suc u * h = omega arith in turned))
    ∙ ap (λ x. capped (times_end (Upto (suc u)) x)) (sym is)
