-- No look raises the potential: so a phase ticks at most what it was at the start.
use Rattle.std.proofs.Common.{◌≡◌, ◌≢◌, ◌∙◌, ℕ, zero, suc, ◌<◌, ◌≤◌, ◌+◌, ◌*◌, ◌⊎◌, inl, inr, List, [], ◌∷◌, refl, arith, sym, subst, ap, Bool, true, false, true≢false}
use Rattle.std.proofs.Math.Nat.{mul-le-mul_left}
use Rattle.std.proofs.lemmas.Bool.{cases_eq, eq-eqb, eqb-true}
use Rattle.std.specs.Prelude.{◌↔◌, ◌&&◌, ◌||◌, Contains, Some, slice_get, slice_set, nat_eq}
use Rattle.schema_tree.specs.declared.verdicts.Verdict.{Verdict}
use Rattle.lists.proofs.Members.{in_rest, is_first, is_later, not_in_none}
use Rattle.removal_laws.specs.Costs.{bit, is_mark, is_on, needs_count, open_needs, phase_cost, potential, total, whole_cost}
use Rattle.removal_laws.proofs.Known.{set_here, set_other}
use Rattle.removal_laws.proofs.Verdicts.{verdict_apart, verdict_same}

-- ---- sums

pub total_le : (φ ψ : ℕ → ℕ) (n : ℕ) → ((i : ℕ) → i < n → φ i ≤ ψ i) → total φ n ≤ total ψ n
total_le φ ψ zero h = omega arith
total_le φ ψ (suc n) h = let a = h n (omega arith) in let b = total_le φ ψ n (λ i lt. h i (omega arith)) in omega (arith, a, b)

total_same : (φ ψ : ℕ → ℕ) (n : ℕ) → ((i : ℕ) → i < n → φ i ≡ ψ i) → total φ n ≡ total ψ n
total_same φ ψ zero h = refl
total_same φ ψ (suc n) h = let a = h n (omega arith) in let b = total_same φ ψ n (λ i lt. h i (omega arith)) in omega (arith, a, b)

-- two sums that differ in one place
pub total_at : (φ ψ : ℕ → ℕ) (at c n : ℕ) → at < n → ((i : ℕ) → i ≢ at → φ i ≡ ψ i) → φ at ≡ ψ at + c → total φ n ≡ total ψ n + c
total_at φ ψ at c zero lt same more = absurd (omega arith)
total_at φ ψ at c (suc n) lt same more = elim (cases_eq n at) [
  | inl e ↦ (let a : φ n ≡ ψ n + c = subst (λ j. φ j ≡ ψ j + c) (sym e) more in
      let b : total φ n ≡ total ψ n = total_same φ ψ n (λ i l. same i (λ f. omega arith)) in omega (arith, a, b))
  | inr ne ↦ (let a : φ n ≡ ψ n = same n ne in let b : total φ n ≡ total ψ n + c = total_at φ ψ at c n (omega arith) same more in omega (arith, a, b))
]

-- ---- what is on the agenda

pub on_true : (i : ℕ) (xs : List ℕ) → Contains xs i → is_on i xs ≡ true
on_true i [] c = absurd (not_in_none i c)
on_true i (x ∷ xs) c = go (nat_eq i x) refl (in_rest x xs i c) (λ later. on_true i xs later)
  where
    go : (b : Bool) → nat_eq i x ≡ b → (x ≡ i) ⊎ Contains xs i → (Contains xs i → is_on i xs ≡ true) → (b || is_on i xs) ≡ true
    go true is h deeper = refl
    go false is (inl e) deeper = absurd (true≢false (sym (eq-eqb i x (sym e)) ∙ is))
    go false is (inr later) deeper = deeper later

pub true_on : (i : ℕ) (xs : List ℕ) → is_on i xs ≡ true → Contains xs i
true_on i [] e = absurd (true≢false (sym e))
true_on i (x ∷ xs) e = go (nat_eq i x) refl (λ d. true_on i xs d) e
  where
    go : (b : Bool) → nat_eq i x ≡ b → (is_on i xs ≡ true → Contains xs i) → (b || is_on i xs) ≡ true → Contains (x ∷ xs) i
    go true is deeper h = subst (λ z. Contains (z ∷ xs) i) (eqb-true i x is) (is_first i xs)
    go false is deeper h = is_later x xs i (deeper h)

off : (i : ℕ) (xs : List ℕ) → ¬ Contains xs i → is_on i xs ≡ false
off i xs none = go (is_on i xs) refl
  where
    go : (b : Bool) → is_on i xs ≡ b → is_on i xs ≡ false
    go true e = absurd (none (true_on i xs e))
    go false e = e

same_on : (i : ℕ) (xs ys : List ℕ) → (Contains xs i → Contains ys i) → (Contains ys i → Contains xs i) → is_on i xs ≡ is_on i ys
same_on i xs ys to from = go (is_on i xs) refl
  where
    go : (b : Bool) → is_on i xs ≡ b → is_on i xs ≡ is_on i ys
    go true e = e ∙ sym (on_true i ys (to (true_on i xs e)))
    go false e = e ∙ sym (off i ys (λ c. true≢false (sym (on_true i xs (from c)) ∙ e)))

-- ---- marks

and_true : (b : Bool) → bit (b && true) ≡ bit b
and_true true = refl
and_true false = refl

and_false : (b : Bool) → bit (b && false) ≡ 0
and_false true = refl
and_false false = refl

module _ (cost : ℕ → ℕ) (need : ℕ → ℕ → Bool) (n : ℕ) (v : Verdict) where
  -- the least number is taken off the agenda: its look is paid
  pub pop : (marks : List Verdict) (at : ℕ) (old new : List ℕ) → at < n → ((q : ℕ) → Contains old q ↔ (Contains new q ⊎ (q ≡ at))) → ¬ Contains new at →
      potential cost need n v marks old ≡ potential cost need n v marks new + cost at
  pop marks at old new lt taken none = total_at _ _ at (cost at) n lt same here
    where
      same : (i : ℕ) → i ≢ at → cost i * (bit (is_on i old) + open_needs cost need n v marks i) ≡ cost i * (bit (is_on i new) + open_needs cost need n v marks i)
      same i ne =
          ap (λ b. cost i * (bit b + open_needs cost need n v marks i))
          (same_on i old new (λ c. elim ((taken i).0 c) [ inl l ↦ l | inr e ↦ absurd (ne e) ]) (λ c. (taken i).1 (inl c)))

      spread : (c o : ℕ) → c * (1 + o) ≡ c * (0 + o) + c
      spread c o = omega arith

      here : cost at * (bit (is_on at old) + open_needs cost need n v marks at) ≡ cost at * (bit (is_on at new) + open_needs cost need n v marks at) + cost at
      here =
          ap (λ b. cost at * (bit b + open_needs cost need n v marks at)) (on_true at old ((taken at).1 (inr refl)))
          ∙ (spread (cost at) (open_needs cost need n v marks at)
          ∙ ap (λ b. cost at * (bit b + open_needs cost need n v marks at) + cost at) (sym (off at new none)))

  -- a pair goes: those that need it may come onto the agenda, and need one pair less
  module _ (w : Verdict) (ne : v ≢ w) (marks : List Verdict) (at : ℕ) (lt : at < n) (is : slice_get marks at ≡ Some v) where
    abbrev marks' : List Verdict
    marks' = slice_set marks at w

    fewer : (i : ℕ) → open_needs cost need n v marks i ≡ open_needs cost need n v marks' i + bit (need at i)
    fewer i = total_at (λ j. bit (need j i && is_mark v (slice_get marks j))) (λ j. bit (need j i && is_mark v (slice_get marks' j))) at (bit (need at i)) n lt other here
      where
        other : (j : ℕ) → j ≢ at → bit (need j i && is_mark v (slice_get marks j)) ≡ bit (need j i && is_mark v (slice_get marks' j))
        other j apart = ap (λ m. bit (need j i && is_mark v m)) (sym (set_other marks at j w apart))

        was : bit (need at i && is_mark v (slice_get marks at)) ≡ bit (need at i)
        was = ap (λ m. bit (need at i && is_mark v m)) is ∙ (ap (λ b. bit (need at i && b)) (verdict_same v) ∙ and_true (need at i))

        now : bit (need at i && is_mark v (slice_get marks' at)) ≡ 0
        now = ap (λ m. bit (need at i && is_mark v m)) (set_here marks at v w is) ∙ (ap (λ b. bit (need at i && b)) (verdict_apart v w ne) ∙ and_false (need at i))

        here : bit (need at i && is_mark v (slice_get marks at)) ≡ bit (need at i && is_mark v (slice_get marks' at)) + bit (need at i)
        here = let a = was in let b = now in omega (arith, a, b)

    pub mark : (agenda next : List ℕ) → ((q : ℕ) → Contains next q → Contains agenda q ⊎ (need at q ≡ true)) → potential cost need n v marks' next ≤ potential cost need n v marks agenda
    mark agenda next from = total_le _ _ n (λ i l. mul-le-mul_left (cost i) (less i))
      where
        bits : (i : ℕ) (b : Bool) → is_on i next ≡ b → bit (is_on i next) ≤ bit (is_on i agenda) + bit (need at i)
        bits i false e = let a : bit (is_on i next) ≡ 0 = ap bit e in omega (arith, a)
        bits i true e = elim (from i (true_on i next e)) [
          | inl c ↦ (let a : bit (is_on i next) ≡ 1 = ap bit e in let b : bit (is_on i agenda) ≡ 1 = ap bit (on_true i agenda c) in omega (arith, a, b))
          | inr d ↦ (let a : bit (is_on i next) ≡ 1 = ap bit e in let b : bit (need at i) ≡ 1 = ap bit d in omega (arith, a, b))
        ]

        less : (i : ℕ) → bit (is_on i next) + open_needs cost need n v marks' i ≤ bit (is_on i agenda) + open_needs cost need n v marks i
        less i = let a = bits i (is_on i next) refl in let b = fewer i in omega (arith, a, b)

  -- at the start
  pub begin : (marks : List Verdict) (agenda : List ℕ) → potential cost need n v marks agenda ≤ phase_cost cost need n
  begin marks agenda = total_le _ _ n (λ i l. mul-le-mul_left (cost i) (most i))
    where
      one : (b : Bool) → bit b ≤ 1
      one true = omega arith
      one false = omega arith

      both : (b c : Bool) → bit (b && c) ≤ bit b
      both true c = one c
      both false c = omega arith

      most : (i : ℕ) → bit (is_on i agenda) + open_needs cost need n v marks i ≤ 1 + needs_count cost need n i
      most i =
          let a = one (is_on i agenda) in
          let b : open_needs cost need n v marks i ≤ needs_count cost need n i = total_le _ _ n (λ at l. both (need at i) (is_mark v (slice_get marks at))) in omega (arith, a, b)

-- two phases and a look at each pair for its record are the whole
pub whole : (cost : ℕ → ℕ) (need : ℕ → ℕ → Bool) (n : ℕ) → phase_cost cost need n + phase_cost cost need n + total cost n ≡ whole_cost cost need n
whole cost need n = go n
  where
    row : (c k : ℕ) → c * (1 + k) + c * (1 + k) + c ≡ (2 * k + 3) * c
    row c k = omega arith

    go : (m : ℕ) → total (λ i. cost i * (1 + needs_count cost need n i)) m + total (λ i. cost i * (1 + needs_count cost need n i)) m + total cost m ≡
        total (λ i. (2 * needs_count cost need n i + 3) * cost i) m
    go zero = refl
    go (suc m) = let a = row (cost m) (needs_count cost need n m) in let b = go m in omega (arith, a, b)
