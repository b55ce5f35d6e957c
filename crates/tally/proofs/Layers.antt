-- The ends of the interval of a symbol, and of repetitions, are within the totals.
use Rattle.std.proofs.Common.{◌≡◌, ℕ, ◌*◌, ◌/◌, ◌<◌, ◌≤◌, ◌^◌, ◌≢◌, refl, sym, ap, subst, ◌∙◌, arith, Bool, true, false, cond}
use Rattle.std.proofs.lemmas.Bool.{eq-eqb}
use Rattle.std.proofs.lemmas.Bool.Decides.{nat_tests}
use Rattle.std.proofs.Math.Nat.{div-le_self, mul-le-mul_right}
use Rattle.std.specs.Prelude.{Option, Some, None, IfSome, nat_eq, nat_le}
use Rattle.tally.proofs.Exact.{ceil_le}
use Rattle.tally.proofs.Totals.{total_one}
use Rattle.tally.specs.declared.Bound.{Bound}
use Rattle.tally.specs.declared.Bound.TheVariants.{Upto, Free}
use Rattle.tally.specs.declared.Interval.{Interval}
use Rattle.tally.specs.Plan.{Plan, sym as symbol, many}
use Rattle.tally.specs.Symbols.{Covers, has_symbol}
use Rattle.tally.specs.Span.{all, span, is_nothing, least, most, proper, repeated}
use Rattle.tally.specs.Totals.{total, EndsBy, IsWithin}

within_proper :
    (a : ℕ → Bool) (low high : ℕ → ℕ) (lo : ℕ) (hi : Option ℕ) → lo ≤ total a low → EndsBy hi (total a high) →
    IfSome (proper lo hi) (IsWithin a low high)
within_proper a low high lo None p q = record { lower = p; upper = q }
within_proper a low high lo (Some h) p q = go (nat_le lo h)
  where
    go : (b : Bool) → IfSome (cond b (Some (record { lo = lo; hi = Some h })) None) (IsWithin a low high)
    go true = record { lower = p; upper = q }
    go false = tt

pub symbol_within :
    (low high : ℕ → ℕ) (i : ℕ) → i < 2 ^ 16 →
    IfSome (proper (low i) (Some (high i))) (IsWithin (λ k. nat_eq i k) low high)
symbol_within low high i small =
    within_proper (λ k. nat_eq i k) low high (low i) (Some (high i))
    (total_one (λ k. nat_eq i k) low i small (eq-eqb i i refl))
    (total_one (λ k. nat_eq i k) high i small (eq-eqb i i refl))

least_le : (bound : Bound) (lo : ℕ) → is_nothing bound ≡ false → least bound lo ≤ lo
least_le Free lo some = go (nat_eq lo 0) refl
  where
    go : (b : Bool) → nat_eq lo 0 ≡ b → cond b 0 1 ≤ lo
    go true is = omega arith
    go false is = (let ne : lo ≢ 0 = (λ z. grind (arith, nat_tests)) in omega arith)
least_le (Upto m) lo some =
    let ne : m ≢ 0 = (λ z. grind (arith, nat_tests)) in
    let more : 1 * lo ≤ m * lo = mul-le-mul_right lo (omega arith) in
    ceil_le lo m lo (omega arith) (omega arith)

most_by : (n : ℕ) (hi : Option ℕ) (t : ℕ) → EndsBy hi t → EndsBy (most n hi) t
most_by n None t p = tt
most_by n (Some h) t p = go (nat_eq n 0)
  where
    go : (b : Bool) → EndsBy (cond b None (Some (h / n))) t
    go true = tt
    go false = (let less = div-le_self h n in omega arith)

pub repeated_within :
    (a : ℕ → Bool) (low high : ℕ → ℕ) (n : ℕ) (bound : Bound) (s : Interval) → IsWithin a low high s →
    IfSome (repeated n bound (Some s)) (IsWithin a low high)
repeated_within a low high n bound s w = go (is_nothing bound) refl
  where
    nothing : (b : Bool) → IfSome (cond b (Some all) None) (IsWithin a low high)
    nothing true = record { lower = omega arith; upper = tt }
    nothing false = tt

    go : (b : Bool) → is_nothing bound ≡ b →
        IfSome (cond b (cond (nat_eq s.lo 0) (Some all) None) (proper (least bound s.lo) (most n s.hi)))
        (IsWithin a low high)
    go true is = nothing (nat_eq s.lo 0)
    go false is =
        within_proper a low high (least bound s.lo) (most n s.hi)
        (let low_end = w.lower in let less = least_le bound s.lo is in omega arith)
        (most_by n s.hi (total a high) w.upper)

pub symbol_below : (n i : ℕ) (p : Plan) → p ≡ symbol i → Covers n p → i < n
symbol_below n i p is below = subst (Covers n) is below i (eq-eqb i i refl)

module _ (low high : ℕ → ℕ) (p : Plan) (r : Option Interval) where
  -- the interval of an expression that is a symbol
  pub symbol_span :
      (i j a b : ℕ) → p ≡ symbol i → j ≡ i → a ≡ low j → b ≡ high j → r ≡ proper a (Some b) →
      r ≡ span p low high
  unfolding span
  symbol_span i j a b is at lower upper value =
      value ∙ (ap (λ x. proper x (Some b)) (lower ∙ ap low at)
      ∙ (ap (λ x. proper (low i) (Some x)) (upper ∙ ap high at) ∙ ap (λ q. span q low high) (sym is)))

  pub symbol_ends :
      (i : ℕ) → p ≡ symbol i → i < 2 ^ 16 → r ≡ span p low high →
      IfSome r (IsWithin (λ k. has_symbol k p) low high)
  unfolding span
  symbol_ends i is small value =
      let here : r ≡ proper (low i) (Some (high i)) = value ∙ ap (λ q. span q low high) is in
      rw (here, is) (symbol_within low high i small)

  -- the interval of an expression with a cardinality
  pub many_none :
      (n : ℕ) (bound : Bound) (q : Plan) → p ≡ many n bound q → None ≡ span q low high → r ≡ None →
      r ≡ span p low high
  unfolding span
  many_none n bound q is none value = value ∙ sym (ap (λ x. span x low high) is ∙ ap (repeated n bound) (sym none))

  pub many_span :
      (n : ℕ) (bound : Bound) (q : Plan) (s : Interval) → p ≡ many n bound q → Some s ≡ span q low high →
      r ≡ repeated n bound (Some s) →
      r ≡ span p low high
  unfolding span
  many_span n bound q s is some value = value ∙ (ap (repeated n bound) some ∙ ap (λ x. span x low high) (sym is))

  pub many_ends :
      (n : ℕ) (bound : Bound) (q : Plan) (s : Interval) → p ≡ many n bound q →
      IsWithin (λ k. has_symbol k q) low high s →
      r ≡ repeated n bound (Some s) → IfSome r (IsWithin (λ k. has_symbol k p) low high)
  many_ends n bound q s is within value =
      rw (value, is) (repeated_within (λ k. has_symbol k q) low high n bound s within)
