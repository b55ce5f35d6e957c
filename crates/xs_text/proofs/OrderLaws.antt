-- The order of decimal texts is an order of their values.
use Rattle.std.proofs.Common.{◌≡◌, ℕ, ◌^◌, ◌<◌, List, ℤ, pos, ◌*ℤ◌, ◌<ℤ◌, ◌⊎◌, Less, Equal, refl, sym, ◌∙◌, ap, subst, inl, inr, arith}
use Rattle.std.specs.Ordering.{int_cmp}
use Rattle.std.specs.Cmp.{int_cmp_is, int_ranks, int_chain}
use Rattle.std.specs.Int.Signed.{<ℤ_irrefl}
use Rattle.std.proofs.Math.Nat.{one-le-pow}
use Rattle.std.proofs.lemmas.Cmp.{by_ranked}
use Rattle.xs_text.specs.Decimal.{unscaled_value, scale}
use Rattle.xs_text.specs.Laws.{OrderIsTotal, OrderIsStrict, OrderIsTransitive, OrderIsOfValues, OrderIsDecided, SameValueIsTransitive}
use Rattle.xs_text.proofs.Signs.{answer_less, answer_equal, int_cmp_scaled, int_mul_swap}

abbrev power : List ℕ → ℕ
power a = 10 ^ scale a

power_positive : (a : List ℕ) → 0 < power a
power_positive a = one-le-pow (scale a) 10 (omega arith)

-- a common factor may be put in, or left out
wider : (x y : ℤ) (k : ℕ) → 0 < k → x <ℤ y → (x *ℤ pos k) <ℤ (y *ℤ pos k)
wider x y k h l = (answer_less (x *ℤ pos k) (y *ℤ pos k) Less (sym (int_cmp_scaled x y k h ∙ sym (int_cmp_is x y Less l)))).0 refl

narrower : (x y : ℤ) (k : ℕ) → 0 < k → (x *ℤ pos k) <ℤ (y *ℤ pos k) → x <ℤ y
narrower x y k h l = (answer_less x y Less (int_cmp_is (x *ℤ pos k) (y *ℤ pos k) Less l ∙ int_cmp_scaled x y k h)).0 refl

same_narrower : (x y : ℤ) (k : ℕ) → 0 < k → x *ℤ pos k ≡ y *ℤ pos k → x ≡ y
same_narrower x y k h e = (answer_equal x y Equal (int_cmp_is (x *ℤ pos k) (y *ℤ pos k) Equal e ∙ int_cmp_scaled x y k h)).0 refl

-- over plain numbers x / p, y / q and z / r
chain : (x y z : ℤ) (p q r : ℕ) → 0 < p → 0 < q → 0 < r → (x *ℤ pos q) <ℤ (y *ℤ pos p) → (y *ℤ pos r) <ℤ (z *ℤ pos q) → (x *ℤ pos r) <ℤ (z *ℤ pos p)
chain x y z p q r hp hq hr l m =
    let first : (x *ℤ pos r *ℤ pos q) <ℤ (y *ℤ pos p *ℤ pos r) = subst (λ w. w <ℤ (y *ℤ pos p *ℤ pos r)) (int_mul_swap x q r) (wider (x *ℤ pos q) (y *ℤ pos p) r hr l) in
    let second : (y *ℤ pos p *ℤ pos r) <ℤ (z *ℤ pos p *ℤ pos q) = subst (λ w. w <ℤ (z *ℤ pos p *ℤ pos q)) (int_mul_swap y r p)
    (subst (λ w. (y *ℤ pos r *ℤ pos p) <ℤ w) (int_mul_swap z q p) (wider (y *ℤ pos r) (z *ℤ pos q) p hp m)) in
    narrower (x *ℤ pos r) (z *ℤ pos p) q hq (int_chain (x *ℤ pos r *ℤ pos q) (y *ℤ pos p *ℤ pos r) (z *ℤ pos p *ℤ pos q) first second)

same_chain : (x y z : ℤ) (p q r : ℕ) → 0 < q → x *ℤ pos q ≡ y *ℤ pos p → y *ℤ pos r ≡ z *ℤ pos q → x *ℤ pos r ≡ z *ℤ pos p
same_chain x y z p q r hq e f =
    same_narrower (x *ℤ pos r) (z *ℤ pos p) q hq
    (int_mul_swap x r q ∙ ap (λ w. w *ℤ pos r) e ∙ int_mul_swap y p r ∙ ap (λ w. w *ℤ pos p) f ∙ int_mul_swap z q p)

-- y / q in place of x / p
replaced : (x y z : ℤ) (p q r : ℕ) → 0 < p → 0 < q → 0 < r → x *ℤ pos q ≡ y *ℤ pos p → (x *ℤ pos r) <ℤ (z *ℤ pos p) → (y *ℤ pos r) <ℤ (z *ℤ pos q)
replaced x y z p q r hp hq hr e l =
    narrower (y *ℤ pos r) (z *ℤ pos q) p hp
    (subst (λ w. w <ℤ (z *ℤ pos q *ℤ pos p)) (int_mul_swap x r q ∙ ap (λ w. w *ℤ pos r) e ∙ int_mul_swap y p r)
    (subst (λ w. (x *ℤ pos r *ℤ pos q) <ℤ w) (int_mul_swap z p q) (wider (x *ℤ pos r) (z *ℤ pos p) q hq l)))

replaced_above : (x y z : ℤ) (p q r : ℕ) → 0 < p → 0 < q → 0 < r → x *ℤ pos q ≡ y *ℤ pos p → (z *ℤ pos p) <ℤ (x *ℤ pos r) → (z *ℤ pos q) <ℤ (y *ℤ pos r)
replaced_above x y z p q r hp hq hr e l =
    narrower (z *ℤ pos q) (y *ℤ pos r) p hp
    (subst (λ w. (z *ℤ pos q *ℤ pos p) <ℤ w) (int_mul_swap x r q ∙ ap (λ w. w *ℤ pos r) e ∙ int_mul_swap y p r)
    (subst (λ w. w <ℤ (x *ℤ pos r *ℤ pos q)) (int_mul_swap z p q) (wider (z *ℤ pos p) (x *ℤ pos r) q hq l)))

ranks : (x y : ℤ) → (x <ℤ y) ⊎ ((x ≡ y) ⊎ (y <ℤ x))
ranks x y = by_ranked (x <ℤ y) (x ≡ y) (y <ℤ x) (int_cmp x y) (int_ranks x y) (λ _ l. inl l) (λ _ e. inr (inl e)) (λ _ l. inr (inr l))

not_same : (x y : ℤ) → x <ℤ y → ¬ (x ≡ y)
not_same x y l e = <ℤ_irrefl (subst (λ w. w <ℤ y) e l)

not_back : (x y : ℤ) → x <ℤ y → ¬ (y <ℤ x)
not_back x y l m = <ℤ_irrefl (int_chain x y x l m)

below_or_not : (x y : ℤ) → (x <ℤ y) ⊎ (¬ (x <ℤ y))
below_or_not x y = elim (ranks x y) [ inl l ↦ inl l | inr r ↦ elim r [ inl e ↦ inr (λ l. not_same x y l e) | inr l ↦ inr (not_back y x l) ] ]

same_or_not : (x y : ℤ) → (x ≡ y) ⊎ (¬ (x ≡ y))
same_or_not x y = elim (ranks x y) [ inl l ↦ inr (not_same x y l) | inr r ↦ elim r [ inl e ↦ inl e | inr l ↦ inr (λ e. not_same y x l (sym e)) ] ]

pub order_is_total : OrderIsTotal
order_is_total a b = ranks (unscaled_value a *ℤ pos (power b)) (unscaled_value b *ℤ pos (power a))

pub order_is_strict : OrderIsStrict
order_is_strict a b l = (
  not_same (unscaled_value a *ℤ pos (power b)) (unscaled_value b *ℤ pos (power a)) l,
  not_back (unscaled_value a *ℤ pos (power b)) (unscaled_value b *ℤ pos (power a)) l,
)

pub order_is_transitive : OrderIsTransitive
order_is_transitive a b c l m =
    chain (unscaled_value a) (unscaled_value b) (unscaled_value c) (power a) (power b) (power c) (power_positive a) (power_positive b) (power_positive c) l m

pub order_is_of_values : OrderIsOfValues
order_is_of_values a b c e = (
  replaced (unscaled_value a) (unscaled_value b) (unscaled_value c) (power a) (power b) (power c) (power_positive a) (power_positive b) (power_positive c) e,
  replaced_above (unscaled_value a) (unscaled_value b) (unscaled_value c) (power a) (power b) (power c) (power_positive a) (power_positive b) (power_positive c) e,
)

pub order_is_decided : OrderIsDecided
order_is_decided a b = (
  below_or_not (unscaled_value a *ℤ pos (power b)) (unscaled_value b *ℤ pos (power a)),
  same_or_not (unscaled_value a *ℤ pos (power b)) (unscaled_value b *ℤ pos (power a)),
)

pub same_value_is_transitive : SameValueIsTransitive
same_value_is_transitive a b c e f =
    same_chain (unscaled_value a) (unscaled_value b) (unscaled_value c) (power a) (power b) (power c) (power_positive b) e f
