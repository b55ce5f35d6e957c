-- Two decimal texts are ordered as what is left of them without idle zeros.
use Rattle.std.proofs.Common.{◌≡◌, ℕ, ◌+◌, ◌*◌, ◌^◌, Bool, true, false, ◌&&◌, ltb, List, [], ◌∷◌, ◌++◌, length, ℤ, pos, ◌*ℤ◌, Ordering, refl, sym, ◌∙◌, ap, arith}
use Rattle.std.specs.List.{suffix_len}
use Rattle.std.specs.Ordering.{int_cmp}
use Rattle.std.proofs.Math.Nat.{one-le-pow, add_comm}
use Rattle.std.proofs.lemmas.Bool.{ltb-false}
use Rattle.std.proofs.lemmas.Nat.{pow-add}
use Rattle.xs_text.specs.Digits.{has_minus, signed}
use Rattle.xs_text.specs.Decimal.{whole_part, fraction_part, significant_whole, significant_fraction, scaled, unscaled_value, scale}
use Rattle.xs_text.proofs.Value.{value}
use Rattle.xs_text.proofs.Zeros.{is_zero, without_leading, without_trailing, value_significant, length_without_trailing}
use Rattle.xs_text.proofs.Signs.{signed-mul, signed-zero, cmp_signed_scaled}

-- zero has no sign
sign_of_zero : (s b : Bool) (m : ℕ) → (b ≡ false → m ≡ 0) → signed s m ≡ signed (s && b) m
sign_of_zero true true m h = refl
sign_of_zero true false m h = ap (signed true) (h refl) ∙ signed-zero true false ∙ ap (signed false) (sym (h refl))
sign_of_zero false b m h = refl

value_none : (u v : List ℕ) (n : ℕ) → ltb 0 (length u + length v) ≡ false → value (u ++ v) * n ≡ 0
value_none [] [] n e = omega arith
value_none [] (c ∷ v) n e = absurd (omega (arith, ltb-false 0 (length {A = ℕ} [] + length (c ∷ v)) e))
value_none (c ∷ u) v n e = absurd (omega (arith, ltb-false 0 (length (c ∷ u) + length v) e))

exchange : (m a b c : ℕ) → m * a * (b * c) ≡ m * b * (a * c)
exchange m a b c = omega arith

-- one of them, brought to n + j digits behind the point
brought : (s : Bool) (w f : List ℕ) (n j : ℕ) →
    signed s (value (w ++ f)) *ℤ pos (10 ^ (n + j)) ≡ signed (s && ltb 0 (length (without_leading w) + length (without_trailing f)))
    (value (without_leading w ++ without_trailing f) * 10 ^ n * 10 ^ (suffix_len is_zero f + j))
brought s w f n j =
    let u = without_leading w in
    let v = without_trailing f in
    let M = value (u ++ v) in
    let k = suffix_len is_zero f in
    signed-mul s (value (w ++ f)) (10 ^ (n + j))
    ∙ ap (λ x. signed s (x * 10 ^ (n + j))) (value_significant w f)
    ∙ ap (λ x. signed s (M * 10 ^ k * x)) (pow-add 10 n j)
    ∙ ap (λ x. signed s x) (exchange M (10 ^ k) (10 ^ n) (10 ^ j))
    ∙ ap (λ x. signed s (M * 10 ^ n * x)) (sym (pow-add 10 k j))
    ∙ sign_of_zero s (ltb 0 (length u + length v)) (M * 10 ^ n * 10 ^ (k + j)) (λ e. ap (λ x. x * 10 ^ (k + j)) (value_none u v (10 ^ n) e) ∙ omega arith)

-- what is compared of a text
abbrev pub kept : List ℕ → ℕ → ℤ
kept text places = signed (has_minus text && ltb 0 (length (significant_whole text) + length (significant_fraction text))) (scaled (significant_whole text) (significant_fraction text) places)

pub cmp_texts : (a b : List ℕ) →
    int_cmp (kept a (length (significant_fraction b))) (kept b (length (significant_fraction a))) ≡ int_cmp (unscaled_value a *ℤ pos (10 ^ scale b)) (unscaled_value b *ℤ pos (10 ^ scale a))
cmp_texts a b =
    let j = suffix_len is_zero (fraction_part a) in
    let k = suffix_len is_zero (fraction_part b) in
    let n = length (significant_fraction a) in
    let m = length (significant_fraction b) in
    let s = has_minus a && ltb 0 (length (significant_whole a) + length (significant_fraction a)) in
    let t = has_minus b && ltb 0 (length (significant_whole b) + length (significant_fraction b)) in
    let x = value (significant_whole a ++ significant_fraction a) * 10 ^ m in
    let y = value (significant_whole b ++ significant_fraction b) * 10 ^ n in
    let left : unscaled_value a *ℤ pos (10 ^ scale b) ≡ signed s (x * 10 ^ (j + k)) =
    ap (λ i. unscaled_value a *ℤ pos (10 ^ i)) (length_without_trailing (fraction_part b)) ∙ brought (has_minus a) (whole_part a) (fraction_part a) m k in
    let right : unscaled_value b *ℤ pos (10 ^ scale a) ≡ signed t (y * 10 ^ (j + k)) =
    ap (λ i. unscaled_value b *ℤ pos (10 ^ i)) (length_without_trailing (fraction_part a)) ∙ brought (has_minus b) (whole_part b) (fraction_part b) n j
    ∙ ap (λ i. signed t (y * 10 ^ i)) (add_comm k j) in
    sym (ap (λ z. int_cmp z (unscaled_value b *ℤ pos (10 ^ scale a))) left ∙ ap (λ z. int_cmp (signed s (x * 10 ^ (j + k))) z) right
    ∙ cmp_signed_scaled s t x y (10 ^ (j + k)) (one-le-pow (j + k) 10 (omega arith)))

-- an answer for what is kept of two texts is one for the texts
pub answer_for_texts : (a b w f x y : List ℕ) (s t : Bool) (r : Ordering) → w ≡ significant_whole a → f ≡ significant_fraction a →
    s ≡ (has_minus a && ltb 0 (length (significant_whole a) + length (significant_fraction a))) → x ≡ significant_whole b → y ≡ significant_fraction b →
    t ≡ (has_minus b && ltb 0 (length (significant_whole b) + length (significant_fraction b))) →
    r ≡ int_cmp (signed s (scaled w f (length y))) (signed t (scaled x y (length f))) → r ≡ int_cmp (unscaled_value a *ℤ pos (10 ^ scale b)) (unscaled_value b *ℤ pos (10 ^ scale a))
answer_for_texts a b w f x y s t r ew ef es ex ey et e =
    e
    ∙ ap (λ z. int_cmp (signed z (scaled w f (length y))) (signed t (scaled x y (length f)))) es
    ∙ ap (λ z. int_cmp (signed (has_minus a && ltb 0 (length (significant_whole a) + length (significant_fraction a))) (scaled w f (length y))) (signed z (scaled x y (length f)))) et
    ∙ ap (λ z. int_cmp (signed (has_minus a && ltb 0 (length (significant_whole a) + length (significant_fraction a))) (scaled z f (length y))) (signed (has_minus b && ltb 0 (length (significant_whole b) + length (significant_fraction b))) (scaled x y (length f)))) ew
    ∙ ap (λ z. int_cmp (signed (has_minus a && ltb 0 (length (significant_whole a) + length (significant_fraction a))) (scaled (significant_whole a) f (length y))) (signed (has_minus b && ltb 0 (length (significant_whole b) + length (significant_fraction b))) (scaled z y (length f)))) ex
    ∙ ap (λ z. int_cmp (signed (has_minus a && ltb 0 (length (significant_whole a) + length (significant_fraction a))) (scaled (significant_whole a) z (length y))) (signed (has_minus b && ltb 0 (length (significant_whole b) + length (significant_fraction b))) (scaled (significant_whole b) y (length z)))) ef
    ∙ ap (λ z. int_cmp (kept a (length z)) (signed (has_minus b && ltb 0 (length (significant_whole b) + length (significant_fraction b))) (scaled (significant_whole b) z (length (significant_fraction a))))) ey
    ∙ cmp_texts a b
