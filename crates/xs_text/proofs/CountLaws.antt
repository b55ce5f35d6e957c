-- The counts of digits are the least of a quotient that is the number.
use Rattle.std.proofs.Common.{◌≡◌, ◌≢◌, ℕ, suc, ◌+◌, ◌-◌, ◌*◌, ◌^◌, ◌%◌, ◌<◌, ◌≤◌, true, ◌&&◌, ltb, List, [], ◌∷◌, ◌++◌, length, ℤ, pos, ◌*ℤ◌, unsigned_abs, inl, inr, sym, ◌∙◌, ap, arith, length-append}
use Rattle.std.specs.List.{suffix_len, prefix_len}
use Rattle.std.specs.Char.{digit_value}
use Rattle.std.proofs.Math.Nat.{pow-suc, one-le-pow, pow-le-pow_right, mul-le-mul_right, add-mul-mod_self_right, mul-mod_left}
use Rattle.std.proofs.lemmas.Bool.{and_parts, and_from, cases_lt}
use Rattle.std.proofs.lemmas.Int.{unsigned_abs-mul}
use Rattle.std.proofs.lemmas.List.Folds.{list_all-append}
use Rattle.std.proofs.lemmas.Nat.{pow-add}
use Rattle.xs_text.specs.Digits.{are_digits, has_minus, signed}
use Rattle.xs_text.specs.Decimal.{is_decimal, whole_part, fraction_part, significant_whole, significant_fraction, unscaled_value, scale}
use Rattle.xs_text.specs.Laws.{IsQuotient, FractionDigitsAreLeast, TotalDigitsAreLeast}
use Rattle.xs_text.proofs.Value.{value, value-cons, value-append, value-lt, first_digit, digit_bound, same_scaled}
use Rattle.xs_text.proofs.Order.{NoLeadingZero, NoTrailingZero, no_trailing_rest}
use Rattle.xs_text.proofs.Zeros.{is_zero, are_digits-drop, are_digits-take, no_leading, no_trailing, value_significant, length_without_trailing}
use Rattle.xs_text.proofs.Signs.{signed-mul, unsigned_abs-signed}

-- digits that end in no zero write no multiple of ten
ends_in_digit : (v : List ℕ) → are_digits v ≡ true → NoTrailingZero v → 0 < length v → value v % 10 ≢ 0
ends_in_digit [] h z l = absurd (omega arith)
ends_in_digit (c ∷ []) h z l = λ e.
    let digit = digit_bound c (first_digit c [] h).0 in
    let nonzero : c ≢ 48 = z (omega arith) in
    absurd (omega (arith, value-cons c []))
ends_in_digit (c ∷ d ∷ v) h z l =
    let rest = ends_in_digit (d ∷ v) (first_digit c (d ∷ v) h).1 (no_trailing_rest c (d ∷ v) z) (omega arith) in
    λ e. rest (sym (add-mul-mod_self_right (value (d ∷ v)) (digit_value c * 10 ^ length v) 10)
    ∙ ap (λ n. n % 10) (tens (digit_value c) (10 ^ length v) (value (d ∷ v)) ∙ sym (value-cons c (d ∷ v) ∙ ap (λ n. digit_value c * n + value (d ∷ v)) (pow-suc 10 (length v)))) ∙ e)
  where
    tens : (c p v : ℕ) → v + c * p * 10 ≡ c * (p * 10) + v
    tens c p v = omega arith

number_ends_in_digit : (u v : List ℕ) → are_digits v ≡ true → NoTrailingZero v → 0 < length v → value (u ++ v) % 10 ≢ 0
number_ends_in_digit u [] h z l = absurd (omega arith)
number_ends_in_digit u (c ∷ v) h z l = λ e.
    ends_in_digit (c ∷ v) h z l (sym (add-mul-mod_self_right (value (c ∷ v)) (value u * 10 ^ length v) 10)
    ∙ ap (λ n. n % 10) (tens (value u) (10 ^ length v) (value (c ∷ v)) ∙ sym (value-append u (c ∷ v) ∙ ap (λ n. value u * n + value (c ∷ v)) (pow-suc 10 (length v)))) ∙ e)
  where
    tens : (c p v : ℕ) → v + c * p * 10 ≡ c * (p * 10) + v
    tens c p v = omega arith

-- M / 10 ^ |v| in no smaller a power of ten
least_power : (u v : List ℕ) (i n : ℕ) → are_digits v ≡ true → NoTrailingZero v → value (u ++ v) * 10 ^ n ≡ i * 10 ^ length v → length v ≤ n
least_power u v i n h z e = elim (cases_lt n (length v)) [
  | inl l ↦ absurd (
      let d = length v - suc n in
      let long : length v ≡ n + suc d = omega arith in
      let power : 10 ^ length v ≡ 10 ^ n * (10 ^ d * 10) = ap (λ m. 10 ^ m) long ∙ pow-add 10 n (suc d) ∙ ap (λ m. 10 ^ n * m) (pow-suc 10 d) in
      let same : value (u ++ v) ≡ i * 10 ^ d * 10 = same_scaled (value (u ++ v)) (i * 10 ^ d * 10) (10 ^ n) (one-le-pow n 10 (omega arith)) (e ∙ ap (λ m. i * m) power ∙ regroup i (10 ^ n) (10 ^ d)) in
      number_ends_in_digit u v h z (omega arith) (ap (λ m. m % 10) same ∙ mul-mod_left (i * 10 ^ d) 10))
  | inr l ↦ l
]
  where
    regroup : (i p q : ℕ) → i * (p * (q * 10)) ≡ i * q * 10 * p
    regroup i p q = omega arith

power_order : (a b : ℕ) → 10 ^ a < 10 ^ b → a < b
power_order a b l = elim (cases_lt a b) [
  | inl h ↦ h
  | inr h ↦ absurd (
      let most : 10 ^ b ≤ 10 ^ a = pow-le-pow_right (omega arith) h in omega arith)
]

-- the digits before the point are as many as the number needs
least_digits : (u v : List ℕ) (i n t : ℕ) → are_digits u ≡ true → NoLeadingZero u → value (u ++ v) * 10 ^ n ≡ i * 10 ^ length v → i < 10 ^ t → length v ≤ n → n ≤ t → length u + length v ≤ t
least_digits [] v i n t h z e l m k = omega arith
least_digits (c ∷ u) v i n t h z e l m k =
    let parts = first_digit c u h in
    let digit = digit_bound c parts.0 in
    let nonzero : c ≢ 48 = z (omega arith) in
    let U = 10 ^ length u in
    let V = 10 ^ length v in
    let N = 10 ^ n in
    let first : 1 * U ≤ digit_value c * U = mul-le-mul_right U (omega arith) in
    let whole : U ≤ value (c ∷ u) = omega (arith, value-cons c u) in
    let both : U * V ≤ value (c ∷ u) * V = mul-le-mul_right V whole in
    let number : U * V ≤ value ((c ∷ u) ++ v) = omega (arith, value-append (c ∷ u) v) in
    let shifted : U * V * N ≤ value ((c ∷ u) ++ v) * N = mul-le-mul_right N number in
    let narrow : U * N ≤ i = cancelled (U * N) i V (one-le-pow (length v) 10 (omega arith)) (turned U V N i (omega arith)) in
    let power : 10 ^ (length u + n) ≡ U * N = pow-add 10 (length u) n in
    let short : length u + n < t = power_order (length u + n) t (omega arith) in
    omega arith
  where
    turned : (u v n i : ℕ) → u * v * n ≤ i * v → u * n * v ≤ i * v
    turned u v n i h = omega arith

    cancelled : (a b k : ℕ) → 0 < k → a * k ≤ b * k → a ≤ b
    cancelled a b k h l = elim (cases_lt b a) [
      | inl m ↦ absurd (
          let more : suc b * k ≤ a * k = mul-le-mul_right k m in omega arith)
      | inr m ↦ m
    ]

-- the parts of a decimal text
pub record Parts (text : List ℕ) : Type 0 where
  pub whole : are_digits (significant_whole text) ≡ true
  pub fraction : are_digits (significant_fraction text) ≡ true

parts_of : (text : List ℕ) → is_decimal text ≡ true → Parts text
parts_of text h =
    let both = (and_parts (are_digits (whole_part text) && are_digits (fraction_part text)) (ltb 0 (length (whole_part text) + length (fraction_part text))) h).0 in
    let each = and_parts (are_digits (whole_part text)) (are_digits (fraction_part text)) both in
    record {
      whole = are_digits-drop (prefix_len is_zero (whole_part text)) (whole_part text) each.0;
      fraction = are_digits-take (length (fraction_part text) - suffix_len is_zero (fraction_part text)) (fraction_part text) each.1;
    }

magnitude : List ℕ → ℕ
magnitude text = value (significant_whole text ++ significant_fraction text)

-- the number is its digits over a power of ten
is_quotient : (text : List ℕ) → IsQuotient text (signed (has_minus text) (magnitude text)) (length (significant_fraction text))
unfolding magnitude
is_quotient text =
    let f = fraction_part text in
    let s = has_minus text in
    let k = suffix_len is_zero f in
    let V = 10 ^ length (significant_fraction text) in
    let M = magnitude text in
    ap (λ m. signed s m *ℤ pos V) (value_significant (whole_part text) f)
    ∙ signed-mul s (M * 10 ^ k) V
    ∙ ap (signed s) (regroup M (10 ^ k) V)
    ∙ ap (λ m. signed s (M * m)) (sym (pow-add 10 (length (significant_fraction text)) k))
    ∙ ap (λ m. signed s (M * 10 ^ m)) (sym (length_without_trailing f))
    ∙ sym (signed-mul s M (10 ^ scale text))
  where
    regroup : (m a b : ℕ) → m * a * b ≡ m * (b * a)
    regroup m a b = omega arith

-- what a quotient says of the magnitudes
magnitudes : (text : List ℕ) (i : ℤ) (n : ℕ) → IsQuotient text i n → magnitude text * 10 ^ n ≡ unsigned_abs i * 10 ^ length (significant_fraction text)
unfolding magnitude
magnitudes text i n q =
    let f = fraction_part text in
    let s = has_minus text in
    let k = suffix_len is_zero f in
    let V = 10 ^ length (significant_fraction text) in
    let M = magnitude text in
    let K = 10 ^ k in
    let left : unsigned_abs (unscaled_value text *ℤ pos (10 ^ n)) ≡ M * K * 10 ^ n =
    unsigned_abs-mul (unscaled_value text) (pos (10 ^ n))
    ∙ ap (λ m. m * 10 ^ n) (unsigned_abs-signed s (value (whole_part text ++ f)) ∙ value_significant (whole_part text) f) in
    let right : unsigned_abs (i *ℤ pos (10 ^ scale text)) ≡ unsigned_abs i * (V * K) =
    unsigned_abs-mul i (pos (10 ^ scale text))
    ∙ ap (λ m. unsigned_abs i * 10 ^ m) (length_without_trailing f)
    ∙ ap (λ m. unsigned_abs i * m) (pow-add 10 (length (significant_fraction text)) k) in
    same_scaled (M * 10 ^ n) (unsigned_abs i * V) K (one-le-pow k 10 (omega arith))
    (turn M (10 ^ n) K ∙ sym left ∙ ap unsigned_abs q ∙ right ∙ regroup (unsigned_abs i) V K)
  where
    turn : (m a b : ℕ) → m * a * b ≡ m * b * a
    turn m a b = omega arith

    regroup : (m a b : ℕ) → m * (a * b) ≡ m * a * b
    regroup m a b = omega arith

magnitude_bound : (text : List ℕ) → Parts text → magnitude text < 10 ^ (length (significant_whole text) + length (significant_fraction text))
unfolding magnitude
magnitude_bound text p =
    let u = significant_whole text in
    let v = significant_fraction text in
    let digits : are_digits (u ++ v) ≡ true = list_all-append _ u v ∙ and_from (are_digits u) (are_digits v) p.whole p.fraction in
    omega (arith, value-lt (u ++ v) digits, ap (λ n. 10 ^ n) (length-append u v))

pub fraction_digits_are_least : FractionDigitsAreLeast
unfolding magnitude
fraction_digits_are_least text f h = (
  λ l. (signed (has_minus text) (magnitude text), length (significant_fraction text), l, is_quotient text),
  λ q.
      let p = parts_of text h in
      let least = least_power (significant_whole text) (significant_fraction text) (unsigned_abs q.0) q.1 p.fraction (no_trailing (fraction_part text)) (magnitudes text q.0 q.1 q.3) in
      omega (arith, q.2),
)

pub total_digits_are_least : TotalDigitsAreLeast
unfolding magnitude
total_digits_are_least text t h one =
    let u = significant_whole text in
    let v = significant_fraction text in
    let p = parts_of text h in (
      λ l.
          let most : 10 ^ (length u + length v) ≤ 10 ^ t = pow-le-pow_right (omega arith) (omega arith) in
          (signed (has_minus text) (magnitude text), length v, omega (arith, magnitude_bound text p, unsigned_abs-signed (has_minus text) (magnitude text)), omega arith, is_quotient text),
      λ q.
          let same = magnitudes text q.0 q.1 q.4 in
          let least = least_power u v (unsigned_abs q.0) q.1 p.fraction (no_trailing (fraction_part text)) same in
          let digits = least_digits u v (unsigned_abs q.0) q.1 t p.whole (no_leading (whole_part text)) same q.2 least q.3 in
          omega arith,
    )
