-- Digit texts without idle zeros are ordered as their numbers.
use Rattle.std.proofs.Common.{◌≡◌, ◌≢◌, ℕ, suc, ◌+◌, ◌-◌, ◌*◌, ◌^◌, ◌<◌, ◌≤◌, true, List, [], ◌∷◌, ◌++◌, length, get_or, Less, Greater, refl, sym, ◌∙◌, ap, arith}
use Rattle.std.specs.Char.{is_ascii_digit, digit_value}
use Rattle.std.specs.Ordering.{nat_cmp, ordering_then}
use Rattle.std.specs.Cmp.{nat_cmp_is}
use Rattle.std.specs.Cmp.Lexicographic.{slice_cmp}
use Rattle.std.proofs.Math.Nat.{pow-suc, mul-le-mul_right, mul-lt-mul_of_pos_right, one-le-pow, pow-le-pow_right}
use Rattle.std.proofs.lemmas.Bool.Decides.{nat_tests}
use Rattle.std.proofs.lemmas.Cmp.{ranked, by_ranked}
use Rattle.xs_text.specs.Digits.{are_digits}
use Rattle.xs_text.proofs.Value.{value, value-cons, value-append, value-lt, cmp_mixed, cmp_scaled, first_digit, digit_bound}

-- no zero at the front, or at the end
abbrev pub NoLeadingZero : List ℕ → Type 0
NoLeadingZero xs = 0 < length xs → get_or xs 0 0 ≢ 48

abbrev pub NoTrailingZero : List ℕ → Type 0
NoTrailingZero xs = 0 < length xs → get_or xs (length xs - 1) 0 ≢ 48

cmp_digits : (c d : ℕ) → is_ascii_digit c ≡ true → is_ascii_digit d ≡ true → nat_cmp c d ≡ nat_cmp (digit_value c) (digit_value d)
cmp_digits c d h k =
    let a = digit_bound c h in
    let b = digit_bound d k in
    cmp_shifted c d (digit_value c) (digit_value d) (a.0) (b.0)
  where
    cmp_shifted : (c d m n : ℕ) → m + 48 ≡ c → n + 48 ≡ d → nat_cmp c d ≡ nat_cmp m n
    cmp_shifted c d m n e f = grind (arith, nat_tests)

-- texts of one length
pub cmp_as_long : (xs ys : List ℕ) → are_digits xs ≡ true → are_digits ys ≡ true → length xs ≡ length ys → slice_cmp nat_cmp xs ys ≡ nat_cmp (value xs) (value ys)
cmp_as_long [] [] h k e = refl
cmp_as_long [] (y ∷ ys) h k e = absurd (omega arith)
cmp_as_long (x ∷ xs) [] h k e = absurd (omega arith)
cmp_as_long (x ∷ xs) (y ∷ ys) h k e =
    let a = first_digit x xs h in
    let b = first_digit y ys k in
    let same : length xs ≡ length ys = omega arith in
    let rest = cmp_as_long xs ys a.1 b.1 same in
    let wide : 10 ^ length xs ≡ 10 ^ length ys = ap (λ n. 10 ^ n) same in
    let low = value-lt xs a.1 in
    let mixed = cmp_mixed (digit_value x) (digit_value y) (value xs) (value ys) (10 ^ length xs) low (omega (arith, value-lt ys b.1, wide)) in
    let left = value-cons x xs in
    let right : value (y ∷ ys) ≡ digit_value y * 10 ^ length xs + value ys = value-cons y ys ∙ ap (λ p. digit_value y * p + value ys) (sym wide) in
    ap (λ o. ordering_then o (slice_cmp nat_cmp xs ys)) (cmp_digits x y a.0 b.0)
    ∙ ap (λ o. ordering_then (nat_cmp (digit_value x) (digit_value y)) o) rest
    ∙ sym mixed
    ∙ ap (λ n. nat_cmp n (digit_value y * 10 ^ length xs + value ys)) (sym left)
    ∙ ap (λ n. nat_cmp (value (x ∷ xs)) n) (sym right)

-- a shorter text writes less
pub shorter_below : (xs ys : List ℕ) → are_digits xs ≡ true → are_digits ys ≡ true → NoLeadingZero ys → length xs < length ys → value xs < value ys
shorter_below xs [] h k z l = absurd (omega arith)
shorter_below xs (y ∷ ys) h k z l =
    let b = first_digit y ys k in
    let digit = digit_bound y b.0 in
    let nonzero : y ≢ 48 = z (omega arith) in
    let most : 10 ^ length xs ≤ 10 ^ length ys = pow-le-pow_right (omega arith) (omega arith) in
    let least : 1 * 10 ^ length ys ≤ digit_value y * 10 ^ length ys = mul-le-mul_right (10 ^ length ys) (omega arith) in
    omega (arith, value-lt xs h, value-cons y ys)

pub cmp_whole : (xs ys : List ℕ) → are_digits xs ≡ true → are_digits ys ≡ true → NoLeadingZero xs → NoLeadingZero ys →
    ordering_then (nat_cmp (length xs) (length ys)) (slice_cmp nat_cmp xs ys) ≡ nat_cmp (value xs) (value ys)
cmp_whole xs ys h k z w =
    by_ranked (length xs < length ys) (length xs ≡ length ys) (length ys < length xs) (nat_cmp (length xs) (length ys)) (ranked (length xs) (length ys) (nat_cmp (length xs) (length ys)) refl)
    (λ e l. ap (λ o. ordering_then o (slice_cmp nat_cmp xs ys)) e ∙ nat_cmp_is (value xs) (value ys) Less (shorter_below xs ys h k w l))
    (λ e l. ap (λ o. ordering_then o (slice_cmp nat_cmp xs ys)) e ∙ cmp_as_long xs ys h k l)
    (λ e l. ap (λ o. ordering_then o (slice_cmp nat_cmp xs ys)) e ∙ nat_cmp_is (value xs) (value ys) Greater (shorter_below ys xs k h z l))

-- behind a digit that is not zero
pub no_trailing_rest : (c : ℕ) (cs : List ℕ) → NoTrailingZero (c ∷ cs) → NoTrailingZero cs
no_trailing_rest c [] z l = absurd (omega arith)
no_trailing_rest c (d ∷ cs) z l =
    let last : length (c ∷ d ∷ cs) - 1 ≡ suc (length (d ∷ cs) - 1) = omega arith in
    λ e. z (omega arith) (ap (λ i. get_or (c ∷ d ∷ cs) i 0) last ∙ e)

pub value_positive : (cs : List ℕ) → are_digits cs ≡ true → NoTrailingZero cs → 0 < length cs → 0 < value cs
value_positive [] h z l = absurd (omega arith)
value_positive (c ∷ []) h z l =
    let a = first_digit c [] h in
    let digit = digit_bound c a.0 in
    let nonzero : c ≢ 48 = z (omega arith) in
    omega (arith, value-cons c [])
value_positive (c ∷ d ∷ cs) h z l =
    let a = first_digit c (d ∷ cs) h in
    let more = value_positive (d ∷ cs) a.1 (no_trailing_rest c (d ∷ cs) z) (omega arith) in
    omega (arith, value-cons c (d ∷ cs))

tenfold : (d v l m : ℕ) → (d * l + v) * (m * 10) ≡ (d * (l * m) + v * m) * 10
tenfold d v l m = omega arith

tenfold_turned : (d v l m : ℕ) → (d * m + v) * (l * 10) ≡ (d * (l * m) + v * l) * 10
tenfold_turned d v l m = omega arith

lower : (v l m : ℕ) → v * l < m * l → v * l < l * m
lower v l m h = omega arith

-- fractions, with the zeros that make them one length
pub cmp_fraction : (xs ys : List ℕ) → are_digits xs ≡ true → are_digits ys ≡ true → NoTrailingZero xs → NoTrailingZero ys →
    slice_cmp nat_cmp xs ys ≡ nat_cmp (value xs * 10 ^ length ys) (value ys * 10 ^ length xs)
cmp_fraction [] [] h k z w = refl
cmp_fraction [] (y ∷ ys) h k z w = nat_cmp_is (value [] * 10 ^ length (y ∷ ys)) (value (y ∷ ys) * 10 ^ 0) Less (omega (arith, value_positive (y ∷ ys) k w (omega arith)))
cmp_fraction (x ∷ xs) [] h k z w = nat_cmp_is (value (x ∷ xs) * 10 ^ 0) (value [] * 10 ^ length (x ∷ xs)) Greater (omega (arith, value_positive (x ∷ xs) h z (omega arith)))
cmp_fraction (x ∷ xs) (y ∷ ys) h k z w =
    let a = first_digit x xs h in
    let b = first_digit y ys k in
    let rest = cmp_fraction xs ys a.1 b.1 (no_trailing_rest x xs z) (no_trailing_rest y ys w) in
    let L = 10 ^ length xs in
    let M = 10 ^ length ys in
    let left : value (x ∷ xs) * 10 ^ length (y ∷ ys) ≡ (digit_value x * (L * M) + value xs * M) * 10 =
    ap (λ n. n * 10 ^ length (y ∷ ys)) (value-cons x xs) ∙ ap (λ n. (digit_value x * L + value xs) * n) (pow-suc 10 (length ys)) ∙ tenfold (digit_value x) (value xs) L M in
    let right : value (y ∷ ys) * 10 ^ length (x ∷ xs) ≡ (digit_value y * (L * M) + value ys * L) * 10 =
    ap (λ n. n * 10 ^ length (x ∷ xs)) (value-cons y ys) ∙ ap (λ n. (digit_value y * M + value ys) * n) (pow-suc 10 (length xs)) ∙ tenfold_turned (digit_value y) (value ys) L M in
    let positive : 0 < M = one-le-pow (length ys) 10 (omega arith) in
    let positive_too : 0 < L = one-le-pow (length xs) 10 (omega arith) in
    let low : value xs * M < L * M = mul-lt-mul_of_pos_right (value-lt xs a.1) positive in
    let low_too : value ys * L < L * M = lower (value ys) L M (mul-lt-mul_of_pos_right (value-lt ys b.1) positive_too) in
    let mixed = cmp_mixed (digit_value x) (digit_value y) (value xs * M) (value ys * L) (L * M) low low_too in
    ap (λ o. ordering_then o (slice_cmp nat_cmp xs ys)) (cmp_digits x y a.0 b.0)
    ∙ ap (λ o. ordering_then (nat_cmp (digit_value x) (digit_value y)) o) rest
    ∙ sym mixed
    ∙ sym (cmp_scaled (digit_value x * (L * M) + value xs * M) (digit_value y * (L * M) + value ys * L) 10 (omega arith))
    ∙ ap (λ n. nat_cmp n ((digit_value y * (L * M) + value ys * L) * 10)) (sym left)
    ∙ ap (λ n. nat_cmp (value (x ∷ xs) * 10 ^ length (y ∷ ys)) n) (sym right)

-- Whole parts and fractions together: the order of the digit texts is that of the numbers, at one count of digits behind the point
pub cmp_magnitudes : (u v x y : List ℕ) → are_digits u ≡ true → are_digits v ≡ true → are_digits x ≡ true → are_digits y ≡ true → NoLeadingZero u →
    NoTrailingZero v → NoLeadingZero x → NoTrailingZero y →
    ordering_then (ordering_then (nat_cmp (length u) (length x)) (slice_cmp nat_cmp u x)) (slice_cmp nat_cmp v y) ≡ nat_cmp (value (u ++ v) * 10 ^ length y) (value (x ++ y) * 10 ^ length v)
cmp_magnitudes u v x y du dv dx dy zu zv zx zy =
    let F = 10 ^ length v in
    let G = 10 ^ length y in
    let left : value (u ++ v) * G ≡ value u * (F * G) + value v * G =
    ap (λ n. n * G) (value-append u v) ∙ spread (value u) (value v) F G in
    let right : value (x ++ y) * F ≡ value x * (F * G) + value y * F =
    ap (λ n. n * F) (value-append x y) ∙ spread_turned (value x) (value y) F G in
    let positive : 0 < G = one-le-pow (length y) 10 (omega arith) in
    let positive_too : 0 < F = one-le-pow (length v) 10 (omega arith) in
    let low : value v * G < F * G = mul-lt-mul_of_pos_right (value-lt v dv) positive in
    let low_too : value y * F < F * G = lower (value y) F G (mul-lt-mul_of_pos_right (value-lt y dy) positive_too) in
    ap (λ o. ordering_then o (slice_cmp nat_cmp v y)) (cmp_whole u x du dx zu zx)
    ∙ ap (λ o. ordering_then (nat_cmp (value u) (value x)) o) (cmp_fraction v y dv dy zv zy)
    ∙ sym (cmp_mixed (value u) (value x) (value v * G) (value y * F) (F * G) low low_too)
    ∙ ap (λ n. nat_cmp n (value x * (F * G) + value y * F)) (sym left)
    ∙ ap (λ n. nat_cmp (value (u ++ v) * G) n) (sym right)
  where
    spread : (a b f g : ℕ) → (a * f + b) * g ≡ a * (f * g) + b * g
    spread a b f g = omega arith

    spread_turned : (a b f g : ℕ) → (a * g + b) * f ≡ a * (f * g) + b * f
    spread_turned a b f g = omega arith

-- digits without idle zeros, of which there is one, write more than zero
pub magnitude_positive : (u v : List ℕ) → are_digits u ≡ true → are_digits v ≡ true → NoLeadingZero u → NoTrailingZero v → 0 < length u + length v → 0 < value (u ++ v)
magnitude_positive [] v du dv zu zv l = value_positive v dv zv (omega arith)
magnitude_positive (c ∷ u) v du dv zu zv l =
    let whole : 0 < value (c ∷ u) = shorter_below [] (c ∷ u) refl du zu (omega arith) in
    let positive : 0 < 10 ^ length v = one-le-pow (length v) 10 (omega arith) in
    let most : 1 * 10 ^ length v ≤ value (c ∷ u) * 10 ^ length v = mul-le-mul_right (10 ^ length v) whole in
    omega (arith, value-append (c ∷ u) v)

pub scaled_positive : (n k : ℕ) → 0 < n → 0 < n * 10 ^ k
scaled_positive n k h =
    let positive : 0 < 10 ^ k = one-le-pow k 10 (omega arith) in
    omega (arith, mul-lt-mul_of_pos_right h positive)
