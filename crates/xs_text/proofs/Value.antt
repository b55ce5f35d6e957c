-- The number that digits write, and its order.
use Rattle.std.proofs.Common.{◌≡◌, ℕ, suc, ◌+◌, ◌*◌, ◌^◌, ◌<◌, ◌≤◌, true, List, [], ◌∷◌, ◌++◌, length, Less, Equal, Greater, refl, sym, ◌∙◌, ap, arith, length-append}
use Rattle.std.specs.Char.{is_ascii_digit, digit_value}
use Rattle.std.specs.Ordering.{nat_cmp, ordering_then}
use Rattle.std.specs.Cmp.{nat_cmp_is}
use Rattle.std.specs.Str.Parse.{digits_value, digits_value_after}
use Rattle.std.proofs.Math.Nat.{pow-suc, mul-le-mul_right, mul-lt-mul_of_pos_right}
use Rattle.std.proofs.lemmas.Bool.Decides.{nat_tests}
use Rattle.std.proofs.lemmas.Cmp.{ranked, by_ranked}
use Rattle.std.proofs.lemmas.Nat.{pow-add}
use Rattle.xs_text.specs.Digits.{are_digits}

abbrev pub value : List ℕ → ℕ
value = digits_value 10

-- products of sums, over plain variables
one_more : (n d p : ℕ) → (n * 10 + d) * p ≡ n * (p * 10) + d * p
one_more n d p = omega arith

split_product : (d p q v : ℕ) → d * (p * q) + v * q ≡ (d * p + v) * q
split_product d p q v = omega arith

pub value_after : (n : ℕ) (cs : List ℕ) → digits_value_after 10 n cs ≡ n * 10 ^ length cs + value cs
value_after n [] = omega arith
value_after n (c ∷ cs) =
    let more : digits_value_after 10 n (c ∷ cs) ≡ (n * 10 + digit_value c) * 10 ^ length cs + value cs = value_after (n * 10 + digit_value c) cs in
    let first : value (c ∷ cs) ≡ (0 * 10 + digit_value c) * 10 ^ length cs + value cs = value_after (0 * 10 + digit_value c) cs in
    let power : n * 10 ^ length (c ∷ cs) ≡ n * (10 ^ length cs * 10) = ap (λ p. n * p) (pow-suc 10 (length cs)) in
    omega (arith, more, first, power, one_more n (digit_value c) (10 ^ length cs), one_more 0 (digit_value c) (10 ^ length cs))

pub value-cons : (c : ℕ) (cs : List ℕ) → value (c ∷ cs) ≡ digit_value c * 10 ^ length cs + value cs
value-cons c cs = value_after (0 * 10 + digit_value c) cs ∙ ap (λ n. n * 10 ^ length cs + value cs) (omega arith)

pub value-append : (xs ys : List ℕ) → value (xs ++ ys) ≡ value xs * 10 ^ length ys + value ys
value-append [] ys = omega arith
value-append (x ∷ xs) ys =
    let whole : value ((x ∷ xs) ++ ys) ≡ digit_value x * 10 ^ length (xs ++ ys) + value (xs ++ ys) = value-cons x (xs ++ ys) in
    let long : 10 ^ length (xs ++ ys) ≡ 10 ^ length xs * 10 ^ length ys = ap (λ n. 10 ^ n) (length-append xs ys) ∙ pow-add 10 (length xs) (length ys) in
    let scaled : digit_value x * 10 ^ length (xs ++ ys) ≡ digit_value x * (10 ^ length xs * 10 ^ length ys) = ap (λ n. digit_value x * n) long in
    let part : value (x ∷ xs) * 10 ^ length ys ≡ (digit_value x * 10 ^ length xs + value xs) * 10 ^ length ys = ap (λ n. n * 10 ^ length ys) (value-cons x xs) in
    omega (arith, whole, scaled, part, value-append xs ys, split_product (digit_value x) (10 ^ length xs) (10 ^ length ys) (value xs))

-- the parts of a list of digits
pub first_digit : (c : ℕ) (cs : List ℕ) → are_digits (c ∷ cs) ≡ true → (is_ascii_digit c ≡ true) × (are_digits cs ≡ true)
first_digit c cs h = grind arith

pub digit_bound : (c : ℕ) → is_ascii_digit c ≡ true → digit_value c + 48 ≡ c × (digit_value c < 10)
digit_bound c h = grind (arith, nat_tests)

pub value-lt : (cs : List ℕ) → are_digits cs ≡ true → value cs < 10 ^ length cs
value-lt [] h = omega arith
value-lt (c ∷ cs) h =
    let parts = first_digit c cs h in
    let low = value-lt cs parts.1 in
    let digit = digit_bound c parts.0 in
    let most : digit_value c * 10 ^ length cs ≤ 9 * 10 ^ length cs = mul-le-mul_right (10 ^ length cs) (omega arith) in
    omega (arith, value-cons c cs, pow-suc 10 (length cs))

cmp_added : (a b r s : ℕ) → a ≡ b → nat_cmp (a + r) (b + s) ≡ nat_cmp r s
cmp_added a b r s e = grind (arith, nat_tests)

-- Numbers in a mixed base are ordered by the high part first
pub cmp_mixed : (p q r s K : ℕ) → r < K → s < K → nat_cmp (p * K + r) (q * K + s) ≡ ordering_then (nat_cmp p q) (nat_cmp r s)
cmp_mixed p q r s K h k =
    by_ranked (p < q) (p ≡ q) (q < p) (nat_cmp p q) (ranked p q (nat_cmp p q) refl)
    (λ e l. let more : suc p * K ≤ q * K = mul-le-mul_right K l in sym (nat_cmp_is (p * K + r) (q * K + s) Less (omega arith)) ∙ ap (λ o. ordering_then o (nat_cmp r s)) (sym e))
    (λ e l. let same : p * K ≡ q * K = ap (λ n. n * K) l in cmp_added (p * K) (q * K) r s same ∙ ap (λ o. ordering_then o (nat_cmp r s)) (sym e))
    (λ e l. let more : suc q * K ≤ p * K = mul-le-mul_right K l in sym (nat_cmp_is (p * K + r) (q * K + s) Greater (omega arith)) ∙ ap (λ o. ordering_then o (nat_cmp r s)) (sym e))

-- a common factor changes no order
pub cmp_scaled : (a b k : ℕ) → 0 < k → nat_cmp (a * k) (b * k) ≡ nat_cmp a b
cmp_scaled a b k h =
    by_ranked (a < b) (a ≡ b) (b < a) (nat_cmp a b) (ranked a b (nat_cmp a b) refl)
    (λ e l. sym (nat_cmp_is (a * k) (b * k) Less (mul-lt-mul_of_pos_right l h)) ∙ sym e)
    (λ e l. sym (nat_cmp_is (a * k) (b * k) Equal (ap (λ n. n * k) l)) ∙ sym e)
    (λ e l. sym (nat_cmp_is (a * k) (b * k) Greater (mul-lt-mul_of_pos_right l h)) ∙ sym e)

pub same_scaled : (a b k : ℕ) → 0 < k → a * k ≡ b * k → a ≡ b
same_scaled a b k h e = ranked a b Equal (nat_cmp_is (a * k) (b * k) Equal e ∙ cmp_scaled a b k h)
