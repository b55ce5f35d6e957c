-- Numbers with a sign, and their order.
use Rattle.std.proofs.Common.{◌≡◌, ◌↔◌, ℕ, zero, suc, ◌+◌, ◌*◌, ◌<◌, Bool, true, false, ℤ, pos, negsuc, neg_ℤ, ◌*ℤ◌, unsigned_abs, ◌<ℤ◌, Ordering, Less, Equal, Greater, refl, sym, ◌∙◌, ap, arith}
use Rattle.std.specs.Ordering.{nat_cmp, int_cmp, MatchOrdering}
use Rattle.std.specs.Cmp.{int_cmp_is, nat_cmp_is}
use Rattle.std.proofs.lemmas.Bool.{true≢false, false≢true}
use Rattle.std.proofs.lemmas.Bool.Decides.{nat_tests}
use Rattle.std.proofs.lemmas.Cmp.{int_ranked}
use Rattle.xs_text.specs.Digits.{signed}
use Rattle.xs_text.proofs.Value.{cmp_scaled}

signed_zero_product : (k : ℕ) → pos (0 * k) ≡ neg_ℤ (pos (0 * k))
signed_zero_product k = let none : 0 * k ≡ 0 = omega arith in ap pos none ∙ sym (ap (λ n. neg_ℤ (pos n)) none)

pub signed-mul : (s : Bool) (m k : ℕ) → signed s m *ℤ pos k ≡ signed s (m * k)
signed-mul false m k = refl
signed-mul true zero k = signed_zero_product k
signed-mul true (suc m) k = refl

pub signed-zero : (s t : Bool) → signed s 0 ≡ signed t 0
signed-zero false false = refl
signed-zero false true = refl
signed-zero true false = refl
signed-zero true true = refl

-- the order by the signs
pub cmp_positive : (m n : ℕ) → int_cmp (signed false m) (signed false n) ≡ nat_cmp m n
cmp_positive m n = grind (arith, nat_tests)

pub cmp_negative : (m n : ℕ) → int_cmp (signed true m) (signed true n) ≡ nat_cmp n m
cmp_negative zero zero = refl
cmp_negative zero (suc n) = grind (arith, nat_tests)
cmp_negative (suc m) zero = grind (arith, nat_tests)
cmp_negative (suc m) (suc n) = grind (arith, nat_tests)

pub cmp_below : (m n : ℕ) → int_cmp (signed true m) (signed false n) ≡ nat_cmp 0 (m + n)
cmp_below zero n = grind (arith, nat_tests)
cmp_below (suc m) n = grind (arith, nat_tests)

pub cmp_above : (m n : ℕ) → int_cmp (signed false m) (signed true n) ≡ nat_cmp (m + n) 0
cmp_above m zero = grind (arith, nat_tests)
cmp_above m (suc n) = grind (arith, nat_tests)

pub cmp_signed_scaled : (s t : Bool) (m n k : ℕ) → 0 < k → int_cmp (signed s (m * k)) (signed t (n * k)) ≡ int_cmp (signed s m) (signed t n)
cmp_signed_scaled false false m n k h = cmp_positive (m * k) (n * k) ∙ cmp_scaled m n k h ∙ sym (cmp_positive m n)
cmp_signed_scaled true true m n k h = cmp_negative (m * k) (n * k) ∙ cmp_scaled n m k h ∙ sym (cmp_negative m n)
cmp_signed_scaled true false m n k h =
    let sum : m * k + n * k ≡ (m + n) * k = omega arith in
    let none : 0 ≡ 0 * k = omega arith in
    cmp_below (m * k) (n * k) ∙ ap (λ x. nat_cmp 0 x) sum ∙ ap (λ x. nat_cmp x ((m + n) * k)) none ∙ cmp_scaled 0 (m + n) k h ∙ sym (cmp_below m n)
cmp_signed_scaled false true m n k h =
    let sum : m * k + n * k ≡ (m + n) * k = omega arith in
    let none : 0 ≡ 0 * k = omega arith in
    cmp_above (m * k) (n * k) ∙ ap (λ x. nat_cmp x 0) sum ∙ ap (λ x. nat_cmp ((m + n) * k) x) none ∙ cmp_scaled (m + n) 0 k h ∙ sym (cmp_above m n)

-- what an answer says of two whole numbers, both ways
told : (x y : ℤ) (r : Ordering) → int_cmp x y ≡ r → MatchOrdering r (x <ℤ y) (x ≡ y) (y <ℤ x)
told x y r e = int_ranked x y r (sym e)

pub answer_less : (x y : ℤ) (r : Ordering) → r ≡ int_cmp x y → (r ≡ Less) ↔ (x <ℤ y)
answer_less x y r e = (λ h. told x y Less (sym e ∙ h), λ h. e ∙ sym (int_cmp_is x y Less h))

pub answer_equal : (x y : ℤ) (r : Ordering) → r ≡ int_cmp x y → (r ≡ Equal) ↔ (x ≡ y)
answer_equal x y r e = (λ h. told x y Equal (sym e ∙ h), λ h. e ∙ sym (int_cmp_is x y Equal h))

pub answer_greater : (x y : ℤ) (r : Ordering) → r ≡ int_cmp x y → (r ≡ Greater) ↔ (y <ℤ x)
answer_greater x y r e = (λ h. told x y Greater (sym e ∙ h), λ h. e ∙ sym (int_cmp_is x y Greater h))

-- a number below zero stands before one that is not
pub below_by_sign : (s t : Bool) (m n : ℕ) → s ≡ true → t ≡ false → 0 < m → Less ≡ int_cmp (signed s m) (signed t n)
below_by_sign true false m n e f h = nat_cmp_is 0 (m + n) Less (omega arith) ∙ sym (cmp_below m n)
below_by_sign true true m n e f h = absurd (true≢false f)
below_by_sign false t m n e f h = absurd (false≢true e)

pub above_by_sign : (s t : Bool) (m n : ℕ) → s ≡ false → t ≡ true → 0 < n → Greater ≡ int_cmp (signed s m) (signed t n)
above_by_sign false true m n e f h = nat_cmp_is (m + n) 0 Greater (omega arith) ∙ sym (cmp_above m n)
above_by_sign false false m n e f h = absurd (false≢true f)
above_by_sign true t m n e f h = absurd (true≢false e)

-- a common factor changes no order of whole numbers
pub int_cmp_scaled : (x y : ℤ) (k : ℕ) → 0 < k → int_cmp (x *ℤ pos k) (y *ℤ pos k) ≡ int_cmp x y
int_cmp_scaled (pos m) (pos n) k h = cmp_signed_scaled false false m n k h
int_cmp_scaled (pos m) (negsuc n) k h = cmp_signed_scaled false true m (suc n) k h
int_cmp_scaled (negsuc m) (pos n) k h = cmp_signed_scaled true false (suc m) n k h
int_cmp_scaled (negsuc m) (negsuc n) k h = cmp_signed_scaled true true (suc m) (suc n) k h

pub int_mul_swap : (x : ℤ) (j k : ℕ) → x *ℤ pos j *ℤ pos k ≡ x *ℤ pos k *ℤ pos j
int_mul_swap (pos m) j k = ap pos (omega arith)
int_mul_swap (negsuc m) j k =
    let swapped : suc m * j * k ≡ suc m * k * j = omega arith in
    signed-mul true (suc m * j) k ∙ ap (signed true) swapped ∙ sym (signed-mul true (suc m * k) j)

pub unsigned_abs-signed : (s : Bool) (m : ℕ) → unsigned_abs (signed s m) ≡ m
unsigned_abs-signed false m = refl
unsigned_abs-signed true zero = refl
unsigned_abs-signed true (suc m) = refl
