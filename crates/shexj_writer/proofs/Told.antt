-- A decimal text passes the test for whole numbers exactly where it stands for one within the bounds.
use Rattle.std.proofs.Common.{◌≡◌, ◌∙◌, ap, refl, sym, ℕ, zero, suc, ◌+◌, ◌*◌, ◌^◌, ◌<◌, ◌≤◌, arith, Bool, true, false, List, [], ◌∷◌, ◌++◌, length, inl, inr}
use Rattle.std.proofs.lemmas.Bool.{cases_lt}
use Rattle.std.proofs.lemmas.Bool.Decides.{nat_tests}
use Rattle.std.proofs.lemmas.Int.Digits.{digits_value-lt}
use Rattle.std.proofs.Math.Nat.{mul-le-mul_right, one-le-pow, pow-suc}
use Rattle.std.specs.Char.{digit_value, is_ascii_digit}
use Rattle.std.specs.Prelude.{◌&&◌, ◌==◌, ℤ, pos, negsuc, neg_ℤ, ◌*ℤ◌, nat_lt}
use Rattle.std.specs.Str.{all_ascii_digits}
use Rattle.std.specs.Str.Parse.{digits_value_after}
use Rattle.xs_text.specs.Decimal.{fraction_part, is_decimal, scale, unscaled_value, whole_part}
use Rattle.xs_text.specs.Digits.{are_digits, has_minus, signed}
use Rattle.shexj_writer.specs.Laws.{WholeNumbersAreTold}
use Rattle.shexj_writer.specs.Numbers.{IsWholeNumber, are_zeros, is_in_range, is_whole, whole_value}
use Rattle.shexj_writer.proofs.Digits.{append_after, own, same_value, scale_digits, times_one, unscaled_digits, value}
use Rattle.shexj_writer.proofs.Fields.{both}

one_more : (n d p q r : ℕ) → q ≡ p * 10 → n * q + (d * p + r) ≡ (n * 10 + d) * p + r
one_more n d p q r e = ap (λ (x : ℕ). n * x + (d * p + r)) e ∙ plain n d p r
  where
    plain : (n d p r : ℕ) → n * (p * 10) + (d * p + r) ≡ (n * 10 + d) * p + r
    plain n d p r = omega arith

value_after : (n : ℕ) (cs : List ℕ) → digits_value_after 10 n cs ≡ n * 10 ^ length cs + value cs
value_after n [] = omega arith
value_after n (c ∷ cs) =
    let more = value_after (n * 10 + digit_value c) cs in
    let first : value (c ∷ cs) ≡ digit_value c * 10 ^ length cs + value cs = value_after (0 * 10 + digit_value c) cs ∙ ap (λ (x : ℕ). x * 10 ^ length cs + value cs) (omega arith) in
    more ∙ sym (ap (λ (x : ℕ). n * 10 ^ length (c ∷ cs) + x) first ∙ one_more n (digit_value c) (10 ^ length cs) (10 ^ length (c ∷ cs)) (value cs) (pow-suc 10 (length cs)))

value_cons : (c : ℕ) (cs : List ℕ) → value (c ∷ cs) ≡ digit_value c * 10 ^ length cs + value cs
value_cons c cs = value_after (0 * 10 + digit_value c) cs ∙ ap (λ (x : ℕ). x * 10 ^ length cs + value cs) (omega arith)

same_digits : (ds : List ℕ) → are_digits ds ≡ all_ascii_digits ds
same_digits [] = refl
same_digits (d ∷ ds) = ap (λ (b : Bool). is_ascii_digit d && b) (same_digits ds)

value_lt : (ds : List ℕ) → are_digits ds ≡ true → value ds < 10 ^ length ds
value_lt ds h = digits_value-lt 10 ds (own.to ds (sym (same_digits ds) ∙ h))

zero_product : (d p : ℕ) → 0 < p → d * p ≡ 0 → d ≡ 0
zero_product zero p some e = refl
zero_product (suc d) p some e = absurd (let more : suc d * p ≡ d * p + p = omega arith in omega arith)

digit_zero : (c : ℕ) → is_ascii_digit c ≡ true → digit_value c ≡ 0 → (c == 48) ≡ true
digit_zero c h e = grind (arith, nat_tests)

zeros_of : (ds : List ℕ) → are_digits ds ≡ true → value ds ≡ 0 → are_zeros ds ≡ true
zeros_of [] h e = refl
zeros_of (c ∷ cs) h e =
    let parts = both (is_ascii_digit c) (are_digits cs) h in
    let sum : digit_value c * 10 ^ length cs + value cs ≡ 0 = sym (value_cons c cs) ∙ e in
    let none : digit_value c ≡ 0 = zero_product (digit_value c) (10 ^ length cs) (one-le-pow (length cs) 10 (omega arith)) (omega arith) in
    ap (λ (b : Bool). b && are_zeros cs) (digit_zero c parts.0 none) ∙ zeros_of cs parts.1 (omega arith)

-- the quotient and the remainder of a multiple
split : (w m f k : ℕ) → f < k → w * k + f ≡ m * k → (w ≡ m) × (f ≡ 0)
split w m f k small e = elim (cases_lt w m) [
  | inl lt ↦ let more : suc w * k ≤ m * k = mul-le-mul_right k lt in let next : suc w * k ≡ w * k + k = omega arith in absurd (omega arith)
  | inr ge ↦ elim (cases_lt m w) [
    | inl lt ↦ let more : suc m * k ≤ w * k = mul-le-mul_right k lt in let next : suc m * k ≡ m * k + k = omega arith in absurd (omega arith)
    | inr le ↦ let same : w ≡ m = omega arith in let products : w * k ≡ m * k = ap (λ (x : ℕ). x * k) same in (same, omega arith)
  ]
]

-- a number with a sign that is a multiple of a whole number
record IsMultiple (s : Bool) (v k : ℕ) (z : ℤ) : Type 0 where
  times : ℕ
  is : v ≡ times * k
  back : signed s times ≡ z

positive_of : (t : ℕ) → 0 < t → (u : ℕ) × (t ≡ suc u)
positive_of zero h = absurd (omega arith)
positive_of (suc u) h = (u, refl)

multiple : (s : Bool) (v k : ℕ) (z : ℤ) → 0 < k → signed s v ≡ z *ℤ pos k → IsMultiple s v k z
multiple false v k (pos j) some e = let same : v ≡ j * k = cc in record { times = j; is = same; back = refl }
multiple true zero k (pos j) some e =
    let none : 0 ≡ j * k = cc in
    let j_none : j ≡ 0 = zero_product j k some (sym none) in
    record { times = 0; is = omega arith; back = ap pos (sym j_none) }
multiple true (suc v) k (pos j) some e = absurd (cc)
multiple false v k (negsuc j) some e =
    let (u, is) = positive_of (suc j * k) (let next : suc j * k ≡ j * k + k = omega arith in omega arith) in
    let other : pos v ≡ negsuc u = e ∙ ap (λ (t : ℕ). neg_ℤ (pos t)) is in
    absurd (cc)
multiple true zero k (negsuc j) some e =
    let (u, is) = positive_of (suc j * k) (let next : suc j * k ≡ j * k + k = omega arith in omega arith) in
    let other : pos 0 ≡ negsuc u = e ∙ ap (λ (t : ℕ). neg_ℤ (pos t)) is in
    absurd (cc)
multiple true (suc v) k (negsuc j) some e =
    let (u, is) = positive_of (suc j * k) (let next : suc j * k ≡ j * k + k = omega arith in omega arith) in
    let other : negsuc v ≡ negsuc u = e ∙ ap (λ (t : ℕ). neg_ℤ (pos t)) is in
    let same : v ≡ u = cc in
    record { times = suc j; is = ap suc same ∙ sym is; back = refl }

back : (text : List ℕ) → is_decimal text ≡ true → IsWholeNumber text → is_whole text ≡ true
unfolding is_whole
back text dec w =
    let all = both (are_digits (whole_part text) && are_digits (fraction_part text)) (nat_lt 0 (length (whole_part text) + length (fraction_part text))) dec in
    let fs = (both (are_digits (whole_part text)) (are_digits (fraction_part text)) all.0).1 in
    let s = has_minus text in
    let k = 10 ^ scale text in
    let parts : value (whole_part text ++ fraction_part text) ≡ value (whole_part text) * k + value (fraction_part text) = append_after 0 (whole_part text)
    (fraction_part text) ∙ value_after (value (whole_part text)) (fraction_part text) in
    let scaled : unscaled_value text ≡ w.number *ℤ pos k =
    sym (times_one s (value (whole_part text ++ fraction_part text))) ∙ sym (ap (λ (n : ℕ). unscaled_value text *ℤ pos (10 ^ n)) (scale_digits w.number))
    ∙ w.same ∙ ap (λ (x : ℤ). x *ℤ pos k) (unscaled_digits w.number w.within) in
    let m = multiple s (value (whole_part text ++ fraction_part text)) k w.number (one-le-pow (scale text) 10 (omega arith)) scaled in
    let halves = split (value (whole_part text)) m.times (value (fraction_part text)) k (value_lt (fraction_part text) fs) (sym parts ∙ m.is) in
    let number : whole_value text ≡ w.number = ap (signed s) halves.0 ∙ m.back in
    ap (λ (b : Bool). b && (are_zeros (fraction_part text) && is_in_range (whole_value text))) dec
    ∙ ap (λ (b : Bool). b && is_in_range (whole_value text)) (zeros_of (fraction_part text) fs halves.1)
    ∙ ap is_in_range number ∙ w.within

forth : (text : List ℕ) → is_decimal text ≡ true → is_whole text ≡ true → IsWholeNumber text
unfolding is_whole
forth text dec h =
    let parts = both (is_decimal text) (are_zeros (fraction_part text) && is_in_range (whole_value text)) h in
    let more = both (are_zeros (fraction_part text)) (is_in_range (whole_value text)) parts.1 in
    record { decimal = dec; number = whole_value text; same = same_value text h; within = more.1 }

pub told : WholeNumbersAreTold
told text dec = (forth text dec, back text dec)
