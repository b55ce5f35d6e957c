-- The numbers that digits write.
use Rattle.std.proofs.Common.{◌≡◌, ◌∙◌, ap, refl, sym, ℕ, zero, suc, ◌+◌, ◌*◌, ◌^◌, ◌<◌, ◌≤◌, ◌/◌, ◌%◌, arith, Bool, true, false, List, [], ◌∷◌, ◌++◌, length, get_or, take, drop, cond, ◌-◌}
use Rattle.std.proofs.lemmas.Bool.Decides.{nat_tests}
use Rattle.std.proofs.lemmas.Fmt.{digits_value-decimal}
use Rattle.std.proofs.lemmas.List.{append-nil, drop_all}
use Rattle.std.proofs.lemmas.Str.Parse.{IsNumeralModel, numerals_by_value, tells_all_ascii_digits}
use Rattle.std.proofs.Math.Nat.{mod-lt, pow-suc}
use Rattle.std.proofs.Math.Seq.{take-length}
use Rattle.std.specs.Char.{digit_value, is_ascii_digit}
use Rattle.std.specs.Fmt.{decimal, digit_glyph, digits, digits_onto, signed_decimal}
use Rattle.std.specs.List.{after_first, before_first, position_or_len}
use Rattle.std.specs.Prelude.{◌&&◌, ◌==◌, ℤ, pos, negsuc, neg_ℤ, ◌*ℤ◌, if◌then◌else◌, not}
use Rattle.std.specs.Str.{all_ascii_digits}
use Rattle.std.specs.Str.Parse.{digits_value, digits_value_after}
use Rattle.xs_text.specs.Decimal.{HasSameValue, fraction_part, is_decimal, scale, unscaled_value, whole_part}
use Rattle.xs_text.specs.Digits.{are_digits, has_minus, is_sign, signed, unsigned_part}
use Rattle.shexj_writer.specs.Numbers.{are_zeros, is_in_range, is_whole, whole_value}
use Rattle.shexj_writer.proofs.Fields.{both}

abbrev pub value : List ℕ → ℕ
value ds = digits_value 10 ds

-- ---- zeros behind digits

pub append_after : (n : ℕ) (xs ys : List ℕ) → digits_value_after 10 n (xs ++ ys) ≡ digits_value_after 10 (digits_value_after 10 n xs) ys
append_after n [] ys = refl
append_after n (x ∷ xs) ys = append_after (n * 10 + digit_value x) xs ys

shifted : (n d p q : ℕ) → d ≡ 0 → q ≡ p * 10 → (n * 10 + d) * p ≡ n * q
shifted n d p q e f = ap (λ (x : ℕ). (n * 10 + x) * p) e ∙ (plain n p ∙ ap (λ (x : ℕ). n * x) (sym f))
  where
    plain : (n p : ℕ) → (n * 10 + 0) * p ≡ n * (p * 10)
    plain n p = omega arith

zeros_after : (n : ℕ) (zs : List ℕ) → are_zeros zs ≡ true → digits_value_after 10 n zs ≡ n * 10 ^ length zs
zeros_after n [] h = omega arith
zeros_after n (z ∷ zs) h =
    let parts = both (z == 48) (are_zeros zs) h in
    let same : z ≡ 48 = grind (arith, nat_tests) in
    let none : digit_value z ≡ 0 = ap digit_value same in
    zeros_after (n * 10 + digit_value z) zs parts.1 ∙ shifted n (digit_value z) (10 ^ length zs) (10 ^ length (z ∷ zs)) none (pow-suc 10 (length zs))

pub value_zeros : (w zs : List ℕ) → are_zeros zs ≡ true → value (w ++ zs) ≡ value w * 10 ^ length zs
value_zeros w zs h = append_after 0 w zs ∙ zeros_after (value w) zs h

-- ---- the plain digits of a whole number

glyph : (d : ℕ) → d < 10 → is_ascii_digit (digit_glyph false d) ≡ true
glyph d h = grind (arith, nat_tests)

all_digits : (c : ℕ) (cs : List ℕ) → is_ascii_digit c ≡ true → are_digits cs ≡ true → are_digits (c ∷ cs) ≡ true
all_digits c cs p q = ap (λ (b : Bool). b && are_digits cs) p ∙ q

either_way : (b : Bool) (xs ys : List ℕ) → are_digits xs ≡ true → are_digits ys ≡ true → are_digits (if b then xs else ys) ≡ true
either_way true xs ys p q = p
either_way false xs ys p q = q

onto : (k n : ℕ) (acc : List ℕ) → are_digits acc ≡ true → are_digits (digits_onto k 10 false n acc) ≡ true
onto zero n acc h = h
onto (suc k) n acc h =
    let more : are_digits (digit_glyph false (n % 10) ∷ acc) ≡ true = all_digits (digit_glyph false (n % 10)) acc (glyph (n % 10) (mod-lt n (omega arith))) h in
    either_way (n / 10 == 0) _ _ more (onto k (n / 10) _ more)

decimal_digits : (n : ℕ) → are_digits (decimal n) ≡ true
unfolding digits
decimal_digits n = onto 64 n [] refl

digit_no_sign : (c : ℕ) → is_ascii_digit c ≡ true → is_sign c ≡ false
digit_no_sign c h = grind (arith, nat_tests)

no_sign : (bs : List ℕ) → are_digits bs ≡ true → unsigned_part bs ≡ bs
no_sign [] h = refl
no_sign (c ∷ cs) h = ap (λ (b : Bool). if b then cs else c ∷ cs) (digit_no_sign c (both (is_ascii_digit c) (are_digits cs) h).0)

digit_no_minus : (c : ℕ) → is_ascii_digit c ≡ true → (c == 45) ≡ false
digit_no_minus c h = grind (arith, nat_tests)

no_minus : (bs : List ℕ) → are_digits bs ≡ true → has_minus bs ≡ false
no_minus [] h = refl
no_minus (c ∷ cs) h = digit_no_minus c (both (is_ascii_digit c) (are_digits cs) h).0

digit_no_point : (c : ℕ) → is_ascii_digit c ≡ true → (c == 46) ≡ false
digit_no_point c h = grind (arith, nat_tests)

no_point : (bs : List ℕ) → are_digits bs ≡ true → position_or_len (λ c. c == 46) bs ≡ length bs
no_point [] h = refl
no_point (c ∷ cs) h =
    let parts = both (is_ascii_digit c) (are_digits cs) h in
    let rest = no_point cs parts.1 in
    let one : 1 + length cs ≡ suc (length cs) = omega arith in
    ap (λ (b : Bool). cond (not b) (1 + position_or_len (λ x. x == 46) cs) 0) (digit_no_point c parts.0) ∙ (ap (λ (n : ℕ). 1 + n) rest ∙ one)

before : (bs : List ℕ) → are_digits bs ≡ true → before_first (λ c. c == 46) bs ≡ bs
before bs h = ap (λ (n : ℕ). take n bs) (no_point bs h) ∙ take-length bs

after : (bs : List ℕ) → are_digits bs ≡ true → after_first (λ c. c == 46) bs ≡ []
after bs h = ap (λ (n : ℕ). drop (n + 1) bs) (no_point bs h) ∙ drop_all (length bs + 1) bs (omega arith)

pub own : IsNumeralModel (λ ds. all_ascii_digits ds ≡ true) (digits_value 10)
own = numerals_by_value _ tells_all_ascii_digits

value_decimal : (n : ℕ) → n < 2 ^ 64 → value (decimal n) ≡ n
value_decimal n h = digits_value-decimal own n h

-- of digits without a sign: no fraction, and their number
record IsPlain (text : List ℕ) (s : Bool) (n : ℕ) : Type 0 where
  whole : whole_part text ≡ decimal n
  fraction : fraction_part text ≡ []
  sign : has_minus text ≡ s

plain_positive : (n : ℕ) → IsPlain (decimal n) false n
plain_positive n =
    let ds = decimal_digits n in
    record {
      whole = ap (before_first (λ c. c == 46)) (no_sign (decimal n) ds) ∙ before (decimal n) ds;
      fraction = ap (after_first (λ c. c == 46)) (no_sign (decimal n) ds) ∙ after (decimal n) ds;
      sign = no_minus (decimal n) ds;
    }

plain_negative : (n : ℕ) → IsPlain (45 ∷ decimal n) true n
plain_negative n = let ds = decimal_digits n in record { whole = before (decimal n) ds; fraction = after (decimal n) ds; sign = refl }

unscaled_plain : (text : List ℕ) (s : Bool) (n : ℕ) → n < 2 ^ 64 → IsPlain text s n → unscaled_value text ≡ signed s n
unscaled_plain text s n h p =
    ap (λ (b : Bool). signed b (value (whole_part text ++ fraction_part text))) p.sign
    ∙ ap (λ (w : List ℕ). signed s (value (w ++ fraction_part text))) p.whole
    ∙ ap (λ (f : List ℕ). signed s (value (decimal n ++ f))) p.fraction
    ∙ ap (λ (w : List ℕ). signed s (value w)) (append-nil (decimal n))
    ∙ ap (signed s) (value_decimal n h)

pub unscaled_digits : (z : ℤ) → is_in_range z ≡ true → unscaled_value (signed_decimal z) ≡ z
unscaled_digits (pos n) h = unscaled_plain (decimal n) false n (grind (arith, nat_tests)) (plain_positive n)
unscaled_digits (negsuc n) h = unscaled_plain (45 ∷ decimal (suc n)) true (suc n) (grind (arith, nat_tests)) (plain_negative (suc n))

pub scale_digits : (z : ℤ) → scale (signed_decimal z) ≡ 0
scale_digits (pos n) = ap length (plain_positive n).fraction
scale_digits (negsuc n) = ap length (plain_negative (suc n)).fraction

-- ---- a text has the value of its plain digits

none_product : (k : ℕ) → pos (0 * k) ≡ neg_ℤ (pos (0 * k))
none_product k = let none : 0 * k ≡ 0 = omega arith in ap pos none ∙ sym (ap (λ n. neg_ℤ (pos n)) none)

signed_product : (s : Bool) (m k : ℕ) → signed s m *ℤ pos k ≡ signed s (m * k)
signed_product false m k = refl
signed_product true zero k = none_product k
signed_product true (suc m) k = refl

pub times_one : (s : Bool) (n : ℕ) → signed s n *ℤ pos 1 ≡ signed s n
times_one s n = signed_product s n 1 ∙ ap (signed s) (omega arith)

pub same_value : (text : List ℕ) → is_whole text ≡ true → HasSameValue text (signed_decimal (whole_value text))
unfolding is_whole
same_value text h =
    let parts = both (is_decimal text) (are_zeros (fraction_part text) && is_in_range (whole_value text)) h in
    let more = both (are_zeros (fraction_part text)) (is_in_range (whole_value text)) parts.1 in
    let z = whole_value text in
    let s = has_minus text in
    let w = value (whole_part text) in
    let k = 10 ^ scale text in
    ap (λ (n : ℕ). unscaled_value text *ℤ pos (10 ^ n)) (scale_digits z)
    ∙ ap (λ (n : ℕ). signed s n *ℤ pos 1) (value_zeros (whole_part text) (fraction_part text) more.0)
    ∙ times_one s (w * k)
    ∙ sym (signed_product s w k)
    ∙ ap (λ (x : ℤ). x *ℤ pos k) (sym (unscaled_digits z more.1))

-- ---- one digit more

digit_value_is : (c : ℕ) → is_ascii_digit c ≡ true → (digit_value c ≡ c - 48) × (48 ≤ c)
digit_value_is c h = grind (arith, nat_tests)

pub digit_at : (bs : List ℕ) (i : ℕ) → are_digits bs ≡ true → i < length bs → (digit_value (get_or bs i 0) ≡ get_or bs i 0 - 48) × (48 ≤ get_or bs i 0)
digit_at [] i h l = absurd (omega arith)
digit_at (c ∷ cs) zero h l = digit_value_is c (both (is_ascii_digit c) (are_digits cs) h).0
digit_at (c ∷ cs) (suc i) h l = digit_at cs i (both (is_ascii_digit c) (are_digits cs) h).1 (omega arith)
