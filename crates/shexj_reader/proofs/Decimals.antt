-- The digits of a whole number are a decimal.
use Rattle.std.proofs.Common.{◌≡◌, ◌∙◌, ap, refl, arith, ℕ, zero, suc, ◌+◌, ◌<◌, ◌/◌, ◌%◌, Bool, true, false, List, [], ◌∷◌, length, take, drop, nat_lt, if◌then◌else◌, ◌&&◌, ◌==◌}
use Rattle.std.proofs.lemmas.Bool.Decides.{nat_tests}
use Rattle.std.proofs.lemmas.List.{drop_all}
use Rattle.std.proofs.lemmas.Str.{chars-IsAscii, encodes-IsAscii}
use Rattle.std.proofs.Math.Nat.{mod-lt}
use Rattle.std.proofs.Math.Seq.{take-length}
use Rattle.std.specs.Char.{is_ascii_digit}
use Rattle.std.specs.Fmt.{decimal, digit_glyph, digits, digits_onto, signed_decimal}
use Rattle.std.specs.List.{after_first, before_first, position_or_len}
use Rattle.std.specs.Prelude.{cond, ℤ, pos, negsuc, not}
use Rattle.std.specs.Str.{IsAscii, chars}
use Rattle.node_constraint.specs.Making.{IsDecimal}
use Rattle.xs_text.specs.Decimal.{is_decimal}
use Rattle.xs_text.specs.Digits.{are_digits, is_numeral, is_sign, unsigned_part}

glyph : (d : ℕ) → d < 10 → is_ascii_digit (digit_glyph false d) ≡ true
glyph d h = grind (arith, nat_tests)

positive : (n m : ℕ) → nat_lt 0 (suc n + m) ≡ true
positive n m = grind (arith, nat_tests)

numeral_of : (c : ℕ) (cs : List ℕ) → is_ascii_digit c ≡ true → are_digits cs ≡ true → is_numeral (c ∷ cs) ≡ true
numeral_of c cs p q =
    let some : nat_lt 0 (length (c ∷ cs)) ≡ true = grind (arith, nat_tests) in
    ap (λ (b : Bool). b && are_digits (c ∷ cs)) some ∙ (ap (λ (b : Bool). b && are_digits cs) p ∙ q)

longer : (n : ℕ) (acc : List ℕ) → are_digits acc ≡ true → is_numeral (digit_glyph false (n % 10) ∷ acc) ≡ true
longer n acc h = numeral_of (digit_glyph false (n % 10)) acc (glyph (n % 10) (mod-lt n (omega arith))) h

either_way : (b : Bool) (xs ys : List ℕ) → is_numeral xs ≡ true → is_numeral ys ≡ true → is_numeral (if b then xs else ys) ≡ true
either_way true xs ys p q = p
either_way false xs ys p q = q

numeral_digits : (b c : Bool) → (b && c) ≡ true → c ≡ true
numeral_digits true c h = h
numeral_digits false c h = cc

are_of : (bs : List ℕ) → is_numeral bs ≡ true → are_digits bs ≡ true
are_of bs h = numeral_digits (nat_lt 0 (length bs)) (are_digits bs) h

onto : (k n : ℕ) (acc : List ℕ) → is_numeral acc ≡ true → is_numeral (digits_onto k 10 false n acc) ≡ true
onto zero n acc h = h
onto (suc k) n acc h =
    let more : is_numeral (digit_glyph false (n % 10) ∷ acc) ≡ true = longer n acc (are_of acc h) in
    either_way (n / 10 == 0) _ _ more (onto k (n / 10) _ more)

from_none : (k n : ℕ) → is_numeral (digits_onto (suc k) 10 false n []) ≡ true
from_none k n =
    let more : is_numeral (digit_glyph false (n % 10) ∷ []) ≡ true = longer n [] refl in
    either_way (n / 10 == 0) _ _ more (onto k (n / 10) _ more)

numeral : (n : ℕ) → is_numeral (decimal n) ≡ true
unfolding digits
numeral n = from_none 63 n

-- ---- digits are ASCII, and have neither a sign nor a point

ascii_step : (c : ℕ) (cs : List ℕ) → c < 128 → IsAscii cs → IsAscii (c ∷ cs)
ascii_step c cs h rest zero = h
ascii_step c cs h rest (suc i) = rest i

no_ascii : IsAscii []
no_ascii i = omega arith

below : (c : ℕ) → is_ascii_digit c ≡ true → c < 128
below c h = grind (arith, nat_tests)

digit_of : (b d : Bool) → (b && d) ≡ true → b ≡ true
digit_of true d e = refl
digit_of false d e = cc

ascii : (bs : List ℕ) → are_digits bs ≡ true → IsAscii bs
ascii [] h = no_ascii
ascii (c ∷ cs) h = ascii_step c cs (below c (digit_of (is_ascii_digit c) (are_digits cs) h)) (ascii cs (numeral_digits (is_ascii_digit c) (are_digits cs) h))

unsigned : (bs : List ℕ) → are_digits bs ≡ true → unsigned_part bs ≡ bs
unsigned [] h = refl
unsigned (c ∷ cs) h =
    let digit : is_ascii_digit c ≡ true = digit_of (is_ascii_digit c) (are_digits cs) h in
    let other : is_sign c ≡ false = grind (arith, nat_tests) in
    ap (λ (b : Bool). if b then cs else c ∷ cs) other

no_point : (bs : List ℕ) → are_digits bs ≡ true → position_or_len (λ c. c == 46) bs ≡ length bs
no_point [] h = refl
no_point (c ∷ cs) h =
    let digit : is_ascii_digit c ≡ true = digit_of (is_ascii_digit c) (are_digits cs) h in
    let other : (c == 46) ≡ false = grind (arith, nat_tests) in
    let rest : position_or_len (λ c. c == 46) cs ≡ length cs = no_point cs (numeral_digits (is_ascii_digit c) (are_digits cs) h) in
    let one : 1 + length cs ≡ suc (length cs) = omega arith in
    ap (λ (b : Bool). cond (not b) (1 + position_or_len (λ c. c == 46) cs) 0) other ∙ (ap (λ (n : ℕ). 1 + n) rest ∙ one)

before : (bs : List ℕ) → are_digits bs ≡ true → before_first (λ c. c == 46) bs ≡ bs
before bs h = ap (λ (n : ℕ). take n bs) (no_point bs h) ∙ take-length bs

after : (bs : List ℕ) → are_digits bs ≡ true → after_first (λ c. c == 46) bs ≡ []
after bs h = ap (λ (n : ℕ). drop (n + 1) bs) (no_point bs h) ∙ drop_all (length bs + 1) bs (omega arith)

parts_are : (whole fraction : List ℕ) → is_numeral whole ≡ true → fraction ≡ [] → (are_digits whole && are_digits fraction && nat_lt 0 (length whole + length fraction)) ≡ true
parts_are [] fraction h e = cc
parts_are (c ∷ cs) fraction h e =
    ap (λ (b : Bool). b && are_digits fraction && nat_lt 0 (length (c ∷ cs) + length fraction)) (are_of (c ∷ cs) h)
    ∙ (ap (λ (b : Bool). b && nat_lt 0 (length (c ∷ cs) + length fraction)) (ap are_digits e) ∙ positive (length cs) (length fraction))

plain : (bs : List ℕ) → is_numeral bs ≡ true →
    (are_digits (before_first (λ c. c == 46) bs) && are_digits (after_first (λ c. c == 46) bs) && nat_lt 0 (length (before_first (λ c. c == 46) bs) + length (after_first (λ c. c == 46) bs))) ≡ true
plain bs h = parts_are (before_first (λ c. c == 46) bs) (after_first (λ c. c == 46) bs) (ap is_numeral (before bs (are_of bs h)) ∙ h) (after bs (are_of bs h))

signed_is : (z : ℤ) → is_decimal (signed_decimal z) ≡ true
signed_is (pos n) =
    let own : is_numeral (decimal n) ≡ true = numeral n in
    let same : unsigned_part (decimal n) ≡ decimal n = unsigned (decimal n) (are_of (decimal n) own) in
    plain (unsigned_part (decimal n)) (ap is_numeral same ∙ own)
signed_is (negsuc n) = plain (decimal (suc n)) (numeral (suc n))

pub signed_ascii : (z : ℤ) → IsAscii (signed_decimal z)
signed_ascii (pos n) = ascii (decimal n) (are_of (decimal n) (numeral n))
signed_ascii (negsuc n) = ascii_step 45 (decimal (suc n)) (omega arith) (ascii (decimal (suc n)) (are_of (decimal (suc n)) (numeral (suc n))))

pub signed_chars : (z : ℤ) → chars (signed_decimal z) ≡ signed_decimal z
signed_chars z = chars-IsAscii (signed_decimal z) (signed_ascii z)

pub whole_is_decimal : (z : ℤ) → IsDecimal (signed_decimal z)
whole_is_decimal z = ap is_decimal (encodes-IsAscii (signed_decimal z) (signed_ascii z)) ∙ signed_is z
