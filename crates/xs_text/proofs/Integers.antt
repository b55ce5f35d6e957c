-- Integer texts as decimal texts.
use Rattle.std.proofs.Common.{◌≡◌, ℕ, suc, ◌+◌, ◌*◌, ◌^◌, true, false, not, ◌&&◌, ltb, eqb, cond, List, [], ◌∷◌, ◌++◌, length, take, ℤ, pos, negsuc, neg_ℤ, ◌*ℤ◌, ◌<ℤ◌, ◌≢◌, ◌↔◌, int_le, Ordering, Less, Equal, Greater, append-nil, subst, refl, sym, ◌∙◌, ap, arith}
use Rattle.std.specs.List.{position_or_len}
use Rattle.std.specs.Ordering.{is_ge, is_le}
use Rattle.std.proofs.lemmas.Int.{ints, by_lt_z}
use Rattle.std.proofs.lemmas.Bool.{and_parts, and_from, ltb-true, lt-ltb, ne_eqb}
use Rattle.std.proofs.lemmas.List.{drop_all, take_all}
use Rattle.xs_text.specs.Digits.{are_digits, unsigned_part, has_minus, signed}
use Rattle.xs_text.specs.Decimal.{is_decimal, is_integer, whole_part, fraction_part, integer_value, unscaled_value, scale, IsBelow}
use Rattle.xs_text.proofs.Value.{first_digit, digit_bound, value}

Equal_is_not_Less : Equal ≢ Less
Equal_is_not_Less e = cc

Greater_is_not_Less : Greater ≢ Less
Greater_is_not_Less e = cc

Equal_is_not_Greater : Equal ≢ Greater
Equal_is_not_Greater e = cc

Less_is_not_Greater : Less ≢ Greater
Less_is_not_Greater e = cc

-- digits hold no point
pub point_at_end : (xs : List ℕ) → are_digits xs ≡ true → position_or_len (λ c. eqb c 46) xs ≡ length xs
point_at_end [] h = refl
point_at_end (x ∷ xs) h =
    let parts = first_digit x xs h in
    let digit = digit_bound x parts.0 in
    let other : eqb x 46 ≡ false = ne_eqb x 46 (λ e. omega arith) in
    let rest = point_at_end xs parts.1 in
    ap (λ b. cond (not b) (1 + position_or_len (λ c. eqb c 46) xs) 0) other ∙ omega arith

-- an integer text: its whole part is all behind the sign, and it has no fraction
pub record IsIntegerText (text : List ℕ) : Type 0 where
  pub whole : whole_part text ≡ unsigned_part text
  pub fraction : fraction_part text ≡ []

pub whole_from_integer : (text : List ℕ) → is_integer text ≡ true → IsIntegerText text
whole_from_integer text h =
    let parts = and_parts (ltb 0 (length (unsigned_part text))) (are_digits (unsigned_part text)) h in
    let end = point_at_end (unsigned_part text) parts.1 in
    record {
      whole = ap (λ n. take n (unsigned_part text)) end ∙ take_all (length (unsigned_part text)) (unsigned_part text) (omega arith);
      fraction = drop_all (position_or_len (λ c. eqb c 46) (unsigned_part text) + 1) (unsigned_part text) (omega arith);
    }

pub decimal_from_integer : (text : List ℕ) → is_integer text ≡ true → is_decimal text ≡ true
decimal_from_integer text h =
    let form = whole_from_integer text h in
    let parts = and_parts (ltb 0 (length (unsigned_part text))) (are_digits (unsigned_part text)) h in
    let tested = λ (w f : List ℕ). are_digits w && are_digits f && ltb 0 (length w + length f) in
    let some = ltb-true 0 (length (unsigned_part text)) parts.0 in
    ap (λ w. tested w (fraction_part text)) form.whole
    ∙ ap (λ f. tested (unsigned_part text) f) form.fraction
    ∙ and_from (are_digits (unsigned_part text) && true) (ltb 0 (length (unsigned_part text) + 0))
    (and_from (are_digits (unsigned_part text)) true parts.1 refl)
    (lt-ltb 0 (length (unsigned_part text) + 0) (omega arith))

pub scale_of_integer : (text : List ℕ) → is_integer text ≡ true → scale text ≡ 0
scale_of_integer text h = ap length (whole_from_integer text h).fraction

pub value_of_integer : (text : List ℕ) → is_integer text ≡ true → unscaled_value text ≡ integer_value text
value_of_integer text h =
    let form = whole_from_integer text h in
    ap (λ w. signed (has_minus text) (value (w ++ fraction_part text))) form.whole
    ∙ ap (λ f. signed (has_minus text) (value (unsigned_part text ++ f))) form.fraction
    ∙ ap (λ w. signed (has_minus text) (value w)) (append-nil (unsigned_part text))

mul_one : (z : ℤ) → z *ℤ pos 1 ≡ z
mul_one (pos n) = ap pos (omega arith)
mul_one (negsuc n) = let one : suc n * 1 ≡ suc n = omega arith in ap (λ m. neg_ℤ (pos m)) one

-- a common count of digits behind the point is none
pub integer_at_scale : (a b : List ℕ) → is_integer a ≡ true → is_integer b ≡ true → unscaled_value a *ℤ pos (10 ^ scale b) ≡ integer_value a
integer_at_scale a b h k =
    ap (λ z. z *ℤ pos (10 ^ scale b)) (value_of_integer a h)
    ∙ ap (λ n. integer_value a *ℤ pos (10 ^ n)) (scale_of_integer b k)
    ∙ mul_one (integer_value a)

-- what the order of two integer texts says of their numbers
pub below_integer : (a b : List ℕ) → is_integer a ≡ true → is_integer b ≡ true → IsBelow a b ↔ (integer_value a <ℤ integer_value b)
below_integer a b h k =
    let left = integer_at_scale a b h k in
    let right = integer_at_scale b a k h in (
      λ l. subst (λ z. z <ℤ integer_value b) left (subst (λ z. (unscaled_value a *ℤ pos (10 ^ scale b)) <ℤ z) right l),
      λ l. subst (λ z. z <ℤ (unscaled_value b *ℤ pos (10 ^ scale a))) (sym left) (subst (λ z. integer_value a <ℤ z) (sym right) l),
    )

not_less : (x y : ℤ) → ¬ (x <ℤ y) → int_le y x ≡ true
not_less x y h = by_lt_z x y (λ l. absurd (h l)) (λ l. grind (arith, ints))

not_above : (x y : ℤ) → y <ℤ x → int_le x y ≡ false
not_above x y l = grind (arith, ints)

pub answer_from : (a b : List ℕ) (r : Ordering) → is_integer a ≡ true → is_integer b ≡ true → ((r ≡ Less) ↔ IsBelow a b) → is_ge r ≡ int_le (integer_value b) (integer_value a)
answer_from a b Less h k e = sym (not_above (integer_value b) (integer_value a) ((below_integer a b h k).0 (e.0 refl)))
answer_from a b Equal h k e = sym (not_less (integer_value a) (integer_value b) (λ l. Equal_is_not_Less (e.1 ((below_integer a b h k).1 l))))
answer_from a b Greater h k e = sym (not_less (integer_value a) (integer_value b) (λ l. Greater_is_not_Less (e.1 ((below_integer a b h k).1 l))))

pub answer_to : (a b : List ℕ) (r : Ordering) → is_integer a ≡ true → is_integer b ≡ true → ((r ≡ Greater) ↔ IsBelow b a) → is_le r ≡ int_le (integer_value a) (integer_value b)
answer_to a b Greater h k e = sym (not_above (integer_value a) (integer_value b) ((below_integer b a k h).0 (e.0 refl)))
answer_to a b Equal h k e = sym (not_less (integer_value b) (integer_value a) (λ l. Equal_is_not_Greater (e.1 ((below_integer b a k h).1 l))))
answer_to a b Less h k e = sym (not_less (integer_value b) (integer_value a) (λ l. Less_is_not_Greater (e.1 ((below_integer b a k h).1 l))))
