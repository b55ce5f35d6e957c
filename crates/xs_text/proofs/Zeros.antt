-- Digits without the zeros at their front or at their end.
use Rattle.std.proofs.Common.{◌≡◌, ℕ, zero, suc, ◌+◌, ◌-◌, ◌*◌, ◌^◌, ◌<◌, Bool, true, false, cond, eqb, List, [], ◌∷◌, ◌++◌, length, get_or, take, drop, reverse, refl, sym, ◌∙◌, ap, arith}
use Rattle.std.specs.Char.{digit_value}
use Rattle.std.specs.List.{prefix_len, suffix_len}
use Rattle.std.proofs.lemmas.Bool.{false≢true, eqb-true}
use Rattle.std.proofs.lemmas.Bool.Decides.{Decides-eqb}
use Rattle.std.proofs.lemmas.List.{get_or-drop, get_or-take, get_or-reverse, length-drop, length-take-le, length-reverse, take-append-drop}
use Rattle.std.proofs.lemmas.List.Sums.{prefix_len_stops, prefix_len_passes, suffix_len-le-length}
use Rattle.std.proofs.lemmas.Nat.{pow-add}
use Rattle.xs_text.specs.Digits.{are_digits, zero_digit}
use Rattle.xs_text.proofs.Value.{value, value-cons, value-append, first_digit}
use Rattle.xs_text.proofs.Order.{NoLeadingZero, NoTrailingZero}

abbrev pub is_zero : ℕ → Bool
is_zero c = eqb c zero_digit

abbrev pub without_leading : List ℕ → List ℕ
without_leading xs = drop (prefix_len is_zero xs) xs

abbrev pub without_trailing : List ℕ → List ℕ
without_trailing xs = take (length xs - suffix_len is_zero xs) xs

pub are_digits-drop : (n : ℕ) (xs : List ℕ) → are_digits xs ≡ true → are_digits (drop n xs) ≡ true
are_digits-drop zero xs h = h
are_digits-drop (suc n) [] h = refl
are_digits-drop (suc n) (x ∷ xs) h = are_digits-drop n xs (first_digit x xs h).1

pub are_digits-take : (n : ℕ) (xs : List ℕ) → are_digits xs ≡ true → are_digits (take n xs) ≡ true
are_digits-take zero xs h = refl
are_digits-take (suc n) [] h = refl
are_digits-take (suc n) (x ∷ xs) h =
    let parts = first_digit x xs h in
    let rest : are_digits (take n xs) ≡ true = are_digits-take n xs parts.1 in
    grind arith

pub no_leading : (xs : List ℕ) → NoLeadingZero (without_leading xs)
no_leading xs l e =
    let n = prefix_len is_zero xs in
    let more : n < length xs = omega (arith, length-drop n xs) in
    let at : get_or xs n 0 ≡ 48 = ap (λ i. get_or xs i 0) (omega arith) ∙ sym (get_or-drop n xs 0 0) ∙ e in
    false≢true (sym (prefix_len_stops is_zero xs 0 more) ∙ ap is_zero at)

pub no_trailing : (xs : List ℕ) → NoTrailingZero (without_trailing xs)
no_trailing xs l e =
    let k = suffix_len is_zero xs in
    let n = length xs - k in
    let bound = suffix_len-le-length is_zero xs in
    let long : length (take n xs) ≡ n = length-take-le n xs (omega arith) in
    let more : k < length xs = omega arith in
    let at : get_or xs (length xs - 1 - k) 0 ≡ 48 =
    ap (λ i. get_or xs i 0) (omega arith) ∙ sym (get_or-take n xs (length (take n xs) - 1) 0 (omega arith)) ∙ e in
    false≢true (sym (prefix_len_stops is_zero (reverse xs) 0 (omega (arith, length-reverse xs))) ∙ ap is_zero (get_or-reverse xs k 0 more ∙ at))

value_first : (x : ℕ) (xs : List ℕ) (b : Bool) → eqb x 48 ≡ b → value (without_leading xs) ≡ value xs → value (drop (cond b (1 + prefix_len is_zero xs) 0) (x ∷ xs)) ≡ value (x ∷ xs)
value_first x xs true e h =
    let first : digit_value x ≡ 0 = ap digit_value (eqb-true x 48 e) in
    let one : 1 + prefix_len is_zero xs ≡ suc (prefix_len is_zero xs) = omega arith in
    ap (λ i. value (drop i (x ∷ xs))) one ∙ h
    ∙ sym (value-cons x xs ∙ ap (λ d. d * 10 ^ length xs + value xs) first ∙ omega arith)
value_first x xs false e h = refl

pub value_without_leading : (xs : List ℕ) → value (without_leading xs) ≡ value xs
value_without_leading [] = refl
value_without_leading (x ∷ xs) = value_first x xs (eqb x 48) refl (value_without_leading xs)

value_zeros : (xs : List ℕ) → ((k : ℕ) → k < length xs → get_or xs k 0 ≡ 48) → value xs ≡ 0
value_zeros [] h = refl
value_zeros (x ∷ xs) h =
    let rest = value_zeros xs (λ k l. h (suc k) (omega arith)) in
    let digit : digit_value x ≡ 0 = ap digit_value (h 0 (omega arith)) in
    value-cons x xs ∙ ap (λ d. d * 10 ^ length xs + value xs) digit ∙ omega arith

pub value_without_trailing : (xs : List ℕ) → value xs ≡ value (without_trailing xs) * 10 ^ suffix_len is_zero xs
value_without_trailing xs =
    let k = suffix_len is_zero xs in
    let n = length xs - k in
    let bound = suffix_len-le-length is_zero xs in
    let cut : length (drop n xs) ≡ k = omega (arith, length-drop n xs) in
    let zeros : value (drop n xs) ≡ 0 = value_zeros (drop n xs) (λ i l.
    let j = length xs - 1 - (n + i) in
    let passes = prefix_len_passes is_zero (reverse xs) j 0 (omega arith) in
    let at : get_or (reverse xs) j 0 ≡ get_or (drop n xs) i 0 = get_or-reverse xs j 0 (omega arith) ∙ ap (λ m. get_or xs m 0) (omega arith) ∙ sym (get_or-drop n xs i 0) in
    (Decides-eqb (get_or (drop n xs) i 0) 48).0 (ap is_zero (sym at) ∙ passes)) in
    ap value (sym (take-append-drop n xs)) ∙ value-append (take n xs) (drop n xs)
    ∙ ap (λ d. value (take n xs) * 10 ^ d + value (drop n xs)) cut ∙ omega arith

pub length_without_trailing : (xs : List ℕ) → length xs ≡ length (without_trailing xs) + suffix_len is_zero xs
length_without_trailing xs =
    let bound = suffix_len-le-length is_zero xs in
    omega (arith, length-take-le (length xs - suffix_len is_zero xs) xs (omega arith))

-- the zeros in front change no number, and each behind is a factor of ten
pub value_significant : (w f : List ℕ) → value (w ++ f) ≡ value (without_leading w ++ without_trailing f) * 10 ^ suffix_len is_zero f
value_significant w f =
    let u = without_leading w in
    let v = without_trailing f in
    let K = 10 ^ suffix_len is_zero f in
    let power : 10 ^ length f ≡ 10 ^ length v * K = ap (λ n. 10 ^ n) (length_without_trailing f) ∙ pow-add 10 (length v) (suffix_len is_zero f) in
    value-append w f
    ∙ ap (λ n. n * 10 ^ length f + value f) (sym (value_without_leading w))
    ∙ ap (λ n. value u * n + value f) power
    ∙ ap (λ n. value u * (10 ^ length v * K) + n) (value_without_trailing f)
    ∙ joined (value u) (10 ^ length v) (value v) K
    ∙ ap (λ n. n * K) (sym (value-append u v))
  where
    joined : (a p b k : ℕ) → a * (p * k) + b * k ≡ (a * p + b) * k
    joined a p b k = omega arith
