-- The remainder of a year by 400, digit by digit.
use Rattle.std.proofs.Common.{◌≡◌, ℕ, zero, suc, ◌+◌, ◌-◌, ◌*◌, ◌<◌, ◌%◌, true, List, [], ◌∷◌, length, get_or, take, sym, ◌∙◌, ap, arith}
use Rattle.std.specs.Char.{is_ascii_digit, digit_value}
use Rattle.std.specs.Str.Parse.{digits_value}
use Rattle.std.proofs.lemmas.Int.Digits.{digits_value_more}
use Rattle.xs_text.specs.Digits.{are_digits}
use Rattle.xs_text.proofs.Value.{first_digit, digit_bound}

pub digit_at : (xs : List ℕ) (k : ℕ) → are_digits xs ≡ true → k < length xs → is_ascii_digit (get_or xs k 0) ≡ true
digit_at [] k h l = absurd (omega arith)
digit_at (x ∷ xs) zero h l = (first_digit x xs h).0
digit_at (x ∷ xs) (suc k) h l = digit_at xs k (first_digit x xs h).1 (omega arith)

remainder_step : (m v d : ℕ) → m ≡ v % 400 → (m * 10 + d) % 400 ≡ (v * 10 + d) % 400
remainder_step m v d e = omega arith

pub remainder_more : (m : ℕ) (xs : List ℕ) (i c : ℕ) → are_digits xs ≡ true → i < length xs → c ≡ get_or xs i 0 → m ≡ digits_value 10 (take i xs) % 400 →
    (m * 10 + (c - 48)) % 400 ≡ digits_value 10 (take (i + 1) xs) % 400
remainder_more m xs i c h l ec e =
    let digit = digit_bound (get_or xs i 0) (digit_at xs i h l) in
    ap (λ d. (m * 10 + d) % 400) (omega arith)
    ∙ remainder_step m (digits_value 10 (take i xs)) (digit_value (get_or xs i 0)) e
    ∙ ap (λ v. v % 400) (sym (digits_value_more 10 xs i l))
