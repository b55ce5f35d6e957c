-- Numbers in decimal and the fields that they stand in.
use Rattle.std.proofs.Common.{◌≡◌, ℕ, suc, zero, ◌<◌, ◌≤◌, ◌==◌, List, [], ◌∷◌, ap, sym, ◌∙◌, length, get_or, arith, Option, Some, None, Bor, MatchOption}
use Rattle.std.proofs.lemmas.Fmt.{first_decimal, decimal_digit, digits_decimal}
use Rattle.std.proofs.lemmas.Str.Parse.{IsNumeralModel, numerals_by_value, tells_digits, digit_at}
use Rattle.std.specs.Fmt.{decimal}
use Rattle.std.specs.Str.Parse.{AllDigits, digits_value}
use Rattle.std.specs.List.{position_or_len, after_first}
use Rattle.std.proofs.lemmas.List.Splits.{slice_split_none, slice_split_first}
use Rattle.std.proofs.lemmas.List.Sums.{fails_before_first}
use Rattle.std.proofs.lemmas.Str.Pattern.{IsSplitOnceResult, split_once_first}
use Rattle.proof_file.specs.Reading.{fields}
use Rattle.proof_file.specs.Text.{IsNumber}

own : IsNumeralModel (AllDigits 10) (digits_value 10)
own = numerals_by_value (AllDigits 10) tells_digits

pub first_digit : (n : ℕ) → IsNumber n → 48 ≤ get_or (decimal n) 0 0
first_digit zero h = let e : get_or (decimal 0) 0 0 ≡ 48 = ap (λ z. get_or z 0 0) (decimal_digit 0 (omega arith)) in omega arith
first_digit (suc n) h = let lt : 48 < get_or (decimal (suc n)) 0 0 = first_decimal (suc n) (omega arith) (omega arith) in omega arith

pub digit_of : (n i : ℕ) → IsNumber n → i < length (decimal n) → (48 ≤ get_or (decimal n) i 0) × (get_or (decimal n) i 0 ≤ 57)
digit_of n i h lt = digit_at (decimal n) i (digits_decimal own n (omega arith)) lt

-- a text up to the first separator, and what follows it
pub cut_fields : (c : ℕ) (bs : List ℕ) (r : Option (Bor (List ℕ) × Bor (List ℕ))) → IsSplitOnceResult c bs r → c < 128 →
    MatchOption r (fields c bs ≡ bs ∷ []) (λ x. fields c bs ≡ x.0.now ∷ fields c x.1.now)
cut_fields c bs None h lt =
    let all : position_or_len (λ b. b == c) bs ≡ length bs = split_once_first c bs None h lt in
    slice_split_none (λ b. b == c) bs (λ k d within. fails_before_first (λ b. b == c) bs k d (omega arith))
cut_fields c bs (Some x) h lt =
    let k = split_once_first c bs (Some x) h lt in
    slice_split_first (λ b. b == c) bs 0 k.0 ∙ ap (λ z. z ∷ fields c (after_first (λ b. b == c) bs)) (sym k.1) ∙ ap (λ z. x.0.now ∷ fields c z) (sym k.2)
