-- Numbers by their canonical forms.
use Rattle.std.proofs.Common.{◌≡◌, ◌≢◌, ℕ, suc, zero, ◌<◌, ◌≤◌, ◌^◌, List, refl, ap, sym, ◌∙◌, length, get_or, arith, subst, Bool, true, false, true≢false}
use Rattle.std.specs.Prelude.{Result, Ok, Err}
use Rattle.std.proofs.lemmas.Fmt.{first_decimal, decimal_digit, parse-decimal, decimal-digits_value}
use Rattle.std.proofs.lemmas.Str.Parse.{IsNumeralModel, numerals_by_value, tells_digits, parse_plain}
use Rattle.std.specs.Bool.{Decides}
use Rattle.std.specs.Fmt.{decimal}
use Rattle.std.specs.Str.Parse.{AllDigits, digits_value, ParsesUnsigned}

own : IsNumeralModel (AllDigits 10) (digits_value 10)
own = numerals_by_value (AllDigits 10) tells_digits

first_digit : (n : ℕ) → n < 2 ^ 64 → 48 ≤ get_or (decimal n) 0 0
first_digit zero h = let e : get_or (decimal 0) 0 0 ≡ 48 = ap (λ z. get_or z 0 0) (decimal_digit 0 (omega arith)) in omega arith
first_digit (suc n) h = let lt : 48 < get_or (decimal (suc n)) 0 0 = first_decimal (suc n) (omega arith) (omega arith) in omega arith

pub no_plus : (bs : List ℕ) (n : ℕ) → get_or bs 0 0 ≡ 43 → n < 2 ^ 64 → bs ≡ decimal n → ⊥
no_plus bs n plus h e = let lt : 48 ≤ get_or (decimal n) 0 0 = first_digit n h in omega (arith, ap (λ z. get_or z 0 0) e)

pub no_zero : (bs : List ℕ) (n : ℕ) → get_or bs 0 0 ≡ 48 → 1 < length bs → n < 2 ^ 64 → bs ≡ decimal n → ⊥
no_zero bs zero is long h e = omega (arith, ap length (e ∙ decimal_digit 0 (omega arith)))
no_zero bs (suc n) is long h e = let lt : 48 < get_or (decimal (suc n)) 0 0 = first_decimal (suc n) (omega arith) (omega arith) in omega (arith, ap (λ z. get_or z 0 0) e)

pub number_found : {E : Type 0} (bs : List ℕ) (r : Result ℕ E) (n : ℕ) → r ≡ Ok n → ParsesUnsigned 64 10 bs r → get_or bs 0 0 ≢ 43 → (1 < length bs → get_or bs 0 0 ≢ 48) → bs ≡ decimal n
number_found {E = E} bs r n is h plus zeros = sym same
  where
    k : (AllDigits 10 bs × (0 < length bs) × (digits_value 10 bs < 2 ^ 64)) × (n ≡ digits_value 10 bs)
    k = parse_plain own {E = E} 64 bs (Ok n) (subst (λ z. ParsesUnsigned {E = E} 64 10 bs z) is h) plus

    one : get_or bs 0 0 ≡ 48 → length bs ≡ 1
    one z = by (length bs) refl
      where
        by : (l : ℕ) → length bs ≡ l → length bs ≡ 1
        by zero e = absurd (let some : 0 < length bs = k.0.1 in omega arith)
        by (suc zero) e = e
        by (suc (suc l)) e = absurd (zeros (omega arith) z)

    same : decimal n ≡ bs
    same = ap decimal k.1 ∙ decimal-digits_value own bs k.0.0 k.0.1 one k.0.2

pub number_small : {E : Type 0} (bs : List ℕ) (r : Result ℕ E) (n : ℕ) → r ≡ Ok n → ParsesUnsigned 64 10 bs r → get_or bs 0 0 ≢ 43 → n < 2 ^ 64
number_small {E = E} bs r n is h plus =
    let k : (AllDigits 10 bs × (0 < length bs) × (digits_value 10 bs < 2 ^ 64)) × (n ≡ digits_value 10 bs) = parse_plain own {E = E} 64 bs (Ok n)
    (subst (λ z. ParsesUnsigned {E = E} 64 10 bs z) is h) plus in
    let below : digits_value 10 bs < 2 ^ 64 = k.0.2 in
    omega (arith, k.1)

pub number_missed : {E : Type 0} (bs : List ℕ) (r : Result ℕ E) (x : E) → r ≡ Err x → ParsesUnsigned 64 10 bs r → (n : ℕ) → n < 2 ^ 64 → bs ≡ decimal n → ⊥
number_missed bs r x is h n small e =
    let read : r ≡ Ok n = parse-decimal 64 n bs r (omega arith) (omega arith) e h in
    cc

pub not_true : (b : Bool) (P : Type 0) → Decides b P → b ≡ false → ¬ P
not_true b P d is p = true≢false (sym (d.1 p) ∙ is)
