-- Names of blank nodes as characters and as bytes.
use Rattle.std.proofs.Common.{◌≡◌, ℕ, ◌<◌, ◌≤◌, ◌^◌, ◌≢◌, List, [], ◌∷◌, ◌++◌, refl, ap, sym, ◌∙◌, length, get_or, drop, suc, zero, arith, codes, nat_eq, false, true≢false, Result, Ok, Err, IfSome, IsNone, None, ◌⊎◌, inl, inr}
use Rattle.std.proofs.lemmas.Bool.{cond-false}
use Rattle.std.proofs.lemmas.Fmt.{decimal_nonempty, first_decimal, decimal_digit, parse-decimal, decimal-digits_value, IsAscii-decimal}
use Rattle.std.proofs.lemmas.List.{append_cancel_left}
use Rattle.std.proofs.lemmas.Str.{chars-IsAscii, encodes-chars, IsAscii-append}
use Rattle.std.proofs.lemmas.Str.Parse.{IsNumeralModel, numerals_by_value, tells_digits, parse_plain}
use Rattle.std.specs.Fmt.{decimal}
use Rattle.std.specs.List.{slice_get, starts_with}
use Rattle.std.specs.Result.{result_ok}
use Rattle.std.specs.Str.{chars, IsUtf8, IsAscii}
use Rattle.std.specs.Str.Parse.{AllDigits, digits_value, ParsesUnsigned}
use Rattle.rdf_terms.specs.Names.{IsAnonymous, written_label}
use Rattle.rdf_terms.proofs.Characters.{starts_encodes, starts_not, front_chars, ascii_bytes, ascii_codes}

own : IsNumeralModel (AllDigits 10) (digits_value 10)
own = numerals_by_value (AllDigits 10) tells_digits

-- the digits of an anonymous node's name
pub digits_are : (text digits : List ℕ) (n : ℕ) → text ≡ codes "anon" ++ digits → IsAnonymous text n → digits ≡ decimal n
digits_are text digits n e h = append_cancel_left (codes "anon") digits (decimal n) (sym e ∙ h.spelled)

pub some_digit : (text digits : List ℕ) (n : ℕ) → text ≡ codes "anon" ++ digits → None ≡ slice_get digits 0 → IsAnonymous text n → ⊥
some_digit text [] n e none h =
    let some : 0 < length (decimal n) = decimal_nonempty n (let last = h.last in omega arith) in
    omega (arith, ap length (digits_are text [] n e h))
some_digit text (d ∷ ds) n e none h = cc

pub no_zero : (text digits : List ℕ) (first n : ℕ) → text ≡ codes "anon" ++ digits → get_or digits 0 0 ≡ first → first ≤ 48 → IsAnonymous text n → ⊥
no_zero text digits first n e is low h =
    let positive : 48 < get_or (decimal n) 0 0 = first_decimal n (let one = h.first in omega arith) (let last = h.last in omega arith) in
    omega (arith, ap (λ z. get_or z 0 0) (digits_are text digits n e h))

pub low_first : (first : ℕ) → (first ≡ 48) ⊎ ((first ≢ 48) × (first ≡ 43)) → first ≤ 48
low_first first (inl is) = omega arith
low_first first (inr (other, plus)) = omega arith

pub found_number : {E : Type 0} (text digits : List ℕ) (r : Result ℕ E) → text ≡ codes "anon" ++ digits → ParsesUnsigned 32 10 digits r →
    get_or digits 0 0 ≢ 43 → get_or digits 0 0 ≢ 48 → IfSome (result_ok r) (λ n. IsAnonymous text n)
found_number text digits (Err x) e h plus zeros = tt
found_number {E = E} text digits (Ok n) e h plus zeros = record { first = positive n same; last = (let below = k.0.2 in omega (arith, k.1)); spelled = e ∙ ap (λ z. codes "anon" ++ z) (sym same) }
  where
    k : (AllDigits 10 digits × (0 < length digits) × (digits_value 10 digits < 2 ^ 32)) × (n ≡ digits_value 10 digits)
    k = parse_plain own {E = E} 32 digits (Ok n) h plus

    same : decimal n ≡ digits
    same = ap decimal k.1 ∙ decimal-digits_value own digits k.0.0 k.0.1 (λ z. absurd (zeros z)) (let below = k.0.2 in omega arith)

    positive : (m : ℕ) → decimal m ≡ digits → 1 ≤ m
    positive zero is = absurd (zeros (ap (λ z. get_or z 0 0) (sym is ∙ decimal_digit 0 (omega arith))))
    positive (suc m) is = omega arith

pub missed_number : {E : Type 0} (text digits : List ℕ) (r : Result ℕ E) → text ≡ codes "anon" ++ digits → ParsesUnsigned 32 10 digits r → IsNone (result_ok r) → (n : ℕ) → IsAnonymous text n → ⊥
missed_number text digits (Ok m) e h none n is = absurd (true≢false none)
missed_number text digits (Err x) e h none n is =
    let read : Err x ≡ Ok n = parse-decimal 32 n digits (Err x) (let last = is.last in omega arith) (let last = is.last in omega arith) (digits_are text digits n e is) h in
    cc

-- the same of characters and of bytes
pub ascii_name : (n : ℕ) → n ≤ 4294967295 → IsAscii (codes "anon" ++ decimal n)
ascii_name n last = IsAscii-append (codes "anon") (decimal n) (ascii_codes (codes "anon") refl) (IsAscii-decimal n (omega arith))

pub anonymous_chars : (text : List ℕ) (n : ℕ) → IsAnonymous text n → IsAnonymous (chars text) n
anonymous_chars text n h = record { first = h.first; last = h.last; spelled = ap chars h.spelled ∙ chars-IsAscii (codes "anon" ++ decimal n) (ascii_name n h.last) }

pub anonymous_bytes : (text : List ℕ) (n : ℕ) → IsUtf8 text → IsAnonymous (chars text) n → IsAnonymous text n
anonymous_bytes text n utf8 h = record { first = h.first; last = h.last; spelled = ascii_bytes text (codes "anon" ++ decimal n) utf8 (ascii_name n h.last) h.spelled }

-- a label
pub marked_label : (text rest : List ℕ) → text ≡ codes "anon_anon" ++ rest → chars (drop 5 text) ≡ written_label (chars text)
marked_label text rest e =
    ap (λ z. chars (drop 5 z)) e
    ∙ front_chars (codes "anon") rest (ascii_codes (codes "anon") refl)
    ∙ sym (ap written_label (ap chars e ∙ front_chars (codes "anon_anon") rest (ascii_codes (codes "anon_anon") refl)))

pub bare_label : (text : List ℕ) → IsUtf8 text → ((rest : List ℕ) → ¬ (text ≡ codes "anon_anon" ++ rest)) → chars text ≡ written_label (chars text)
bare_label text utf8 none =
    let other : starts_with nat_eq (chars text) (codes "anon_anon") ≡ false =
    sym (starts_encodes (chars text) (codes "anon_anon") refl) ∙ ap (λ z. starts_with nat_eq z (codes "anon_anon")) (encodes-chars text utf8) ∙ starts_not text (codes "anon_anon") none in
    sym (cond-false (starts_with nat_eq (chars text) (codes "anon_anon")) (drop 5 (chars text)) (chars text) other)
