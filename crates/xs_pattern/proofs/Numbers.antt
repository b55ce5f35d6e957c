-- Numbers in decimal digits, of any length, and their order.
use Rattle.std.proofs.Common.{◌≡◌, ◌⊎◌, inl, inr, ℕ, ◌+◌, ◌*◌, ◌<◌, ◌≤◌, true, false, List, [], ◌∷◌, length, get_or, take, Less, Equal, Greater, refl, sym, ◌∙◌, ap, arith, min}
use Rattle.std.specs.Prelude.{nat_le}
use Rattle.std.specs.Char.{is_ascii_digit, digit_value}
use Rattle.std.specs.List.{list_all}
use Rattle.std.specs.Str.Parse.{digits_value, digits_value_after}
use Rattle.std.specs.Ordering.{nat_cmp, ordering_then, is_le}
use Rattle.std.specs.Cmp.{nat_cmp_is}
use Rattle.std.specs.Cmp.Lexicographic.{slice_cmp}
use Rattle.std.proofs.lemmas.Bool.{eqb-false, le-leb, lt-leb}
use Rattle.std.proofs.lemmas.Bool.Decides.{nat_tests, leb_tells}
use Rattle.std.proofs.lemmas.Int.Digits.{digits_value_more}
use Rattle.std.proofs.lemmas.List.{get_or_default}
use Rattle.xs_pattern.specs.Lexing.{begins, capped, digit_count}
use Rattle.xs_pattern.proofs.Reading.{and_parts}
use Rattle.xs_pattern.proofs.Sound.{all_digits}

pub digit_bound : (c : ℕ) → is_ascii_digit c ≡ true → digit_value c + 48 ≡ c × (digit_value c < 10)
digit_bound c h = grind (arith, nat_tests)

grows : (ds : List ℕ) (n : ℕ) → n ≤ digits_value_after 10 n ds
grows [] n = omega arith
grows (c ∷ cs) n = let e = grows cs (n * 10 + digit_value c) in omega arith

-- what begins lower and is no longer stays lower
below : (xs ys : List ℕ) (n m : ℕ) → list_all is_ascii_digit xs ≡ true → length xs ≤ length ys → n < m → digits_value_after 10 n xs < digits_value_after 10 m ys
below [] ys n m d le lt = let g = grows ys m in omega arith
below (x ∷ xs) [] n m d le lt = absurd (omega arith)
below (x ∷ xs) (y ∷ ys) n m d le lt =
    let p = and_parts (is_ascii_digit x) (list_all is_ascii_digit xs) d in
    let b = digit_bound x p.0 in
    below xs ys (n * 10 + digit_value x) (m * 10 + digit_value y) p.1 (omega arith) (omega arith)

shorter_below : (xs ys : List ℕ) → list_all is_ascii_digit xs ≡ true → list_all is_ascii_digit ys ≡ true → begins 48 ys ≡ false → length xs < length ys → digits_value 10 xs < digits_value 10 ys
shorter_below xs [] d e z lt = absurd (omega arith)
shorter_below xs (y ∷ ys) d e z lt =
    let b = digit_bound y (and_parts (is_ascii_digit y) (list_all is_ascii_digit ys) e).0 in
    let nonzero = eqb-false y 48 z in
    below xs ys 0 (0 * 10 + digit_value y) d (omega arith) (omega arith)

three_ways : (x y : ℕ) → (x < y) ⊎ ((x ≡ y) ⊎ (y < x))
three_ways x y = elim (leb_tells y x) [ inl p ↦ (elim (leb_tells x y) [ inl q ↦ inr (inl (omega arith)) | inr q ↦ inr (inr q.1) ]) | inr p ↦ inl p.1 ]

cmp_same : (n : ℕ) → Equal ≡ nat_cmp n n
cmp_same n = nat_cmp_is n n Equal refl

cmp_as_long : (xs ys : List ℕ) (n : ℕ) → list_all is_ascii_digit xs ≡ true → list_all is_ascii_digit ys ≡ true → length xs ≡ length ys →
    slice_cmp nat_cmp xs ys ≡ nat_cmp (digits_value_after 10 n xs) (digits_value_after 10 n ys)
cmp_as_long [] [] n d e same = cmp_same n
cmp_as_long [] (y ∷ ys) n d e same = absurd (omega arith)
cmp_as_long (x ∷ xs) [] n d e same = absurd (omega arith)
cmp_as_long (x ∷ xs) (y ∷ ys) n d e same =
    let p = and_parts (is_ascii_digit x) (list_all is_ascii_digit xs) d in
    let q = and_parts (is_ascii_digit y) (list_all is_ascii_digit ys) e in
    let a = digit_bound x p.0 in
    let b = digit_bound y q.0 in
    let long : length xs ≡ length ys = omega arith in
    elim (three_ways x y) [
      | inl lt ↦ ap (λ o. ordering_then o (slice_cmp nat_cmp xs ys)) (sym (nat_cmp_is x y Less lt))
          ∙ nat_cmp_is _ _ Less (below xs ys (n * 10 + digit_value x) (n * 10 + digit_value y) p.1 (omega arith) (omega arith))
      | inr (inl eq) ↦ ap (λ o. ordering_then o (slice_cmp nat_cmp xs ys)) (sym (nat_cmp_is x y Equal eq))
          ∙ (cmp_as_long xs ys (n * 10 + digit_value x) p.1 q.1 long ∙ ap (λ v. nat_cmp (digits_value_after 10 (n * 10 + digit_value x) xs) (digits_value_after 10 (n * 10 + digit_value v) ys)) eq)
      | inr (inr gt) ↦ ap (λ o. ordering_then o (slice_cmp nat_cmp xs ys)) (sym (nat_cmp_is x y Greater gt))
          ∙ nat_cmp_is _ _ Greater (below ys xs (n * 10 + digit_value y) (n * 10 + digit_value x) q.1 (omega arith) (omega arith))
    ]

le_cmp : (a b : ℕ) → is_le (nat_cmp a b) ≡ nat_le a b
le_cmp a b = elim (three_ways a b) [
  | inl lt ↦ ap is_le (sym (nat_cmp_is a b Less lt)) ∙ sym (le-leb a b (omega arith))
  | inr (inl eq) ↦ ap is_le (sym (nat_cmp_is a b Equal eq)) ∙ sym (le-leb a b (omega arith))
  | inr (inr gt) ↦ ap is_le (sym (nat_cmp_is a b Greater gt)) ∙ sym (lt-leb a b gt)
]

-- digits without zeros at the front are ordered by their lengths, and then one by one
pub at_most_told : (xs ys : List ℕ) → list_all is_ascii_digit xs ≡ true → list_all is_ascii_digit ys ≡ true → begins 48 xs ≡ false → begins 48 ys ≡ false →
    is_le (ordering_then (nat_cmp (length xs) (length ys)) (slice_cmp nat_cmp xs ys)) ≡ nat_le (digits_value 10 xs) (digits_value 10 ys)
at_most_told xs ys d e z w = elim (three_ways (length xs) (length ys)) [
  | inl lt ↦ ap (λ o. is_le (ordering_then o (slice_cmp nat_cmp xs ys))) (sym (nat_cmp_is (length xs) (length ys) Less lt))
      ∙ sym (le-leb (digits_value 10 xs) (digits_value 10 ys) (let b = shorter_below xs ys d e w lt in omega arith))
  | inr (inl eq) ↦ ap (λ o. is_le (ordering_then o (slice_cmp nat_cmp xs ys))) (sym (nat_cmp_is (length xs) (length ys) Equal eq))
      ∙ (ap is_le (cmp_as_long xs ys 0 d e eq) ∙ le_cmp (digits_value 10 xs) (digits_value 10 ys))
  | inr (inr gt) ↦ ap (λ o. is_le (ordering_then o (slice_cmp nat_cmp xs ys))) (sym (nat_cmp_is (length xs) (length ys) Greater gt))
      ∙ sym (lt-leb (digits_value 10 xs) (digits_value 10 ys) (shorter_below ys xs e d z gt))
]

-- the digits at the front are digits
pub digits_front : (ts front : List ℕ) (n : ℕ) → n ≡ digit_count ts → front ≡ take n ts → list_all is_ascii_digit front ≡ true
digits_front ts front n count is = ap (list_all is_ascii_digit) (is ∙ ap (λ k. take k ts) count) ∙ all_digits ts

-- one digit further
capped_step : (n d v : ℕ) → n ≡ min v 4097 → min (n * 10 + d) 4097 ≡ min (v * 10 + d) 4097
capped_step n d v is = omega arith

pub number_on : (ds : List ℕ) (i n x : ℕ) → i < length ds → n ≡ capped (digits_value 10 (take i ds)) → x ≡ get_or ds i x →
    min (n * 10 + digit_value x) 4097 ≡ capped (digits_value 10 (take (i + 1) ds))
number_on ds i n x lt is digit =
    capped_step n (digit_value x) (digits_value 10 (take i ds)) is
    ∙ (ap (λ v. min (digits_value 10 (take i ds) * 10 + digit_value v) 4097) (digit ∙ get_or_default ds i x 0 lt) ∙ ap (λ v. min v 4097) (sym (digits_value_more 10 ds i lt)))
