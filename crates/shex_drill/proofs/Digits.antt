-- The digits of a number.
use Rattle.std.proofs.Common.{◌≡◌, ◌<◌, ◌≤◌, ℕ, zero, suc, ◌+◌, ◌⊎◌, inl, inr, Bool, true, List, [], ◌∷◌, length, refl, subst, arith}
use Rattle.std.specs.Fmt.{decimal}
use Rattle.std.specs.List.{list_all, range_with_len}
use Rattle.std.specs.Str.Parse.{AllDigits}
use Rattle.std.proofs.lemmas.Bool.{and_parts}
use Rattle.std.proofs.lemmas.Fmt.{decimal_is_IsNumeral, length-decimal-le}
use Rattle.std.proofs.lemmas.Str.Parse.{digit_at}

-- the first number of some, or one behind it
below_or_same : (a d : ℕ) → a ≤ d → (a ≡ d) ⊎ (a + 1 ≤ d)
below_or_same a d le = grind arith

-- what holds of each of some numbers that follow one another
every_from : (p : ℕ → Bool) (n a d : ℕ) → list_all p (range_with_len a n) ≡ true → a ≤ d → d < a + n → p d ≡ true
every_from p zero a d e low high = absurd (omega arith)
every_from p (suc n) a d e low high = let both = and_parts (p a) (list_all p (range_with_len (a + 1) n)) e in by both (below_or_same a d low)
    (λ more. every_from p n (a + 1) d both.1 more (omega arith))
  where
    by : (p a ≡ true) × (list_all p (range_with_len (a + 1) n) ≡ true) → (a ≡ d) ⊎ (a + 1 ≤ d) → (a + 1 ≤ d → p d ≡ true) → p d ≡ true
    by both (inl same) later = subst (λ c. p c ≡ true) same both.0
    by both (inr more) later = later more

-- the digits of each kind of test
abbrev pub AllPass : (ℕ → Bool) → Type 0
AllPass p = list_all p (range_with_len 48 10) ≡ true

-- what passes with each digit passes with all digits of a text
pub digits_pass : (p : ℕ → Bool) (ds : List ℕ) → AllPass p → AllDigits 10 ds → list_all p ds ≡ true
digits_pass p [] e all = refl
digits_pass p (d ∷ ds) e all =
    let one = digit_at (d ∷ ds) 0 all (omega arith) in
    let first : p d ≡ true = every_from p 10 48 d e (omega arith) (omega arith) in
    rw (first, digits_pass p ds e all.1) refl

-- the text of a number has digits alone, and few
pub all_digits : (n : ℕ) → n ≤ 200000 → AllDigits 10 (decimal n)
all_digits n le = (decimal_is_IsNumeral n (omega arith)).0.1

pub few_digits : (n : ℕ) → n ≤ 200000 → length (decimal n) ≤ 20
few_digits n le = length-decimal-le 20 n (omega arith) (omega arith) (omega arith)
