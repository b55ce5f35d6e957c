-- A list cut at the first element that passes a test.
use Rattle.std.proofs.Common.{◌≡◌, ℕ, ◌≤◌, ◌<◌, Bool, List, length, Some, None, arith}
use Rattle.std.specs.List.{position_or_len, position}
use Rattle.std.proofs.lemmas.Bool.Decides.{nat_tests}

-- where nothing passes, all stands before and nothing behind
pub uncut : (p : ℕ → Bool) (xs : List ℕ) → None ≡ position p xs → length xs ≤ position_or_len p xs
uncut p xs e = grind (arith, nat_tests)

pub cut : (p : ℕ → Bool) (xs : List ℕ) (i : ℕ) → Some i ≡ position p xs → (i ≡ position_or_len p xs) × (i < length xs)
cut p xs i e = grind (arith, nat_tests)
