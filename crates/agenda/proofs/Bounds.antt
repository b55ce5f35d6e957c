-- The least number that is above all of a list.
use Rattle.std.proofs.Common.{◌<◌, ◌≤◌, ℕ, List, [], ◌∷◌, arith, refl, subst, suc}
use Rattle.std.proofs.Math.Nat.{max-le}
use Rattle.std.proofs.lemmas.List.Recursion.{max_bounds}
use Rattle.std.specs.Prelude.{Contains, max}
use Rattle.lists.proofs.Members.{is_first, is_later}

abbrev pub above : List ℕ → ℕ
above [] = 0
above (x ∷ xs) = max (suc x) (above xs)

pub is_under : (xs : List ℕ) (q : ℕ) → Contains xs q → q < above xs
is_under xs q (i, l, e) = subst (λ x. suc x ≤ above xs) e (max_bounds above suc refl (λ x ys. refl) xs i q l)

pub is_least : (xs : List ℕ) (n : ℕ) → ((q : ℕ) → Contains xs q → q < n) → above xs ≤ n
is_least [] n under = omega arith
is_least (x ∷ xs) n under = max-le (under x (is_first x xs)) (is_least xs n (λ q on. under q (is_later x xs q on)))

-- where a number is taken and none that is left or comes is as great, the bound falls
pub falls : (old new : List ℕ) (k : ℕ) → Contains old k → ((q : ℕ) → Contains new q → q < k) → above new < above old
falls old new k there under =
    let most = is_least new k under in
    let less = is_under old k there in
    omega (arith, most, less)
