-- Lists whose items rise by an order.
use Rattle.std.specs.Prelude.{ℕ, List, [], ◌∷◌, ◌≡◌, ⊤}
use Rattle.std.specs.Cmp.Lexicographic.{slice_cmp}
use Rattle.std.specs.List.{AllByRecursion}
use Rattle.std.specs.Ordering.{nat_cmp}
use Rattle.std.specs.declared.cmp.Ordering.TheVariants.{Less}

-- each item comes before all behind it
abbrev pub AreRising : {X : Type 0} → (X → X → Type 0) → List X → Type 0
AreRising IsBefore [] = ⊤
AreRising IsBefore (x ∷ xs) = AllByRecursion (IsBefore x) xs × AreRising IsBefore xs

-- each item comes before the next, and x before the first
abbrev pub RisesFrom : {X : Type 0} → (X → X → Type 0) → X → List X → Type 0
RisesFrom IsBefore x [] = ⊤
RisesFrom IsBefore x (y ∷ ys) = IsBefore x y × RisesFrom IsBefore y ys

-- each item comes before the next
abbrev pub Rises : {X : Type 0} → (X → X → Type 0) → List X → Type 0
Rises IsBefore [] = ⊤
Rises IsBefore (x ∷ xs) = RisesFrom IsBefore x xs

-- numbers, compared at the first place where they differ
abbrev pub IsLess : List ℕ → List ℕ → Type 0
IsLess a b = slice_cmp nat_cmp a b ≡ Less
