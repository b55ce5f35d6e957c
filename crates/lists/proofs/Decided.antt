-- What is decided: one fact, both of two, either, the negation, and facts of the items of a list.
use Rattle.std.proofs.Common.{◌≡◌, ℕ, zero, suc, ◌⊎◌, inl, inr, Bool, true, false, true≢false, List, [], ◌∷◌, refl, sym, subst, arith, Option, Some, None, IfSome, ◌<◌, ◌≤◌}
use Rattle.std.proofs.lemmas.Bool.{cases_eq, cases_lt}
use Rattle.std.specs.Bool.{Decides}
use Rattle.std.specs.List.{Any, AllByRecursion}
use Rattle.std.specs.Option.{IsSomeAnd}
use Rattle.std.specs.Prelude.{Contains}
use Rattle.lists.specs.Quantifiers.{SomeByRecursion}
use Rattle.lists.proofs.Members.{not_in_none, in_rest, is_first, is_later}

-- P holds or it does not
abbrev pub Decided : Type 0 → Type 0
Decided P = P ⊎ (¬ P)

-- what a test tells is decided
pub from_test : {P : Type 0} (b : Bool) → Decides b P → Decided P
from_test true d = inl (d.0 refl)
from_test false d = inr (λ p. true≢false (sym (d.1 p)))

-- the negation
pub decide_not : {P : Type 0} → Decided P → Decided (¬ P)
decide_not (inl p) = inr (λ h. h p)
decide_not (inr h) = inl h

-- both of two
pub decide_both : {P Q : Type 0} → Decided P → Decided Q → Decided (P × Q)
decide_both (inl p) (inl q) = inl (p, q)
decide_both (inl p) (inr h) = inr (λ t. h t.1)
decide_both (inr h) q = inr (λ t. h t.0)

-- either of two
pub decide_either : {P Q : Type 0} → Decided P → Decided Q → Decided (P ⊎ Q)
decide_either (inl p) q = inl (inl p)
decide_either (inr h) (inl q) = inl (inr q)
decide_either (inr h) (inr k) = inr (elim [ inl p ↦ h p | inr q ↦ k q ])

-- that an optional value is there and has P
pub decide_some_and : {X : Type 0} (o : Option X) (P : X → Type 0) → ((x : X) → Decided (P x)) → Decided (IsSomeAnd o P)
decide_some_and None P d = inr (λ h. h)
decide_some_and (Some x) P d = d x

-- that an optional value has P where it is there
pub decide_if_some : {X : Type 0} (o : Option X) (P : X → Type 0) → ((x : X) → Decided (P x)) → Decided (IfSome o P)
decide_if_some None P d = inl tt
decide_if_some (Some x) P d = d x

-- an item of a list is the first or a later one
first_or_later : {X : Type 0} (P : X → Type 0) (x : X) (xs : List X) → Any P (x ∷ xs) → P x ⊎ Any P xs
first_or_later P x xs (zero, y, within, is, p) = inl (subst P (sym is) p)
first_or_later P x xs (suc k, y, within, is, p) = inr (k, y, omega arith, is, p)

-- some item has P, by its place
pub decide_any : {X : Type 0} (P : X → Type 0) → ((x : X) → Decided (P x)) → (xs : List X) → Decided (Any P xs)
decide_any P d [] = inr (λ h. absurd (omega (arith, h.2)))
decide_any P d (x ∷ xs) = go (d x) (decide_any P d xs)
  where
    go : Decided (P x) → Decided (Any P xs) → Decided (Any P (x ∷ xs))
    go (inl p) rest = inl (0, x, omega arith, refl, p)
    go (inr none) (inl (k, y, within, is, p)) = inl (suc k, y, omega arith, is, p)
    go (inr none) (inr more) = inr (λ h. elim (first_or_later P x xs h) [ inl p ↦ none p | inr later ↦ more later ])

-- all items have P
pub decide_all : {X : Type 0} (P : X → Type 0) → ((x : X) → Decided (P x)) → (xs : List X) → Decided (AllByRecursion P xs)
decide_all P d [] = inl tt
decide_all P d (x ∷ xs) = decide_both (d x) (decide_all P d xs)

-- some item has P
pub decide_some : {X : Type 0} (P : X → Type 0) → ((x : X) → Decided (P x)) → (xs : List X) → Decided (SomeByRecursion P xs)
decide_some P d [] = inr (λ h. h)
decide_some P d (x ∷ xs) = decide_either (d x) (decide_some P d xs)

-- membership, where equality is decided
pub decide_member : {X : Type 0} → ((x y : X) → Decided (x ≡ y)) → (xs : List X) (y : X) → Decided (Contains xs y)
decide_member same [] y = inr (not_in_none y)
decide_member same (x ∷ xs) y = go (same x y) (decide_member same xs y)
  where
    go : Decided (x ≡ y) → Decided (Contains xs y) → Decided (Contains (x ∷ xs) y)
    go (inl e) rest = inl (subst (λ z. Contains (z ∷ xs) y) (sym e) (is_first y xs))
    go (inr ne) (inl c) = inl (is_later x xs y c)
    go (inr ne) (inr h) = inr (λ c. elim (in_rest x xs y c) [ inl e ↦ ne e | inr later ↦ h later ])

-- an order of numbers
pub decide_le : (a b : ℕ) → Decided (a ≤ b)
decide_le a b = elim (cases_lt b a) [ inl lt ↦ inr (λ h. absurd (omega arith)) | inr le ↦ inl le ]

-- a test passes
pub decide_true : (b : Bool) → Decided (b ≡ true)
decide_true true = inl refl
decide_true false = inr (λ e. true≢false (sym e))

-- some number below the bound
pub decide_below : (P : ℕ → Type 0) → ((i : ℕ) → Decided (P i)) → (k : ℕ) → Decided ((i : ℕ) × (i < k) × P i)
decide_below P d zero = inr (λ h. let lt : h.0 < 0 = h.1 in absurd (omega arith))
decide_below P d (suc k) = go (d k) (decide_below P d k)
  where
    go : Decided (P k) → Decided ((i : ℕ) × (i < k) × P i) → Decided ((i : ℕ) × (i < suc k) × P i)
    go (inl p) rest = inl (k, omega arith, p)
    go (inr h) (inl (i, lt, p)) = inl (i, omega arith, p)
    go (inr h) (inr none) = inr (λ (i, lt, p). elim (cases_eq i k) [
      | inl e ↦ h (subst P e p)
      | inr ne ↦ none (i, omega arith, p)
    ])
