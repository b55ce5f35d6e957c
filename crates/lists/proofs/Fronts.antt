-- The front of a list, and what is behind it.
use Rattle.std.proofs.Common.{◌≡◌, ℕ, ◌+◌, ◌<◌, ◌≤◌, ◌⊎◌, inl, inr, length, get_or, take, drop, List, [], ◌∷◌, subst, sym}
use Rattle.std.proofs.lemmas.List.{take-append-drop, take_all, take_more}
use Rattle.std.proofs.lemmas.List.Elements.{Contains-append_cases, Contains-append_left, Contains-append_right}
use Rattle.std.specs.Prelude.{Contains}
use Rattle.lists.proofs.Members.{in_one}

pub in_front : {X : Type 0} (xs : List X) (k : ℕ) (x : X) → Contains (take k xs) x → Contains xs x
in_front xs k x h = subst (λ zs. Contains zs x) (take-append-drop k xs) (Contains-append_left (take k xs) (drop k xs) x h)

pub behind_front : {X : Type 0} (xs : List X) (k : ℕ) (x : X) → Contains (drop k xs) x → Contains xs x
behind_front xs k x h = subst (λ zs. Contains zs x) (take-append-drop k xs) (Contains-append_right (take k xs) (drop k xs) x h)

pub front_or_behind : {X : Type 0} (xs : List X) (k : ℕ) (x : X) → Contains xs x → Contains (take k xs) x ⊎ Contains (drop k xs) x
front_or_behind xs k x h = Contains-append_cases (take k xs) (drop k xs) x (subst (λ zs. Contains zs x) (sym (take-append-drop k xs)) h)

-- an item of the first i, and of the next
pub take_cases : {X : Type 0} (xs : List X) (i : ℕ) (d x : X) → i < length xs → Contains (take (i + 1) xs) x → Contains (take i xs) x ⊎ (get_or xs i d ≡ x)
take_cases xs i d x within h = elim (Contains-append_cases (take i xs) (get_or xs i d ∷ []) x (subst (λ zs. Contains zs x) (take_more xs i d within) h)) [
  | inl before ↦ inl before
  | inr last ↦ inr (in_one (get_or xs i d) x last)
]

pub all_taken : {X : Type 0} (xs : List X) (i : ℕ) (x : X) → length xs ≤ i → Contains xs x → Contains (take i xs) x
all_taken xs i x past h = subst (λ zs. Contains zs x) (sym (take_all i xs past)) h
