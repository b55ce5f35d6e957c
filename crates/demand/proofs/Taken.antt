-- Items that are read of a list, one after the other.
use Rattle.std.proofs.Common.{◌≡◌, ℕ, zero, suc, ◌<◌, ◌+◌, ◌⊎◌, inl, inr, take, List, [], ◌∷◌, sym, subst, length, get_or}
use Rattle.std.proofs.lemmas.List.{get_or_default, take_more}
use Rattle.std.proofs.lemmas.List.Elements.{Contains-append_cases, Contains-append_left, Contains-append_right}
use Rattle.std.specs.Prelude.{◌↔◌, Contains}
use Rattle.lists.proofs.Members.{in_one, in_rest, is_first, is_later, not_in_none}

-- one more item is read
pub in_more : {X : Type 0} (xs : List X) (i : ℕ) (d q : X) → i < length xs → Contains (take (i + 1) xs) q ↔ (Contains (take i xs) q ⊎ (get_or xs i d ≡ q))
in_more xs i d q inside = (
  (λ c. elim (Contains-append_cases (take i xs) (get_or xs i d ∷ []) q (subst (λ ys. Contains ys q) (take_more xs i d inside) c)) [
    | inl l ↦ inl l
    | inr r ↦ inr (in_one (get_or xs i d) q r)
  ]),
  (λ h. subst (λ ys. Contains ys q) (sym (take_more xs i d inside)) (elim h [
    | inl l ↦ Contains-append_left (take i xs) (get_or xs i d ∷ []) q l
    | inr e ↦ Contains-append_right (take i xs) (get_or xs i d ∷ []) q (subst (λ z. Contains (get_or xs i d ∷ []) z) e (is_first (get_or xs i d) []))
  ])),
)

-- what was read is in the list
pub take_in : {X : Type 0} (xs : List X) (n : ℕ) (q : X) → Contains (take n xs) q → Contains xs q
take_in [] zero q c = c
take_in [] (suc n) q c = c
take_in (x ∷ xs) zero q c = absurd (not_in_none q c)
take_in (x ∷ xs) (suc n) q c = elim (in_rest x (take n xs) q c) [
  | inl e ↦ subst (λ z. Contains (x ∷ xs) z) e (is_first x xs)
  | inr later ↦ is_later x xs q (take_in xs n q later)
]

-- an item that is read is in the list
pub held_item : {X : Type 0} (xs : List X) (i : ℕ) (d : X) → i < length xs → Contains xs (get_or xs i d)
held_item xs i d inside = (i, inside, get_or_default xs i (get_or xs i d) d inside)
