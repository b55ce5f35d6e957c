-- Distinct items among others are no more than these.
use Rattle.std.proofs.Common.{◌≡◌, ◌∙◌, ap, sym, subst, refl, ℕ, suc, List, [], ◌∷◌, ◌++◌, length, ◌≤◌, arith, inl, inr, ◌⊎◌, length-append}
use Rattle.std.specs.Prelude.{Contains, Some}
use Rattle.std.proofs.lemmas.List.Elements.{Contains-append_cases, Contains-append_left, Contains-append_right}
use Rattle.lists.specs.Distinct.{AreDistinct}
use Rattle.lists.proofs.Members.{in_rest, is_first, is_later, place_of}

-- an item of a list stands between others
divided : {X : Type 0} (ys : List X) (x : X) → Contains ys x → (a b : List X) × (ys ≡ a ++ x ∷ b)
divided [] x c = absurd (omega (arith, c.1))
divided (y ∷ ys) x c = go (in_rest y ys x c) (λ later. divided ys x later)
  where
    go : (y ≡ x) ⊎ Contains ys x → (Contains ys x → (a b : List _) × (ys ≡ a ++ x ∷ b)) → (a b : List _) × (y ∷ ys ≡ a ++ x ∷ b)
    go (inl e) deeper = ([], ys, ap (λ z. z ∷ ys) e)
    go (inr later) deeper = let (a, b, e) = deeper later in (y ∷ a, b, ap (λ zs. y ∷ zs) e)

-- distinct items among others are at most as many as these
pub few_among : {X : Type 0} (xs ys : List X) → AreDistinct xs → ((x : X) → Contains xs x → Contains ys x) → length xs ≤ length ys
few_among [] ys once among = omega arith
few_among {X} (x ∷ xs) ys once among =
    let (a, b, e) = divided ys x (among x (is_first x xs)) in
    let rest : length xs ≤ length (a ++ b) = few_among xs (a ++ b) (λ i j z p q. (let same = once (suc i) (suc j) z p q in omega (arith, same))) (λ z c. others a b e z c) in
    omega (arith, rest, ap length e, length-append a (x ∷ b), length-append a b)
  where
    differs : (z : X) → Contains xs z → x ≡ z → ⊥
    differs z c same =
        let (k, at) = place_of xs z c in
        let one = once 0 (suc k) x refl (at ∙ ap (λ w. Some w) (sym same)) in
        absurd (omega (arith, one))

    others : (a b : List X) → ys ≡ a ++ x ∷ b → (z : X) → Contains xs z → Contains (a ++ b) z
    others a b e z c = elim (Contains-append_cases a (x ∷ b) z (subst (λ v. Contains v z) e (among z (is_later x xs z c)))) [
      | inl in_a ↦ Contains-append_left a b z in_a
      | inr later ↦ elim (in_rest x b z later) [
        | inl same ↦ absurd (differs z c same)
        | inr in_b ↦ Contains-append_right a b z in_b
      ]
    ]
