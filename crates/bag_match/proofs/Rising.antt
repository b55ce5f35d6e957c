-- Lists whose items come before all behind them.
use Rattle.std.proofs.Common.{◌≡◌, ◌⊎◌, inl, inr, ℕ, zero, suc, ◌+◌, ◌<◌, List, [], ◌∷◌, ◌++◌, ◌∙◌, arith, drop, get_or, length, subst, sym}
use Rattle.std.proofs.lemmas.List.{drop_all, drop_more}
use Rattle.std.proofs.lemmas.List.Elements.{Contains-append_cases, Contains-append_left, Contains-append_right}
use Rattle.std.specs.Prelude.{Contains}
use Rattle.lists.proofs.Quantifiers.{all_append, all_at, all_of}
use Rattle.lists.proofs.Members.{in_one, is_first, is_later}
use Rattle.schema_tree.specs.Rising.{AreRising}

module _ {X : Type 0} (IsBefore : X → X → Type 0) where
  -- two lists, each item of the one before each of the other
  pub rising_append : (xs ys : List X) → AreRising IsBefore xs → AreRising IsBefore ys →
      ((x y : X) → Contains xs x → Contains ys y → IsBefore x y) → AreRising IsBefore (xs ++ ys)
  rising_append [] ys h k between = k
  rising_append (x ∷ xs) ys h k between = (
    all_append (IsBefore x) xs ys h.0 (all_of (IsBefore x) ys (λ y c. between x y (is_first x xs) c)),
    rising_append xs ys h.1 k (λ z y c d. between z y (is_later x xs z c) d),
  )

  pub rising_push : (xs : List X) (y : X) → AreRising IsBefore xs → ((x : X) → Contains xs x → IsBefore x y) → AreRising IsBefore (xs ++ y ∷ [])
  rising_push xs y h before = rising_append xs (y ∷ []) h (tt, tt) (λ x z c d. subst (λ v. IsBefore x v) (in_one y z d) (before x c))

-- what a list with one more item at its end has
pub in_push : {X : Type 0} (xs : List X) (y x : X) → Contains (xs ++ y ∷ []) x → Contains xs x ⊎ (y ≡ x)
in_push xs y x h = elim (Contains-append_cases xs (y ∷ []) x h) [ inl a ↦ inl a | inr b ↦ inr (in_one y x b) ]

pub push_keeps : {X : Type 0} (xs : List X) (y x : X) → Contains xs x → Contains (xs ++ y ∷ []) x
push_keeps xs y x h = Contains-append_left xs (y ∷ []) x h

pub push_has : {X : Type 0} (xs : List X) (y x : X) → y ≡ x → Contains (xs ++ y ∷ []) x
push_has xs y x e = Contains-append_right xs (y ∷ []) x (subst (λ z. Contains (y ∷ []) z) e (is_first y []))

none_is : {X : Type 0} (x : X) (rest : List X) → ¬ ([] ≡ x ∷ rest)
none_is x rest e = let bad : ⊥ = cc in bad

-- what is behind an item of a rising list comes after it
pub rising_behind : {X : Type 0} (IsBefore : X → X → Type 0) (xs : List X) (i : ℕ) (d : X) → i < length xs → AreRising IsBefore xs →
    (y : X) → Contains (drop (i + 1) xs) y → IsBefore (get_or xs i d) y
rising_behind IsBefore xs i d within h y c = (rising_drop i xs h (get_or xs i d) (drop (i + 1) xs) (drop_more xs i d within)) y c
  where
    rising_drop : (k : ℕ) (zs : List _) → AreRising IsBefore zs → (x : _) (rest : List _) → drop k zs ≡ x ∷ rest → (y : _) → Contains rest y → IsBefore x y
    rising_drop k [] h x rest e y c = absurd (none_is x rest (sym (drop_all k [] (omega arith)) ∙ e))
    rising_drop zero (z ∷ zs) h x rest e y c =
        let head : z ≡ x = cc in let tail : zs ≡ rest = cc in
        subst (λ v. IsBefore v y) head (all_at (IsBefore z) zs y h.0 (subst (λ v. Contains v y) (sym tail) c))
    rising_drop (suc k) (z ∷ zs) h x rest e y c = rising_drop k zs h.1 x rest e y c
