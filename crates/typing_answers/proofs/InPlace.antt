-- A list whose items are replaced one after the other.
use Rattle.std.proofs.Common.{◌≡◌, ◌∙◌, ◌+◌, ◌++◌, ◌<◌, ℕ, zero, suc, List, [], ◌∷◌, ap, arith, drop, get_or, length, map, refl, set, subst, sym, take}
use Rattle.std.proofs.lemmas.List.Elements.{Contains-get_or}
use Rattle.std.specs.Prelude.{Contains}

module _ {A : Type 0} (f : A → A) where
  -- the first i items are replaced
  abbrev pub replaced : List A → ℕ → List A
  replaced xs i = map f (take i xs) ++ drop i xs

  -- the next item is still the old one
  next_is_old : (xs : List A) (i : ℕ) (d : A) → i < length xs → get_or (replaced xs i) i d ≡ get_or xs i d
  next_is_old [] i d h = absurd (omega (arith, h))
  next_is_old (x ∷ xs) zero d h = refl
  next_is_old (x ∷ xs) (suc i) d h = next_is_old xs i d (omega (arith, h))

  one_more : (xs : List A) (i : ℕ) (d : A) → i < length xs → set (replaced xs i) i (f (get_or (replaced xs i) i d)) ≡ replaced xs (suc i)
  one_more [] i d h = absurd (omega (arith, h))
  one_more (x ∷ xs) zero d h = refl
  one_more (x ∷ xs) (suc i) d h = ap (λ ys. f x ∷ ys) (one_more xs i d (omega (arith, h)))

  -- the next item is one of the old ones
  pub next_held : (xs now : List A) (i : ℕ) (d : A) → i < length xs → now ≡ replaced xs i → Contains xs (get_or now i d)
  next_held xs now i d h is = subst (Contains xs) (sym (ap (λ ys. get_or ys i d) is ∙ next_is_old xs i d h)) (Contains-get_or xs i d h)

  -- it is replaced
  pub one_more_replaced : (xs now : List A) (i : ℕ) (d : A) → i < length xs → now ≡ replaced xs i → set now i (f (get_or now i d)) ≡ replaced xs (i + 1)
  one_more_replaced xs now i d h is =
      let next : suc i ≡ i + 1 = omega arith in
      ap (λ ys. set ys i (f (get_or ys i d))) is ∙ one_more xs i d h ∙ ap (replaced xs) next
