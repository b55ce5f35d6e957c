-- Some item of the first so many of a list.
use Rattle.std.proofs.Common.{ℕ, ◌+◌, ◌<◌, ◌≤◌, ◌⊎◌, inl, inr, length, get_or, take, List, [], ◌∷◌, refl, sym, subst}
use Rattle.std.proofs.lemmas.List.{take_more, take_all}
use Rattle.std.specs.Prelude.{Contains, ◌↔◌}
use Rattle.lists.proofs.Members.{not_in_none}
use Rattle.bag_match.proofs.Rising.{in_push, push_has, push_keeps}

module _ {X : Type 0} (P : X → Type 0) where
  -- some item of the list
  abbrev pub Some : List X → Type 0
  Some xs = (x : X) × Contains xs x × P x

  pub some_none : (xs : List X) → ¬ Some (take 0 xs)
  some_none [] (x, c, h) = not_in_none x c
  some_none (y ∷ ys) (x, c, h) = not_in_none x c

  pub some_all : (xs : List X) (i : ℕ) → length xs ≤ i → Some (take i xs) ↔ Some xs
  some_all xs i past = (
    (λ (x, c, h). (x, subst (λ zs. Contains zs x) (take_all i xs past) c, h)),
    (λ (x, c, h). (x, subst (λ zs. Contains zs x) (sym (take_all i xs past)) c, h)),
  )

  pub some_next : (xs : List X) (i : ℕ) (d : X) → i < length xs → Some (take (i + 1) xs) ↔ (Some (take i xs) ⊎ P (get_or xs i d))
  some_next xs i d within = ((λ h. there h), λ h. back h)
    where
      there : Some (take (i + 1) xs) → Some (take i xs) ⊎ P (get_or xs i d)
      there (x, c, h) = elim (in_push (take i xs) (get_or xs i d) x (subst (λ zs. Contains zs x) (take_more xs i d within) c)) [
        | inl before ↦ inl (x, before, h)
        | inr own ↦ inr (subst P (sym own) h)
      ]

      back : Some (take i xs) ⊎ P (get_or xs i d) → Some (take (i + 1) xs)
      back (inl (x, c, h)) = (x, subst (λ zs. Contains zs x) (sym (take_more xs i d within)) (push_keeps (take i xs) (get_or xs i d) x c), h)
      back (inr h) = (get_or xs i d, subst (λ zs. Contains zs (get_or xs i d)) (sym (take_more xs i d within)) (push_has (take i xs) (get_or xs i d) (get_or xs i d) refl), h)

-- what a set has, with what is put into it step by step
module _ {X C : Type 0} (P : C → X → Type 0) (xs : List X) (Old : C → Type 0) where
  -- the set has what it had, and what some of the first items brought
  abbrev pub HasSoFar : (C → Type 0) → ℕ → Type 0
  HasSoFar Now i = (c : C) → Now c ↔ (Old c ⊎ Some (P c) (take i xs))

  pub so_far_none : HasSoFar Old 0
  so_far_none c = ((λ h. inl h), λ h. elim h [ inl old ↦ old | inr none ↦ absurd (some_none (P c) xs none) ])

  pub so_far_next : (Now Next : C → Type 0) (i : ℕ) (d : X) → i < length xs → HasSoFar Now i →
      ((c : C) → Next c ↔ (Now c ⊎ P c (get_or xs i d))) → HasSoFar Next (i + 1)
  so_far_next Now Next i d within now next c = (
    (λ h. elim ((next c).0 h) [
      | inl before ↦ elim ((now c).0 before) [ inl old ↦ inl old | inr some ↦ inr ((some_next (P c) xs i d within).1 (inl some)) ]
      | inr own ↦ inr ((some_next (P c) xs i d within).1 (inr own))
    ]),
    (λ h. elim h [
      | inl old ↦ (next c).1 (inl ((now c).1 (inl old)))
      | inr some ↦ elim ((some_next (P c) xs i d within).0 some) [ inl before ↦ (next c).1 (inl ((now c).1 (inr before))) | inr own ↦ (next c).1 (inr own) ]
    ]),
  )

  pub so_far_all : (Now : C → Type 0) (i : ℕ) → length xs ≤ i → HasSoFar Now i → (c : C) → Now c ↔ (Old c ⊎ Some (P c) xs)
  so_far_all Now i past now c = (
    (λ h. elim ((now c).0 h) [ inl old ↦ inl old | inr some ↦ inr ((some_all (P c) xs i past).0 some) ]),
    (λ h. elim h [ inl old ↦ (now c).1 (inl old) | inr some ↦ (now c).1 (inr ((some_all (P c) xs i past).1 some)) ]),
  )

  -- from a set that has nothing
  pub so_far_whole : (Now : C → Type 0) (i : ℕ) → length xs ≤ i → ((c : C) → ¬ Old c) → HasSoFar Now i → (c : C) → Now c ↔ Some (P c) xs
  so_far_whole Now i past none now c = (
    (λ h. elim ((so_far_all Now i past now c).0 h) [ inl old ↦ absurd (none c old) | inr some ↦ some ]),
    (λ some. (so_far_all Now i past now c).1 (inr some)),
  )
