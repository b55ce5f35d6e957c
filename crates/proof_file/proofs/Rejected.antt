-- A proof is not both accepted and rejected, and is rejected in one way at most.
use Rattle.std.proofs.Common.{◌≡◌, ℕ, zero, suc, ◌<◌, inl, inr, List, [], ◌∷◌, refl, arith, sym, subst, ◌∙◌, take}
use Rattle.std.specs.Prelude.{Contains, Option, Some, None, slice_get}
use Rattle.std.specs.List.{AllByRecursion}
use Rattle.std.proofs.lemmas.Bool.{cases_lt}
use Rattle.lists.proofs.Quantifiers.{all_at}
use Rattle.lists.proofs.Members.{is_first, is_later, got_in}
use Rattle.proof_file.specs.declared.Proof.{Proof}
use Rattle.proof_file.specs.declared.Why.{Why}
use Rattle.proof_file.specs.Accepts.{Setting, Item, items_of, Passes, checks_of, FailsAt, FailsBy, IsAccepted, AreAccepted, IsRejected}

-- what fails at a check has not passed all
pub fails_not_all : (P : Why → Type 0) (ws : List Why) (w : Why) → FailsAt P ws w → ¬ AllByRecursion P ws
fails_not_all P [] w h all = h
fails_not_all P (v ∷ vs) w (inl (same, fails)) all = fails all.0
fails_not_all P (v ∷ vs) w (inr (passes, later)) all = fails_not_all P vs w later all.1

-- the first check that fails is one
pub fails_once : (P : Why → Type 0) (ws : List Why) (v w : Why) → FailsAt P ws v → FailsAt P ws w → v ≡ w
fails_once P [] v w a b = absurd a
fails_once P (u ∷ us) v w (inl (e, fails)) (inl (e', fails')) = sym e ∙ e'
fails_once P (u ∷ us) v w (inl (e, fails)) (inr (passes, later)) = absurd (fails passes)
fails_once P (u ∷ us) v w (inr (passes, later)) (inl (e, fails)) = absurd (fails passes)
fails_once P (u ∷ us) v w (inr (passes, later)) (inr (passes', later')) = fails_once P us v w later later'

-- an element before the place i is among the first i
pub in_take : {X : Type 0} (xs : List X) (i j : ℕ) (x : X) → slice_get xs j ≡ Some x → j < i → Contains (take i xs) x
in_take [] i j x e lt = absurd (let bad : ⊥ = cc in bad)
in_take (y ∷ ys) zero j x e lt = absurd (omega arith)
in_take (y ∷ ys) (suc i) zero x e lt = let same : y ≡ x = cc in subst (λ z. Contains (y ∷ take i ys) z) same (is_first y (take i ys))
in_take (y ∷ ys) (suc i) (suc j) x e lt = is_later y (take i ys) x (in_take ys i j x e (omega arith))

module _ (x : Setting) (p : Proof) where
  not_accepted : (item : Option Item) (w : Why) → FailsBy x p item w → (y : Item) × (item ≡ Some y) × FailsAt (Passes x p y) (checks_of y) w
  not_accepted None w h = absurd h
  not_accepted (Some y) w h = (y, refl, h)

  pub not_both : (i : ℕ) (w : Why) → IsRejected x p i w → ¬ AreAccepted x p
  not_both i w r all =
      let (y, is, fails) = not_accepted (slice_get (items_of p) i) w r.1 in
      fails_not_all (Passes x p y) (checks_of y) w fails (all_at (IsAccepted x p) (items_of p) y all (got_in (items_of p) i y is))

  not_before : (i j : ℕ) (v w : Why) → IsRejected x p i v → IsRejected x p j w → ¬ (i < j)
  not_before i j v w a b lt =
      let (y, is, fails) = not_accepted (slice_get (items_of p) i) v a.1 in
      fails_not_all (Passes x p y) (checks_of y) v fails (all_at (IsAccepted x p) (take j (items_of p)) y b.0 (in_take (items_of p) j i y is lt))

  -- one record and one check are named
  pub rejected_once : (i j : ℕ) (v w : Why) → IsRejected x p i v → IsRejected x p j w → (i ≡ j) × (v ≡ w)
  rejected_once i j v w a b =
      let left = not_before i j v w a b in
      let right = not_before j i w v b a in
      let same : i ≡ j = elim (cases_lt i j) [
        | inl lt ↦ absurd (left lt)
        | inr ge ↦ elim (cases_lt j i) [
          | inl lt ↦ absurd (right lt)
          | inr le ↦ omega arith
        ]
      ] in
      (same, by (slice_get (items_of p) i) a.1 (subst (λ z. FailsBy x p (slice_get (items_of p) z) w) (sym same) b.1))
    where
      by : (item : Option Item) → FailsBy x p item v → FailsBy x p item w → v ≡ w
      by None h k = absurd h
      by (Some y) h k = fails_once (Passes x p y) (checks_of y) v w h k
