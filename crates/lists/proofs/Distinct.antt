-- Lists whose items a test tells apart.
use Rattle.std.proofs.Common.{◌≡◌, ℕ, Bool, true, false, List, [], ◌∷◌, ◌++◌, ap, sym, ◌∙◌, refl, suc, zero, Contains, true≢false, inl, inr, get_or, if◌then◌else◌}
use Rattle.std.specs.Prelude.{slice_get, Some}
use Rattle.std.specs.Bool.{Decides}
use Rattle.std.proofs.lemmas.List.Quantifiers.{position-Some}
use Rattle.std.proofs.lemmas.Option.{slice_get-get_or}
use Rattle.std.proofs.lemmas.Map.Views.{list_any-from_Contains}
use Rattle.std.specs.List.{AllByRecursion, IsDistinct, list_any, position}
use Rattle.indexmap.proofs.CallerLemmas.{Contains-list_any}
use Rattle.lists.specs.Equality.{decided_equiv}
use Rattle.indexmap.specs.IndexSet.{insert_key}
use Rattle.lists.specs.Distinct.{AreDistinct}
use Rattle.lists.specs.Additions.{Adds}

-- a term that a test of equality finds at a place stands there
module _ {X : Type 0} (same : X → X → Bool) (d : (a b : X) → Decides (same a b) (a ≡ b)) where
  -- no item of the list is x
  absent : (x : X) (xs : List X) → AllByRecursion (λ y. same x y ≡ false) xs → (i : ℕ) → slice_get xs i ≡ Some x → ⊥
  absent x [] h i e = cc
  absent x (y ∷ ys) h zero e = let at : y ≡ x = cc in true≢false (sym ((d x y).1 (sym at)) ∙ h.0)
  absent x (y ∷ ys) h (suc i) e = absent x ys h.1 i e

  pub distinct_items : (xs : List X) → IsDistinct same xs → AreDistinct xs
  unfolding IsDistinct
  distinct_items [] h i j x a b = cc
  distinct_items (y ∷ ys) h zero zero x a b = refl
  distinct_items (y ∷ ys) h zero (suc j) x a b = let at : y ≡ x = cc in absurd (absent y ys h.0 j (b ∙ ap (λ z. Some z) (sym at)))
  distinct_items (y ∷ ys) h (suc i) zero x a b = let at : y ≡ x = cc in absurd (absent y ys h.0 i (a ∙ ap (λ z. Some z) (sym at)))
  distinct_items (y ∷ ys) h (suc i) (suc j) x a b = ap suc (distinct_items ys h.1 i j x a b)

  pub adds_item : (xs : List X) (x : X) (new : List X) → new ≡ insert_key same xs x → Adds xs x new
  adds_item xs x new is = go (list_any (same x) xs) refl is
    where
      go : (b : Bool) → list_any (same x) xs ≡ b → new ≡ (if b then xs else xs ++ x ∷ []) → Adds xs x new
      go true there e = inl (Contains-list_any same (λ a b. (d a b).0) xs x there, e)
      go false missing e = inr (λ held. true≢false (sym (list_any-from_Contains (decided_equiv same d) x xs held) ∙ missing), e)

  pub found_item : (xs : List X) (x : X) (i : ℕ) → position (same x) xs ≡ Some i → slice_get xs i ≡ Some x
  found_item xs x i is =
      let p = position-Some (same x) xs i x is in
      slice_get-get_or xs i x p.0 ∙ ap (λ y. Some y) (sym ((d x (get_or xs i x)).0 p.1))

  pub missed_item : (xs : List X) (x : X) → list_any (same x) xs ≡ false → ¬ Contains xs x
  missed_item xs x is = λ held. true≢false (sym (list_any-from_Contains (decided_equiv same d) x xs held) ∙ is)

  pub inserted_item : (xs : List X) (x : X) (i : ℕ) → (y : X) × (slice_get xs i ≡ Some y) × (same x y ≡ true) → slice_get xs i ≡ Some x
  inserted_item xs x i (y, at, is) = at ∙ ap (λ z. Some z) (sym ((d x y).0 is))
