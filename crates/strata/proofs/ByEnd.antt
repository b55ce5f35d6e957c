-- Arcs in lists by the Shape to which they lead.
use Rattle.std.proofs.Common.{◌≡◌, ◌∙◌, ℕ, zero, suc, ◌<◌, ◌≤◌, ◌+◌, ◌⊎◌, ◌++◌, inl, inr, take, List, [], ◌∷◌, refl, arith, sym, ap, subst, length, get_or, map}
use Rattle.std.proofs.lemmas.List.{length-append, map-append, take_all, take_more}
use Rattle.std.proofs.lemmas.List.Elements.{Contains-append_cases, Contains-append_left, Contains-append_right}
use Rattle.std.specs.Prelude.{◌↔◌, Contains, slice_get, slice_set}
use Rattle.lists.proofs.Members.{in_one, is_first, not_in_none}
use Rattle.strata.specs.declared.edges.Arc.{Arc}
use Rattle.strata.specs.Arcs.{AreByEnd, IsAmong, IsPut}

-- ---- lists without arcs

none_among : (lists : List (List Arc)) → AreByEnd [] lists → (i : ℕ) (a : Arc) → ¬ IsAmong (slice_get lists i) a
none_among lists none i a c = not_in_none a ((none i a).0 c).0

are_none : (lists : List (List Arc)) → ((i : ℕ) (a : Arc) → ¬ IsAmong (slice_get lists i) a) → AreByEnd [] lists
are_none lists none i a = (λ c. absurd (none i a c), λ t. absurd (not_in_none a t.0))

one_none : (lists : List (List Arc)) → ((i : ℕ) (a : Arc) → ¬ IsAmong (slice_get lists i) a) → (i : ℕ) (a : Arc) → ¬ IsAmong (slice_get (lists ++ [] ∷ []) i) a
one_none [] none zero a c = not_in_none a c
one_none [] none (suc i) a c = c
one_none (x ∷ xs) none zero a c = none 0 a c
one_none (x ∷ xs) none (suc i) a c = one_none xs (λ j. none (suc j)) i a c

-- one list more without arcs
pub none_next : {V : Type 0} (f : V → List Arc) (xs : List V) (v : V) (ys : List V) → ys ≡ xs ++ v ∷ [] → f v ≡ [] → AreByEnd [] (map f xs) → AreByEnd [] (map f ys)
none_next f xs v ys is empty none =
    subst (λ zs. AreByEnd [] zs) (sym (ap (map f) is ∙ (map-append f xs (v ∷ []) ∙ ap (λ w. map f xs ++ w ∷ []) empty)))
    (are_none (map f xs ++ [] ∷ []) (one_none (map f xs) (none_among (map f xs) none)))

pub one_longer : {V : Type 0} (xs ys : List V) (v : V) (n : ℕ) → ys ≡ xs ++ v ∷ [] → length xs ≡ n → length ys ≡ n + 1
one_longer xs ys v n is same = ap length is ∙ (length-append xs (v ∷ []) ∙ ap (λ k. k + 1) same)

-- ---- one list gets an arc more

same_lists : (P : Type 0) (l : Type 0) → ¬ l → P ↔ (P ⊎ l)
same_lists P l none = (inl, (λ c. elim c [ inl p ↦ p | inr e ↦ absurd (none e) ]))

one_more : (xs : List Arc) (x a : Arc) → Contains (xs ++ x ∷ []) a ↔ (Contains xs a ⊎ (x ≡ a))
one_more xs x a = (
  (λ c. elim (Contains-append_cases xs (x ∷ []) a c) [ inl l ↦ inl l | inr r ↦ inr (in_one x a r) ]),
  (λ c. elim c [
    | inl l ↦ Contains-append_left xs (x ∷ []) a l
    | inr e ↦ Contains-append_right xs (x ∷ []) a (subst (λ z. Contains (x ∷ []) z) e (is_first x []))
  ]),
)

-- one list gets an arc more, at a number that need not be that of a Shape
abbrev Goes : List (List Arc) → ℕ → Arc → List (List Arc) → Type 0
Goes old at x new = (i : ℕ) (a : Arc) → IsAmong (slice_get new i) a ↔ (IsAmong (slice_get old i) a ⊎ ((at ≡ i) × (x ≡ a)))

here : (xs ys : List Arc) (x a : Arc) → ys ≡ xs ++ x ∷ [] → Contains ys a ↔ (Contains xs a ⊎ ((zero ≡ zero) × (x ≡ a)))
here xs ys x a is =
    let more = one_more xs x a in (
      (λ c. elim (more.0 (subst (λ zs. Contains zs a) is c)) [ inl l ↦ inl l | inr e ↦ inr (refl, e) ]),
      (λ c. subst (λ zs. Contains zs a) (sym is) (elim c [ inl l ↦ more.1 (inl l) | inr t ↦ more.1 (inr t.1) ])),
    )

goes : {V : Type 0} (f : V → List Arc) (xs : List V) (at : ℕ) (x : Arc) (d v : V) → at < length xs → f v ≡ f (get_or xs at d) ++ x ∷ [] → Goes (map f xs) at x (map f (slice_set xs at v))
goes f [] at x d v lt is i a = absurd (let e : at < 0 = lt in omega (arith, e))
goes f (y ∷ ys) zero x d v lt is zero a = here (f y) (f v) x a is
goes f (y ∷ ys) zero x d v lt is (suc i) a = same_lists (IsAmong (slice_get (map f ys) i) a) ((zero ≡ suc i) × (x ≡ a)) (λ t. let e = t.0 in omega (arith, e))
goes f (y ∷ ys) (suc at) x d v lt is zero a = same_lists (Contains (f y) a) ((suc at ≡ zero) × (x ≡ a)) (λ t. let e = t.0 in omega (arith, e))
goes f (y ∷ ys) (suc at) x d v lt is (suc i) a =
    let deeper = goes f ys at x d v (let l : suc at < suc (length ys) = lt in omega (arith, l)) is i a in (
      (λ c. elim (deeper.0 c) [ inl l ↦ inl l | inr t ↦ inr (ap suc t.0, t.1) ]),
      (λ c. elim c [ inl l ↦ deeper.1 (inl l) | inr t ↦ deeper.1 (inr ((let e = t.0 in let g : at ≡ i = omega (arith, e) in g), t.1)) ]),
    )

-- an arc goes last in the list of the Shape to which it leads
pub put_to : {V : Type 0} (f : V → List Arc) (xs new : List V) (x : Arc) (d u v : V) → x.to.0 < length xs → u ≡ get_or xs x.to.0 d → f v ≡ f u ++ x ∷ [] → new ≡ slice_set xs x.to.0 v →
    IsPut (map f xs) x (map f new)
put_to f xs new x d u v lt same is set =
    subst (λ ys. IsPut (map f xs) x (map f ys)) (sym set) (goes f xs x.to.0 x d v lt (is ∙ ap (λ z. f z ++ x ∷ []) same))

-- ---- all of them

module _ (arcs : List Arc) where
  -- one arc more is in its list
  pub put_next : (k : ℕ) (d : Arc) (old new : List (List Arc)) → k < length arcs → AreByEnd (take k arcs) old → IsPut old (get_or arcs k d) new → AreByEnd (take (k + 1) arcs) new
  put_next k d old new lt h more i a = (to, from)
    where
      x : Arc
      x = get_or arcs k d

      is : take (k + 1) arcs ≡ take k arcs ++ get_or arcs k d ∷ []
      is = take_more arcs k d lt

      longer : Contains (take k arcs ++ get_or arcs k d ∷ []) a ↔ (Contains (take k arcs) a ⊎ (get_or arcs k d ≡ a))
      longer = one_more (take k arcs) (get_or arcs k d) a

      to : IsAmong (slice_get new i) a → Contains (take (k + 1) arcs) a × (a.to.0 ≡ i)
      to c = elim ((more i a).0 c) [
        | inl o ↦ (let t = (h i a).0 o in (subst (λ zs. Contains zs a) (sym is) (longer.1 (inl t.0)), t.1))
        | inr t ↦ (subst (λ zs. Contains zs a) (sym is) (longer.1 (inr t.1)), sym (ap (λ z. z.to.0) t.1) ∙ t.0)
      ]

      from : Contains (take (k + 1) arcs) a × (a.to.0 ≡ i) → IsAmong (slice_get new i) a
      from (c, e) = elim (longer.0 (subst (λ zs. Contains zs a) is c)) [
        | inl l ↦ (more i a).1 (inl ((h i a).1 (l, e)))
        | inr same ↦ (more i a).1 (inr (ap (λ z. z.to.0) same ∙ e, same))
      ]

  pub put_all : (k : ℕ) (lists : List (List Arc)) → length arcs ≤ k → AreByEnd (take k arcs) lists → AreByEnd arcs lists
  put_all k lists le h = subst (λ zs. AreByEnd zs lists) (take_all k arcs le) h
