-- A table takes up two rising lists alike where the second has all of the first that the table has not, and nothing new beside it.
use Rattle.std.proofs.Common.{◌≡◌, ◌∙◌, sym, subst, refl, List, [], ◌∷◌, inl, inr, ◌⊎◌}
use Rattle.std.specs.Prelude.{Contains}
use Rattle.std.specs.Cmp.{tied_itself}
use Rattle.std.specs.Cmp.Lexicographic.{on_texts, slice_cmp}
use Rattle.std.specs.List.Sorted.{IsStrictlySortedBy}
use Rattle.std.specs.Ordering.{nat_cmp}
use Rattle.std.specs.declared.cmp.Ordering.{Ordering}
use Rattle.std.specs.declared.cmp.Ordering.TheVariants.{Less, Equal}
use Rattle.std.proofs.lemmas.List.Elements.{Contains-append_left, Contains-push_cases}
use Rattle.lists.specs.Additions.{Adds, AddsAll, none, more}
use Rattle.rdf_terms.specs.Written.{term_text}
use Rattle.rdf_terms.specs.declared.terms.Term.{Term}
use Rattle.lists.proofs.Quantifiers.{all_at}
use Rattle.lists.proofs.Members.{in_rest, is_first, is_later, not_in_none}
use Rattle.schema_tree.specs.Rising.{Rises, RisesFrom}
use Rattle.proof_file.specs.Text.{IsTermBefore}
use Rattle.proof_checker.specs.Checks.{TakesUp}

abbrev order : Term → Term → Ordering
order a b = slice_cmp nat_cmp (term_text a) (term_text b)

-- nothing is below itself
not_below_itself : (a : Term) → order a a ≡ Less → ⊥
not_below_itself a h = let e : order a a ≡ Equal = tied_itself (on_texts term_text) a in cc

-- nor are two below each other
not_both_below : (a b : Term) → order a b ≡ Less → order b a ≡ Less → ⊥
not_both_below a b h k = not_below_itself a ((on_texts term_text).trans a b a h k)

-- all behind an item of a rising list are above it
above : (x : Term) (xs : List Term) → RisesFrom IsTermBefore x xs → (y : Term) → Contains xs y → order x y ≡ Less
above x [] rises y h = absurd (not_in_none y h)
above x (z ∷ zs) (first, rest) y h = elim (in_rest z zs y h) [
  | inl e ↦ subst (λ t. order x t ≡ Less) e first
  | inr later ↦ (on_texts term_text).trans x z y first (above z zs rest y later)
]

rest_rises : (x : Term) (xs : List Term) → RisesFrom IsTermBefore x xs → Rises IsTermBefore xs
rest_rises x [] rises = tt
rest_rises x (y ∷ ys) rises = rises.1

sorted_above : (x : Term) (xs : List Term) → IsStrictlySortedBy order (x ∷ xs) → (y : Term) → Contains xs y → order x y ≡ Less
unfolding IsStrictlySortedBy
sorted_above x xs sorted y h = all_at (λ z. order x z ≡ Less) xs y sorted.0 h

sorted_rest : (x : Term) (xs : List Term) → IsStrictlySortedBy order (x ∷ xs) → IsStrictlySortedBy order xs
unfolding IsStrictlySortedBy
sorted_rest x xs sorted = sorted.1

-- what a table has it had, or took up
add_from : (old new : List Term) (x t : Term) → Adds old x new → Contains new t → Contains old t ⊎ (x ≡ t)
add_from old new x t (inl (held, e)) h = inl (subst (λ z. Contains z t) e h)
add_from old new x t (inr (fresh, e)) h = Contains-push_cases old x t (subst (λ z. Contains z t) e h)

all_from : (old xs new : List Term) → AddsAll old xs new → (t : Term) → Contains new t → Contains old t ⊎ Contains xs t
all_from old [] new none t h = inl h
all_from old (x ∷ xs) new (more {mid = mid} adds later) t h = elim (all_from mid xs new later t h) [
  | inl before ↦ elim (add_from old mid x t adds before) [
    | inl there ↦ inl there
    | inr e ↦ inr (subst (λ z. Contains (x ∷ xs) z) e (is_first x xs))
  ]
  | inr after ↦ inr (is_later x xs t after)
]

pub taken_up : (old xs new ys : List Term) → AddsAll old xs new → IsStrictlySortedBy order xs → Rises IsTermBefore ys →
    ((t : Term) → Contains xs t → Contains ys t ⊎ Contains old t) → ((t : Term) → Contains ys t → Contains new t) → TakesUp old ys new
taken_up old [] new [] none sorted rises among there = refl
taken_up old [] new (y ∷ ys) none sorted rises among there =
    (old, inl (there y (is_first y ys), refl), taken_up old [] new ys none sorted (rest_rises y ys rises) (λ t h. absurd (not_in_none t h)) (λ t h. there t (is_later y ys t h)))
taken_up old (x ∷ xs) new ys (more {mid = mid} (inl (held, same)) later) sorted rises among there =
    taken_up old xs new ys (subst (λ z. AddsAll z xs new) same later) (sorted_rest x xs sorted) rises (λ t h. among t (is_later x xs t h)) there
taken_up old (x ∷ xs) new [] (more {mid = mid} (inr (fresh, added)) later) sorted rises among there = elim (among x (is_first x xs)) [
  | inl listed ↦ absurd (not_in_none x listed)
  | inr before ↦ absurd (fresh before)
]
taken_up old (x ∷ xs) new (y ∷ ys) (more {mid = mid} (inr (fresh, added)) later) sorted rises among there = elim (in_rest y ys x listed) [
  | inl e ↦ (mid, subst (λ z. Adds old z mid) (sym e) (inr (fresh, added)), taken_up mid xs new ys later (sorted_rest x xs sorted) (rest_rises y ys rises) (others e) (λ t h. there t (is_later y ys t h)))
  | inr below ↦ (old, inl (held below, refl), taken_up old (x ∷ xs) new ys (more (inr (fresh, added)) later) sorted (rest_rises y ys rises) (behind below) (λ t h. there t (is_later y ys t h)))
]
  where
    listed : Contains (y ∷ ys) x
    listed = elim (among x (is_first x xs)) [
      | inl h ↦ h
      | inr before ↦ absurd (fresh before)
    ]

    -- where the first items are one, the others are among the others
    others : y ≡ x → (t : Term) → Contains xs t → Contains ys t ⊎ Contains mid t
    others e t h = elim (among t (is_later x xs t h)) [
      | inl there_too ↦ elim (in_rest y ys t there_too) [
        | inl same ↦ absurd (not_below_itself x (subst (λ z. order x z ≡ Less) (sym same ∙ e) (sorted_above x xs sorted t h)))
        | inr after ↦ inl after
      ]
      | inr before ↦ inr (subst (λ z. Contains z t) (sym added) (Contains-append_left old (x ∷ []) t before))
    ]

    -- where the first of the one is behind the first of the other, that one is not among the first list
    not_listed : Contains ys x → Contains (x ∷ xs) y → ⊥
    not_listed below h = elim (in_rest x xs y h) [
      | inl e ↦ not_below_itself y (subst (λ z. order y z ≡ Less) e (above y ys rises x below))
      | inr after ↦ not_both_below y x (above y ys rises x below) (sorted_above x xs sorted y after)
    ]

    held : Contains ys x → Contains old y
    held below = elim (all_from old (x ∷ xs) new (more (inr (fresh, added)) later) y (there y (is_first y ys))) [
      | inl before ↦ before
      | inr after ↦ absurd (not_listed below after)
    ]

    behind : Contains ys x → (t : Term) → Contains (x ∷ xs) t → Contains ys t ⊎ Contains old t
    behind below t h = elim (among t h) [
      | inl there_too ↦ elim (in_rest y ys t there_too) [
        | inl e ↦ absurd (not_listed below (subst (λ z. Contains (x ∷ xs) z) (sym e) h))
        | inr later_one ↦ inl later_one
      ]
      | inr before ↦ inr before
    ]
