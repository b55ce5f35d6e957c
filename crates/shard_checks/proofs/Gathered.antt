-- Texts that stand in order are found by halving.
use Rattle.std.proofs.Common.{◌≡◌, ◌∙◌, ◌<◌, ◌≤◌, ◌||◌, ◌⊎◌, inl, inr, arith, Bool, suc, zero, ℕ, List, [], ◌∷◌, Result, Ok, Err, ap, get_or, length, map, refl, sym}
use Rattle.std.proofs.lemmas.Cmp.{nat_list_cmp_total}
use Rattle.std.proofs.lemmas.List.Folds.{list_any_none}
use Rattle.std.proofs.lemmas.List.Sorted.{list_any-IsPermutation, searchable_from_sorted}
use Rattle.std.proofs.lemmas.Map.Text.{is_eq-slice_cmp}
use Rattle.std.proofs.lemmas.Option.{slice_get-get_or}
use Rattle.std.specs.Borrow.{Bor}
use Rattle.std.specs.Cmp.Lexicographic.{slice_cmp}
use Rattle.std.specs.List.{list_any}
use Rattle.std.specs.List.Sorted.{IsBinarySearchResult, IsPermutation, IsSearchInRange, IsSorted}
use Rattle.std.specs.Ordering.{is_eq, nat_cmp}
use Rattle.std.specs.Prelude.{is_ok}
use Rattle.std.specs.Str.{bytes_eq}
use Rattle.std.specs.declared.cmp.Ordering.{Ordering}
use Rattle.std.specs.declared.cmp.Ordering.TheVariants.{Less, Equal, Greater}
use Rattle.lists.proofs.Members.{any_true, got_in}
use Rattle.shard_checks.specs.Lines.{is_among}
use Rattle.shard_checks.specs.Sets.{Knows, text_order}

before_or : (j i : ℕ) → (j < i) ⊎ (i ≤ j)
before_or j zero = inr (omega arith)
before_or zero (suc i) = inl (omega arith)
before_or (suc j) (suc i) = elim (before_or j i) [
  | inl l ↦ inl (omega arith)
  | inr l ↦ inr (omega arith)
]

abbrev is_line : List ℕ → Bor (List ℕ) → Bool
is_line line y = bytes_eq y.now line

among_lent : (line : List ℕ) (lent : List (Bor (List ℕ))) → list_any (is_line line) lent ≡ is_among line (map (λ y. y.now) lent)
among_lent line [] = refl
among_lent line (y ∷ ys) = ap (λ b. bytes_eq y.now line || b) (among_lent line ys)

-- texts that were brought in order
pub knows_all : (lent found : List (Bor (List ℕ))) → IsPermutation lent found → IsSorted text_order found → Knows found (map (λ y. y.now) lent)
knows_all lent found same sorted = record {
  sorted = sorted;
  same = λ line. sym (among_lent line found) ∙ sym (list_any-IsPermutation (is_line line) lent found same) ∙ among_lent line lent;
}

module _ (line : List ℕ) where
  abbrev pub tells : Bor (List ℕ) → Ordering
  tells y = slice_cmp nat_cmp y.now line

  told : (y : Bor (List ℕ)) (o : Ordering) → tells y ≡ o → is_line line y ≡ is_eq o
  told y o e = sym (is_eq-slice_cmp y.now line) ∙ ap is_eq e

  any_text : Bor (List ℕ)
  any_text = record { ref_ptr = (0, 0); now = [] }

  halved : (found : List (Bor (List ℕ))) → IsSorted text_order found → (r : Result ℕ ℕ) → IsSearchInRange r (length found) →
      IsBinarySearchResult tells found r → is_ok r ≡ list_any (is_line line) found
  halved found sorted (Ok i) inside at =
      let y = get_or found i any_text in
      sym (any_true (is_line line) found y (got_in found i y (slice_get-get_or found i any_text inside)) (told y Equal (at any_text)))
  halved found sorted (Err i) inside at =
      let point = at (searchable_from_sorted nat_list_cmp_total (λ (y : Bor (List ℕ)). y.now) found line sorted) in
      sym (list_any_none (is_line line) found (λ k d within. elim (before_or k i) [
        | inl low ↦ told (get_or found k d) Less (point.0 k d (omega arith) low)
        | inr high ↦ told (get_or found k d) Greater (point.1 k d high within)
      ]))

  -- whether a text is found is whether it is one of those that are known
  pub has_line : (found : List (Bor (List ℕ))) (r : Result ℕ ℕ) (b : Bool) (texts : List (List ℕ)) → Knows found texts → IsSearchInRange r (length found) →
      IsBinarySearchResult tells found r → b ≡ is_ok r → b ≡ is_among line texts
  has_line found r b texts knows inside at is = is ∙ halved found knows.sorted r inside at ∙ among_lent line found ∙ knows.same line
