-- Lists that stand one behind the other, read and added to.
use Rattle.std.proofs.Common.{◌≡◌, ℕ, zero, suc, ◌+◌, ◌-◌, ◌<◌, ◌≤◌, length, take, drop, List, [], ◌∷◌, ◌++◌, refl, arith, ap, sym, subst, ◌∙◌}
use Rattle.std.proofs.Math.Seq.{drop-append_seam}
use Rattle.std.proofs.lemmas.List.{drop-append-le, length-append, length-drop, take-append-le, take_all}
use Rattle.std.specs.Prelude.{Some, slice_get}
use Rattle.schema_tree.specs.declared.verdicts.Place.{Place}
use Rattle.bag_match.specs.PlaceLists.{AreStarts, first_of, lists_from}

pub lists_long : (places : List Place) (starts : List ℕ) → length (lists_from places starts) ≡ length starts
lists_long places [] = refl
lists_long places (s ∷ starts) = ap suc (lists_long places starts)

-- the first start is not behind the end
pub first_within : (end : ℕ) (starts : List ℕ) → AreStarts end starts → first_of end starts ≤ end
first_within end [] h = omega arith
first_within end (s ∷ starts) h = let a = h.0 in let b = first_within end starts h.1 in omega (arith, a, b)

-- nor is any other
pub starts_rise : (end : ℕ) (starts : List ℕ) (i : ℕ) → AreStarts end starts → i < length starts → first_of end (drop i starts) ≤ first_of end (drop (suc i) starts)
starts_rise end [] i h lt = absurd (omega (arith, lt))
starts_rise end (s ∷ starts) zero h lt = h.0
starts_rise end (s ∷ starts) (suc i) h lt = starts_rise end starts i h.1 (omega (arith, lt))

pub starts_within : (end : ℕ) (starts : List ℕ) (i : ℕ) → AreStarts end starts → first_of end (drop i starts) ≤ end
starts_within end starts zero h = first_within end starts h
starts_within end [] (suc i) h = omega arith
starts_within end (s ∷ starts) (suc i) h = starts_within end starts i h.1

pub list_at : (places : List Place) (starts : List ℕ) (i : ℕ) → i < length starts →
    slice_get (lists_from places starts) i ≡
    Some (take (first_of (length places) (drop (suc i) starts) - first_of (length places) (drop i starts)) (drop (first_of (length places) (drop i starts)) places))
list_at places [] i lt = absurd (omega (arith, lt))
list_at places (s ∷ starts) zero lt = refl
list_at places (s ∷ starts) (suc i) lt = list_at places starts i (omega (arith, lt))

first_pushed : (end more : ℕ) (starts : List ℕ) → first_of more (starts ++ end ∷ []) ≡ first_of end starts
first_pushed end more [] = refl
first_pushed end more (s ∷ starts) = refl

pub starts_push : (end more : ℕ) (starts : List ℕ) → end ≤ more → AreStarts end starts → AreStarts more (starts ++ end ∷ [])
starts_push end more [] le h = (le, tt)
starts_push end more (s ∷ starts) le h = (subst (λ k. s ≤ k) (sym (first_pushed end more starts)) h.0, starts_push end more starts le h.1)

part_kept : (xs ys : List Place) (s e : ℕ) → s ≤ e → e ≤ length xs → take (e - s) (drop s (xs ++ ys)) ≡ take (e - s) (drop s xs)
part_kept xs ys s e le within =
    let long = length-drop s xs in
    ap (λ z. take (e - s) z) (drop-append-le s xs ys (omega (arith, le, within))) ∙ take-append-le (e - s) (drop s xs) ys (omega (arith, le, within, long))

all_taken : (xs : List Place) (k : ℕ) → k ≡ length xs → take k xs ≡ xs
all_taken xs k is = ap (λ z. take z xs) is ∙ take_all (length xs) xs (omega arith)

-- one more list
pub lists_push : (places list : List Place) (starts : List ℕ) → AreStarts (length places) starts → lists_from (places ++ list) (starts ++ length places ∷ []) ≡ lists_from places starts ++ list ∷ []
lists_push places list [] h =
    let long = length-append places list in
    ap (λ z. z ∷ []) (ap (λ z. take (length (places ++ list) - length places) z) (drop-append_seam places list) ∙ all_taken list (length (places ++ list) - length places) (omega (arith, long)))
lists_push places list (s ∷ starts) h =
    ap (λ k. take (k - s) (drop s (places ++ list)) ∷ lists_from (places ++ list) (starts ++ length places ∷ [])) (first_pushed (length places) (length (places ++ list)) starts)
    ∙ ap (λ z. z ∷ lists_from (places ++ list) (starts ++ length places ∷ [])) (part_kept places list s (first_of (length places) starts) h.0 (first_within (length places) starts h.1))
    ∙ ap (λ z. take (first_of (length places) starts - s) (drop s places) ∷ z) (lists_push places list starts h.1)

-- ---- lists that are lent

module _ (own_places : List Place) (own_starts : List ℕ) (places : List Place) (starts : List ℕ) (whole : List (List Place)) (alike : places ≡ own_places) (same : starts ≡ own_starts)
    (is : lists_from own_places own_starts ≡ whole) (h : AreStarts (length own_places) own_starts) where
  lent : lists_from places starts ≡ whole
  lent = ap (λ z. lists_from z starts) alike ∙ ap (λ z. lists_from own_places z) same ∙ is

  rise : AreStarts (length places) starts
  rise = subst (λ z. AreStarts (length z) starts) (sym alike) (subst (λ z. AreStarts (length own_places) z) (sym same) h)

  pub as_many : length starts ≡ length whole
  as_many = sym (lists_long places starts) ∙ ap (λ z. length z) lent

  module _ (i : ℕ) (lt : i < length whole) where
    pub at_within : i < length starts
    at_within = let e = as_many in omega (arith, e, lt)

    module _ (start end : ℕ) (from : start ≡ first_of (length places) (drop i starts)) (to : end ≡ first_of (length places) (drop (i + 1) starts)) where
      until : end ≡ first_of (length places) (drop (suc i) starts)
      until = to ∙ ap (λ k. first_of (length places) (drop k starts)) (let e : i + 1 ≡ suc i = omega arith in e)

      pub at_rises : start ≤ end
      at_rises = let a = starts_rise (length places) starts i rise at_within in let b = until in omega (arith, a, from, b)

      pub at_ends : end ≤ length places
      at_ends = let a = starts_within (length places) starts (suc i) rise in let b = until in omega (arith, a, b)

      pub at_list : (list : List Place) → list ≡ take (end - start) (drop start places) → slice_get whole i ≡ Some list
      at_list list read =
          ap (λ z. slice_get z i) (sym lent) ∙ list_at places starts i at_within
          ∙ ap (λ z. Some z) (ap (λ k. take (k - first_of (length places) (drop i starts)) (drop (first_of (length places) (drop i starts)) places)) (sym until)
          ∙ ap (λ k. take (end - k) (drop k places)) (sym from) ∙ sym read)

-- ---- one more list

module _ (places list : List Place) (starts new : List ℕ) (now : List Place) (start : ℕ) (from : start ≡ length places) (h : AreStarts (length places) starts) (more : new ≡ starts ++ start ∷ []) where
  new_is : new ≡ starts ++ length places ∷ []
  new_is = more ∙ ap (λ k. starts ++ k ∷ []) from

  -- where the places are not there yet
  pub starts_only : AreStarts (length places) new
  starts_only = subst (λ z. AreStarts (length places) z) (sym new_is) (starts_push (length places) (length places) starts (omega arith) h)

  pub starts_more : now ≡ places ++ list → AreStarts (length now) new
  starts_more is =
      let long = length-append places list in
      subst (λ z. AreStarts (length z) new) (sym is)
      (subst (λ z. AreStarts (length (places ++ list)) z) (sym new_is) (starts_push (length places) (length (places ++ list)) starts (omega (arith, long)) h))

  pub lists_more : (whole : List (List Place)) → lists_from places starts ≡ whole → now ≡ places ++ list → lists_from now new ≡ whole ++ list ∷ []
  lists_more whole held is =
      ap (λ z. lists_from z new) is ∙ ap (λ z. lists_from (places ++ list) z) new_is ∙ lists_push places list starts h ∙ ap (λ z. z ++ list ∷ []) held
