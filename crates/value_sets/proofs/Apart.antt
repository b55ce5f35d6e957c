-- Stems of which none begins with another: how they are kept, and how one of them is found.
use Rattle.std.proofs.Common.{◌≡◌, ◌<◌, ◌≤◌, ◌+◌, ◌-◌, ◌⊎◌, ℕ, zero, suc, Bool, true, false, true≢false, inl, inr, List, [], ◌∷◌, ◌++◌, Contains, IsTrue, ◌↔◌, ap, append_assoc, arith, get_or, length, refl, subst, sym, take, ◌∙◌}
use Rattle.std.proofs.lemmas.Bool.{cases_lt}
use Rattle.std.proofs.Math.Seq.{get_or-append_seam}
use Rattle.std.proofs.lemmas.List.{append-nil, get_or-take, get_or_append_left, length-append, length-take-le}
use Rattle.std.proofs.lemmas.List.Elements.{Contains-append_left, Contains-push, Contains-push_cases}
use Rattle.std.proofs.lemmas.List.Sorted.{Contains-permutation, IsPermutation-sym}
use Rattle.std.proofs.lemmas.Option.{slice_get-get_or}
use Rattle.std.specs.List.{Any}
use Rattle.std.specs.List.Sorted.{IsPartitionedBy, IsPermutation, IsSorted}
use Rattle.std.specs.Option.{IsSomeAnd}
use Rattle.lists.proofs.Sorting.{lower, rises_far, rises_from_sorted, weak}
use Rattle.value_sets.specs.StemIndex.{AreApart, BeginsWithLast, IsCountUpto, Keeps, StandFor, by_bytes, is_upto}
use Rattle.value_sets.specs.Stems.{HasPrefix}
use Rattle.value_sets.proofs.Between.{bytes_total, not_before, prefix_upto, sandwiched, upto_chain}

-- a place of a list tells the same, whatever stands for what is not there
same_at : (xs : List (List ℕ)) (i : ℕ) (d e : List ℕ) → i < length xs → get_or xs i d ≡ get_or xs i e
same_at [] i d e inside = absurd (omega (arith, inside))
same_at (x ∷ xs) zero d e inside = refl
same_at (x ∷ xs) (suc i) d e inside = same_at xs i d e (omega (arith, inside))

-- a text that begins with what begins with a stem begins with the stem
longer_prefix : (a b c : List ℕ) → HasPrefix a b → HasPrefix b c → HasPrefix a c
longer_prefix a b c (r, is) (s, more) = (r ++ s, more ∙ ap (λ z. z ++ s) is ∙ append_assoc a r s)

-- the last of some stems
has_last : (xs : List (List ℕ)) (text : List ℕ) (i : ℕ) (d : List ℕ) → i + 1 ≡ length xs → HasPrefix (get_or xs i d) text → BeginsWithLast xs text
has_last xs text i d long begins =
    subst (λ o. IsSomeAnd o (λ s. HasPrefix s text)) (sym (slice_get-get_or xs (length xs - 1) d (omega (arith, long))) ∙ refl)
    (subst (λ k. HasPrefix (get_or xs k d) text) (omega (arith, long)) begins)

from_last : (xs : List (List ℕ)) (text : List ℕ) → BeginsWithLast xs text → Any (λ s. HasPrefix s text) xs
from_last xs text h = by xs h
  where
    by : (ys : List (List ℕ)) → BeginsWithLast ys text → Any (λ s. HasPrefix s text) ys
    by [] begins = absurd begins
    by (y ∷ ys) begins =
        let inside : length (y ∷ ys) - 1 < length (y ∷ ys) = omega arith in
        (length (y ∷ ys) - 1, get_or (y ∷ ys) (length (y ∷ ys) - 1) y, inside, same_at (y ∷ ys) (length (y ∷ ys) - 1) _ y inside, subst (λ o. IsSomeAnd o (λ s. HasPrefix s text)) (slice_get-get_or (y ∷ ys) (length (y ∷ ys) - 1) y inside) begins)

-- ---- keeping

-- no kept stem is behind this one
abbrev pub AreUpto : List (List ℕ) → List ℕ → Type 0
AreUpto kept stem = (i : ℕ) (d : List ℕ) → i < length kept → is_upto (get_or kept i d) stem ≡ true

-- none of them begins a stem that does not begin with the last of them
none_begins : (kept : List (List ℕ)) (stem : List ℕ) (i : ℕ) (d : List ℕ) → AreApart kept → AreUpto kept stem → ¬ BeginsWithLast kept stem → i < length kept → ¬ HasPrefix (get_or kept i d) stem
none_begins kept stem i d apart upto none inside begins = elim (cases_lt (i + 1) (length kept)) [
  | inl lt ↦
      let last : ℕ = length kept - 1 in
      let (low, differs) = apart i last d (omega (arith, lt)) (omega (arith, lt)) in
      differs (sandwiched (get_or kept i d) (get_or kept last d) stem begins low (upto last d (omega (arith, lt))))
  | inr le ↦ none (has_last kept stem i d (omega (arith, le, inside)) begins)
]

apart_more : (kept : List (List ℕ)) (stem : List ℕ) → AreApart kept → AreUpto kept stem → ¬ BeginsWithLast kept stem → AreApart (kept ++ stem ∷ [])
apart_more kept stem apart upto none i j d before inside =
    let long : length (kept ++ stem ∷ []) ≡ length kept + 1 = length-append kept (stem ∷ []) in
    let first : get_or (kept ++ stem ∷ []) i d ≡ get_or kept i d = get_or_append_left kept (stem ∷ []) d i (omega (arith, long, before, inside)) in
    elim (cases_lt j (length kept)) [
      | inl lt ↦
          subst (λ z. (is_upto (get_or (kept ++ stem ∷ []) i d) z ≡ true) × (¬ HasPrefix (get_or (kept ++ stem ∷ []) i d) z)) (sym (get_or_append_left kept (stem ∷ []) d j lt))
          (subst (λ z. (is_upto z (get_or kept j d) ≡ true) × (¬ HasPrefix z (get_or kept j d))) (sym first) (apart i j d before lt))
      | inr le ↦
          let at : j ≡ length kept = omega (arith, le, long, inside) in
          subst (λ z. (is_upto (get_or (kept ++ stem ∷ []) i d) z ≡ true) × (¬ HasPrefix (get_or (kept ++ stem ∷ []) i d) z))
          (sym (ap (λ k. get_or (kept ++ stem ∷ []) k d) at ∙ get_or-append_seam kept stem [] d))
          (subst (λ z. (is_upto z stem ≡ true) × (¬ HasPrefix z stem)) (sym first)
          (upto i d (omega (arith, before, at)), none_begins kept stem i d apart upto none (omega (arith, before, at))))
    ]

-- a stem is put behind the kept ones, or not
pub put_behind : (kept slice new : List (List ℕ)) (stem : List ℕ) (b : Bool) → slice ≡ kept → IsTrue b ↔ BeginsWithLast slice stem → b ≡ false → new ≡ kept ++ stem ∷ [] → Keeps kept stem new
put_behind kept slice new stem b same told none more =
    inr ((λ h. true≢false (sym (told.1 (subst (λ v. BeginsWithLast v stem) (sym same) h)) ∙ none)), more)

pub left_out : (kept slice new : List (List ℕ)) (stem : List ℕ) (b : Bool) → slice ≡ kept → IsTrue b ↔ BeginsWithLast slice stem → b ≡ true → new ≡ kept → Keeps kept stem new
left_out kept slice new stem b same told begins still = inl (subst (λ v. BeginsWithLast v stem) same (told.0 begins), still)

-- what is kept of some stems
pub record AreKept (front kept : List (List ℕ)) : Type 0 where
  pub apart : AreApart kept
  pub from : (i : ℕ) (d : List ℕ) → i < length kept → (m : ℕ) × (m < length front) × (get_or front m d ≡ get_or kept i d)
  pub for : StandFor kept front

-- each is not behind those after it
abbrev pub AreInOrder : List (List ℕ) → Type 0
AreInOrder all = (i j : ℕ) (d : List ℕ) → i ≤ j → j < length all → is_upto (get_or all i d) (get_or all j d) ≡ true

pub in_order : (all : List (List ℕ)) → IsSorted by_bytes all → AreInOrder all
in_order all sorted i j d upto inside =
    not_before (get_or all i d) (get_or all j d)
    (rises_far (lower by_bytes bytes_total) (weak by_bytes bytes_total) all (rises_from_sorted (lower by_bytes bytes_total) (weak by_bytes bytes_total) all sorted) i j d upto inside)

pub none_kept : (kept : List (List ℕ)) → kept ≡ [] → AreKept [] kept
none_kept kept none = subst (AreKept []) (sym none) record {
  apart = λ i j d before inside. absurd (omega (arith, inside));
  from = λ i d inside. absurd (omega (arith, inside));
  for = λ text. (λ h. h, λ h. h);
}

any_of : (xs : List (List ℕ)) (x text : List ℕ) → Contains xs x → HasPrefix x text → Any (λ s. HasPrefix s text) xs
any_of xs x text (k, inside, is) begins = (k, x, inside, is, begins)

any_more : (xs ys : List (List ℕ)) (text : List ℕ) → Any (λ s. HasPrefix s text) xs → Any (λ s. HasPrefix s text) (xs ++ ys)
any_more xs ys text (k, x, inside, is, begins) = any_of (xs ++ ys) x text (Contains-append_left xs ys x (k, inside, is)) begins

any_pushed : (xs : List (List ℕ)) (y text : List ℕ) → Any (λ s. HasPrefix s text) (xs ++ y ∷ []) → Any (λ s. HasPrefix s text) xs ⊎ HasPrefix y text
any_pushed xs y text (k, x, inside, is, begins) = elim (Contains-push_cases xs y x (k, inside, is)) [
  | inl held ↦ inl (any_of xs x text held begins)
  | inr same ↦ inr (subst (λ z. HasPrefix z text) (sym same) begins)
]

kept_or_pushed : (kept front : List (List ℕ)) (stem text : List ℕ) → StandFor kept front → Any (λ s. HasPrefix s text) kept ⊎ HasPrefix stem text → Any (λ s. HasPrefix s text) (front ++ stem ∷ [])
kept_or_pushed kept front stem text for (inl h) = any_more front (stem ∷ []) text ((for text).0 h)
kept_or_pushed kept front stem text for (inr h) = any_of (front ++ stem ∷ []) stem text (Contains-push front stem) h

stands_more : (kept front new : List (List ℕ)) (stem : List ℕ) → StandFor kept front → Keeps kept stem new → StandFor new (front ++ stem ∷ [])
stands_more kept front new stem for (inl (begins, same)) text = (
  λ h. any_more front (stem ∷ []) text ((for text).0 (subst (λ v. Any (λ s. HasPrefix s text) v) same h)),
  λ h. subst (λ v. Any (λ s. HasPrefix s text) v) (sym same) (elim (any_pushed front stem text h) [
    | inl there ↦ (for text).1 there
    | inr longer ↦
        let (k, s, inside, is, short) = from_last kept stem begins in
        (k, s, inside, is, longer_prefix s stem text short longer)
  ]),
)
stands_more kept front new stem for (inr (none, more)) text = (
  λ h. kept_or_pushed kept front stem text for (any_pushed kept stem text (subst (λ v. Any (λ s. HasPrefix s text) v) more h)),
  λ h. subst (λ v. Any (λ s. HasPrefix s text) v) (sym more) (elim (any_pushed front stem text h) [
    | inl there ↦ any_more kept (stem ∷ []) text ((for text).1 there)
    | inr begins ↦ any_of (kept ++ stem ∷ []) stem text (Contains-push kept stem) begins
  ]),
)

pub next_kept : (all front rest kept new : List (List ℕ)) (stem : List ℕ) → AreInOrder all → all ≡ front ++ stem ∷ rest → AreKept front kept → Keeps kept stem new → AreKept (front ++ stem ∷ []) new
next_kept all front rest kept new stem rises is held keeps = record {
  apart = apart_new keeps;
  from = from_new keeps;
  for = stands_more kept front new stem held.for keeps;
}
  where
    long : length all ≡ length front + suc (length rest)
    long = ap length is ∙ length-append front (stem ∷ rest)

    upto : AreUpto kept stem
    upto i d within =
        let (m, before, same) = held.from i d within in
        let first : get_or all m d ≡ get_or kept i d = ap (λ v. get_or v m d) is ∙ get_or_append_left front (stem ∷ rest) d m before ∙ same in
        let then : get_or all (length front) d ≡ stem = ap (λ v. get_or v (length front) d) is ∙ get_or-append_seam front stem rest d in
        subst (λ z. is_upto z stem ≡ true) first
        (subst (λ z. is_upto (get_or all m d) z ≡ true) then (rises m (length front) d (omega (arith, before)) (omega (arith, long))))

    apart_new : Keeps kept stem new → AreApart new
    apart_new (inl (begins, same)) = subst AreApart (sym same) held.apart
    apart_new (inr (none, more)) = subst AreApart (sym more) (apart_more kept stem held.apart upto none)

    From : List (List ℕ) → Type 0
    From v = (i : ℕ) (d : List ℕ) → i < length v → (m : ℕ) × (m < length (front ++ stem ∷ [])) × (get_or (front ++ stem ∷ []) m d ≡ get_or v i d)

    longer : length (front ++ stem ∷ []) ≡ length front + 1
    longer = length-append front (stem ∷ [])

    kept_from : From kept
    kept_from i d within =
        let (m, before, same) = held.from i d within in
        (m, omega (arith, before, longer), get_or_append_left front (stem ∷ []) d m before ∙ same)

    pushed_from : From (kept ++ stem ∷ [])
    pushed_from i d within = elim (cases_lt i (length kept)) [
      | inl lt ↦ let (m, before, same) = kept_from i d lt in (m, before, same ∙ sym (get_or_append_left kept (stem ∷ []) d i lt))
      | inr le ↦
          let more : length (kept ++ stem ∷ []) ≡ length kept + 1 = length-append kept (stem ∷ []) in
          let at : i ≡ length kept = omega (arith, le, more, within) in
          (length front, omega (arith, longer), get_or-append_seam front stem [] d ∙ sym (ap (λ j. get_or (kept ++ stem ∷ []) j d) at ∙ get_or-append_seam kept stem [] d))
    ]

    from_new : Keeps kept stem new → From new
    from_new (inl (begins, same)) = subst From (sym same) kept_from
    from_new (inr (none, more)) = subst From (sym more) pushed_from

-- what is kept of all stands for all
pub stand_for_all : (all front rest kept : List (List ℕ)) → all ≡ front ++ rest → length rest ≡ 0 → AreKept front kept → StandFor kept all
stand_for_all all front [] kept is none held = subst (StandFor kept) (sym (is ∙ append-nil front)) held.for
stand_for_all all front (x ∷ rest) kept is none held = absurd (omega (arith, none))

-- what stands for all stands for what was given, in whatever order
pub stand_for_given : (given all kept : List (List ℕ)) → IsPermutation given all → StandFor kept all → StandFor kept given
stand_for_given given all kept moved for text = (
  λ h. along (IsPermutation-sym given all moved) ((for text).0 h),
  λ h. (for text).1 (along moved h),
)
  where
    along : {xs ys : List (List ℕ)} → IsPermutation xs ys → Any (λ s. HasPrefix s text) xs → Any (λ s. HasPrefix s text) ys
    along {xs} {ys} p (n, x, inside, is, begins) = any_of ys x text (Contains-permutation xs ys x p (n, inside, is)) begins

-- ---- finding

-- those that are not behind the text stand first
pub upto_first : (stems : List (List ℕ)) (text : List ℕ) → AreApart stems → IsPartitionedBy (λ stem. is_upto stem text) stems
upto_first stems text apart i j d before inside low = elim (cases_lt i j) [
  | inl lt ↦ upto_chain (get_or stems i d) (get_or stems j d) text (apart i j d lt inside).0 low
  | inr le ↦ subst (λ k. is_upto (get_or stems k d) text ≡ true) (omega (arith, before, le)) low
]

-- a text begins with some stem exactly where it begins with the last one that is not behind it
pub last_found : (stems : List (List ℕ)) (text : List ℕ) (count : ℕ) → AreApart stems → IsCountUpto stems text count → BeginsWithLast (take count stems) text ↔ Any (λ stem. HasPrefix stem text) stems
last_found stems text count apart (within, (below, above)) = (λ h. back (from_last (take count stems) text h), there)
  where
    long : length (take count stems) ≡ count
    long = length-take-le count stems within

    back : Any (λ s. HasPrefix s text) (take count stems) → Any (λ s. HasPrefix s text) stems
    back (k, s, inside, is, begins) = (k, s, omega (arith, inside, long, within), sym (get_or-take count stems k s (omega (arith, inside, long))) ∙ is, begins)

    early : (k : ℕ) (s : List ℕ) → k < length stems → get_or stems k s ≡ s → HasPrefix s text → k < count
    early k s inside is begins = elim (cases_lt k count) [
      | inl lt ↦ lt
      | inr le ↦ absurd (true≢false (sym (prefix_upto s text begins) ∙ (ap (λ z. is_upto z text) (sym is) ∙ above k s le inside)))
    ]

    last : (k : ℕ) (s : List ℕ) → k < length stems → get_or stems k s ≡ s → HasPrefix s text → k < count → k + 1 ≡ count
    last k s inside is begins before = elim (cases_lt (k + 1) count) [
      | inl lt ↦
          let at : ℕ = count - 1 in
          let (low, differs) = apart k at s (omega (arith, lt)) (omega (arith, lt, within)) in
          let begin : HasPrefix (get_or stems k s) text = subst (λ z. HasPrefix z text) (sym is) begins in
          absurd (differs (sandwiched (get_or stems k s) (get_or stems at s) text begin low (below at s (omega arith) (omega (arith, lt)))))
      | inr le ↦ omega (arith, le, before)
    ]

    there : Any (λ s. HasPrefix s text) stems → BeginsWithLast (take count stems) text
    there (k, s, inside, is, begins) =
        let before = early k s inside is begins in
        has_last (take count stems) text k s (last k s inside is begins before ∙ sym long)
        (subst (λ z. HasPrefix z text) (sym (get_or-take count stems k s before ∙ is)) begins)

-- what is told of them
pub found_by_last : (stems slice : List (List ℕ)) (text : List ℕ) (count : ℕ) (b : Bool) → slice ≡ stems → AreApart stems → IsCountUpto slice text count →
    IsTrue b ↔ BeginsWithLast (take count slice) text → IsTrue b ↔ Any (λ stem. HasPrefix stem text) stems
found_by_last stems slice text count b same apart counted told =
    let found = last_found stems text count apart (subst (λ v. IsCountUpto v text count) same counted) in
    let last = subst (λ v. IsTrue b ↔ BeginsWithLast (take count v) text) same told in
    (λ h. found.0 (last.0 h), λ h. last.1 (found.1 h))
