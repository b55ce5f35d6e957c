-- One step by words.
use Rattle.std.proofs.Common.{zero, suc, length, map, subst, drop, get_or, [], ◌∷◌, ◌&&◌, ◌||◌, not, inl, inr, add-one, ◌≡◌, ℕ, ◌+◌, ◌*◌, ◌%◌, ◌<◌, ◌≤◌, ◌^◌, List, ◌++◌, append_assoc, refl, arith, sym, ap, ◌∙◌, Bool, true, false, w64, replicate}
use Rattle.std.specs.Prelude.{bit_and, bit_or, slice_index_or, ◌==◌}
use Rattle.std.proofs.lemmas.Bool.{cases_lt}
use Rattle.std.proofs.lemmas.List.{append-nil, get_or-replicate, get_or_past, length-map}
use Rattle.std.proofs.Math.ListN.{drop_of_length-le}
use Rattle.std.proofs.Math.Pow.{pow-lt}
use Rattle.std.specs.Int.Bits.{and_zero_l}
use Rattle.std.proofs.Math.Seq.{drop-cons}
use Rattle.xs_pattern.specs.declared.expression.Flags.{Flags}
use Rattle.xs_pattern.specs.declared.expression.Set.{Set}
use Rattle.xs_pattern.specs.declared.walk.Edge.{Edge}
use Rattle.xs_pattern.specs.declared.words.Words.{Words}
use Rattle.xs_pattern.specs.Regex.{Chars, chars_of}
use Rattle.xs_pattern.specs.Tests.{alike, char_test, set_has}
use Rattle.xs_pattern.specs.Unrolling.{exits, having}
use Rattle.std.specs.Int.{bit_at, bit_not}
use Rattle.xs_pattern.specs.Way.{Way, size, passes, ends, next}
use Rattle.xs_pattern.specs.Marked.{AreBehind, AreWords, IsPlace, all_known, alone, and_marks, at_end, at_start, set_numbers, inside, lasts, marks_of, meets, or_marks, place_at, tested}
use Rattle.xs_pattern.proofs.Bitwise.{length_marks, marks_beyond, marks_or, marks_zero, meets_one, meets_words, pow_positive, taken}
use Rattle.xs_pattern.proofs.Unions.{blank_or, ends_blank, ends_meets, length_lasts, length_sets, next_asked, next_blank, next_or, or_blank, or_more}

pub sets_more : (old one two xs ys : List ℕ) (all : List ℕ) → xs ++ ys ≡ all → one ≡ old ++ xs → two ≡ one ++ ys → two ≡ old ++ all
sets_more old one two xs ys all is p q = q ∙ ap (λ k. k ++ ys) p ∙ append_assoc old xs ys ∙ ap (λ k. old ++ k) is

-- the set with a number
pub set_at : (f : Flags) (c : ℕ) (sets : List Set) (number : ℕ) (set : Set) (standing : List ℕ) (has : Bool) → standing ≡ alike f c →
    number < length sets → set ≡ slice_index_or sets number set → has ≡ set_has f (chars_of set) c standing →
    has ≡ slice_index_or (having f (map chars_of sets) c) number false
set_at f c [] number set standing has is lt at by = absurd (omega arith)
set_at f c (s ∷ sets) zero set standing has is lt at by = by ∙ ap (set_has f (chars_of set) c) is ∙ ap (λ v. set_has f (chars_of v) c (alike f c)) at
set_at f c (s ∷ sets) (suc number) set standing has is lt at by = set_at f c sets number set standing has is (omega arith) at by

module _ (n : ℕ) (w : Way) (rows : List ℕ) (are : AreBehind n w rows) where
  abbrev onward : ℕ → List Bool
  onward word = next inside (all_known n) w false (marks_of (size w) word)

  pub one_behind :
      (all left j row : ℕ) → left < 2 ^ 64 → j < 64 → bit_at left j ≡ 1 → row ≡ slice_index_or rows j 0 →
      or_marks (marks_of (size w) (bit_or all row)) (next inside (all_known n) w false (marks_of (size w) (bit_and left (bit_not w64 (1 * 2 ^ j % 2 ^ 64)))))
      ≡ or_marks (marks_of (size w) all) (next inside (all_known n) w false (marks_of (size w) left))
  one_behind all left j row small within set is =
      let rest = bit_and left (bit_not w64 (1 * 2 ^ j % 2 ^ 64)) in
      ap (λ v. or_marks v (onward rest)) (marks_or (size w) all row)
      ∙ ap (λ v. or_marks (or_marks (marks_of (size w) all) v) (onward rest)) (ap (marks_of (size w)) is ∙ are j)
      ∙ or_more (marks_of (size w) all) (onward (2 ^ j)) (onward rest)
      ∙ ap (or_marks (marks_of (size w) all)) (sym (next_or inside (all_known n) w false false (marks_of (size w) (2 ^ j)) (marks_of (size w) rest))
      ∙ ap (λ v. next inside (all_known n) w false v) (sym (taken left j small within set (size w))))

  pub none_behind : (all left : ℕ) → left ≡ 0 →
      or_marks (marks_of (size w) all) (next inside (all_known n) w false (marks_of (size w) left))
      ≡ marks_of (size w) all
  none_behind all left is =
      ap (λ v. or_marks (marks_of (size w) all) (next inside (all_known n) w false v)) (ap (marks_of (size w)) is ∙ marks_zero (size w))
      ∙ ap (or_marks (marks_of (size w) all)) (next_blank inside (all_known n) w (size w))
      ∙ or_blank (size w) (marks_of (size w) all) (length_marks (size w) all)

pub shifted : (i : ℕ) → i < 64 → 1 * 2 ^ i % 2 ^ 64 ≡ 2 ^ i
shifted i lt = let p : 2 ^ i < 2 ^ 64 = pow-lt lt in omega (arith, p)

-- one more position behind which a way may end, or may not
module _ (e : Edge) (w : Way) where
  pub ended :
      (count i : ℕ) (old new marks lent : List Bool) (b : Bool) → size w ≡ count → i < count → count ≤ 64 →
      marks ≡ marks_of count (1 * 2 ^ i % 2 ^ 64) → lent ≡ marks → old ++ drop i (lasts e w) ≡ lasts e w → b ≡ ends e w (drop 0 lent) → new ≡ old ++ b ∷ [] →
      new ++ drop (i + 1) (lasts e w) ≡ lasts e w
  ended count i old new marks lent b is lt few m l so_far last push =
      let bit : b ≡ get_or (lasts e w) i false =
      last ∙ ap (ends e w) (l ∙ m ∙ ap (marks_of count) (shifted i (omega arith))) ∙ ends_meets e w (marks_of count (2 ^ i)) ∙ meets_one count i (lasts e w) lt in
      let len = length_lasts e w in
      ap (λ v. v ++ drop (i + 1) (lasts e w)) push ∙ append_assoc old (b ∷ []) (drop (i + 1) (lasts e w))
      ∙ ap (λ v. old ++ v) (ap (λ v. v ∷ drop (i + 1) (lasts e w)) bit ∙ ap (λ k. get_or (lasts e w) i false ∷ drop k (lasts e w)) (add-one i)
      ∙ sym (drop-cons (lasts e w) i false (omega (arith, len, is, lt)))) ∙ so_far

  pub all_ended : (i : ℕ) (items : List Bool) → size w ≤ i → items ++ drop i (lasts e w) ≡ lasts e w → items ≡ lasts e w
  all_ended i items le is =
      sym (append-nil items) ∙ ap (λ v. items ++ v) (sym (drop_of_length-le (lasts e w) (let len = length_lasts e w in omega (arith, len, le)))) ∙ is

-- the rows of all positions
pub rows_all : (n : ℕ) (w : Way) (rows : List ℕ) (i : ℕ) → size w ≤ i → length rows ≡ i →
    ((j : ℕ) → j < i → marks_of (size w) (slice_index_or rows j 0) ≡ next inside (all_known n) w false (marks_of (size w) (2 ^ j))) → AreBehind n w rows
rows_all n w rows i all len each j = elim (cases_lt j i) [
  | inl lt ↦ each j lt
  | inr le ↦
      ap (marks_of (size w)) (get_or_past rows j 0 (omega (arith, len, le))) ∙ marks_zero (size w)
      ∙ sym (ap (next inside (all_known n) w false) (marks_beyond (size w) j (omega (arith, all, le))) ∙ next_blank inside (all_known n) w (size w))
]

-- a place that is made of its parts
pub place_is : (w : Way) (e : Edge) (count enters last : ℕ) (all ends : List Bool) (passing : Bool) → size w ≡ count → all ≡ replicate (length all) true →
    marks_of count enters ≡ next e (tested all) w true (marks_of count 0) → ends ≡ lasts e w →
    marks_of (length ends) last ≡ ends → last < 2 ^ length ends → passing ≡ passes e w →
    IsPlace (length all) w e (record { enters = enters; ends = last; passes = passing })
place_is w e count enters last all ends passing is known row ended shown small passed =
    let len : length ends ≡ size w = ap length ended ∙ length_lasts e w in (
      ap (λ k. marks_of k enters) is ∙ row ∙ ap (λ v. next e (tested v) w true (marks_of count 0)) known
          ∙ ap (next e (all_known (length all)) w true) (marks_zero count ∙ ap (λ k. replicate k false) (sym is)),
      λ _. ap (λ k. marks_of k last) (sym len) ∙ shown ∙ ended,
      subst (λ k. last < 2 ^ k) len small,
      passed,
    )

pub start_is : (w : Way) (e : Edge) (count enters : ℕ) (all : List Bool) (passing : Bool) →
    e.start ≡ true → size w ≡ count → all ≡ replicate (length all) true →
    marks_of count enters ≡ next e (tested all) w true (marks_of count 0) → passing ≡ passes e w →
    IsPlace (length all) w e (record { enters = enters; ends = 0; passes = passing })
start_is w e count enters all passing start is known row passed = (
  ap (λ k. marks_of k enters) is ∙ row ∙ ap (λ v. next e (tested v) w true (marks_of count 0)) known
      ∙ ap (next e (all_known (length all)) w true) (marks_zero count ∙ ap (λ k. replicate k false) (sym is)),
  λ no. absurd (let both = sym start ∙ no in cc),
  pow_positive (size w),
  passed,
)

-- words that are made of their parts
pub length_numbers : (w : Way) → length (set_numbers w) ≡ size w
length_numbers w = sym (length-map (set_numbers w) (all_known 0)) ∙ length_sets inside (all_known 0) w

pub counted_is : (w : Way) (numbers : List ℕ) (count : ℕ) → numbers ≡ set_numbers w → count ≡ length numbers → size w ≡ count
counted_is w numbers count is counted = sym (counted ∙ ap length is ∙ length_numbers w)

pub made : (n : ℕ) (sets : List Set) (w : Way) (words : Words) → n ≡ length sets →
    words.numbers.items ≡ set_numbers w → length words.numbers.items ≤ 64 → words.sets.items ≡ sets →
    IsPlace n w at_start words.start → IsPlace n w inside words.inside → IsPlace n w at_end words.end → IsPlace n w alone words.alone →
    AreBehind n w words.behind.items → AreWords (map chars_of sets) w words
made n sets w words known numbers few kept first within last only rows =
    let count : n ≡ length (map chars_of sets) = known ∙ sym (length-map sets chars_of) in
    let size_is : length words.numbers.items ≡ size w = ap length numbers ∙ length_numbers w in (
      omega (arith, size_is, few),
      subst (λ k. IsPlace k w at_start words.start) count first,
      subst (λ k. IsPlace k w inside words.inside) count within,
      subst (λ k. IsPlace k w at_end words.end) count last,
      subst (λ k. IsPlace k w alone words.alone) count only,
      subst (λ k. AreBehind k w words.behind.items) count rows,
      numbers,
      ap (map chars_of) kept,
    )

-- a character that a set has is one that all sets have
sure : (f : Flags) (ss : List Chars) (c k : ℕ) → (tested (having f ss c) k && all_known (length ss) k) ≡ tested (having f ss c) k
sure f ss c k = elim (cases_lt k (length ss)) [
  | inl lt ↦ ap (λ v. tested (having f ss c) k && v) (get_or-replicate (length ss) k true false lt) ∙ and_yes (tested (having f ss c) k)
  | inr le ↦
      let none : tested (having f ss c) k ≡ false = get_or_past (having f ss c) k false (let len = length-map ss (λ s. char_test f s c) in omega (arith, len, le)) in
      ap (λ v. v && all_known (length ss) k) none ∙ sym none
]
  where
    and_yes : (b : Bool) → (b && true) ≡ b
    and_yes true = refl
    and_yes false = refl

pub is_place : (ss : List Chars) (w : Way) (words : Words) → AreWords ss w words → (s t : Bool) →
    IsPlace (length ss) w (record { start = s; end = t }) (place_at words s t)
is_place ss w words (few, start, within, end, only, rows, numbers, kept) true true = only
is_place ss w words (few, start, within, end, only, rows, numbers, kept) true false = start
is_place ss w words (few, start, within, end, only, rows, numbers, kept) false true = end
is_place ss w words (few, start, within, end, only, rows, numbers, kept) false false = within

module _ (ss : List Chars) (w : Way) (words : Words) (are : AreWords ss w words) where
  -- what is entered, and what stands behind a set
  entered : (s : Bool) (set all : ℕ) → (s ≡ true → set ≡ 0) → (set ≡ 0 → all ≡ (place_at words s false).enters) →
      marks_of (size w) all
      ≡ or_marks (marks_of (size w) (place_at words s false).enters) (next inside (all_known (length ss)) w false (marks_of (size w) set)) →
      marks_of (size w) all ≡ next (record { start = s; end = false }) (all_known (length ss)) w true (marks_of (size w) set)
  entered true set all first none behind =
      ap (marks_of (size w)) (none (first refl)) ∙ (is_place ss w words are true false).0
      ∙ ap (next at_start (all_known (length ss)) w true) (sym (ap (marks_of (size w)) (first refl) ∙ marks_zero (size w)))
  entered false set all first none behind =
      behind ∙ ap (λ v. or_marks v (next inside (all_known (length ss)) w false (marks_of (size w) set))) (is_place ss w words are false false).0
      ∙ sym (next_or inside (all_known (length ss)) w true false (replicate (size w) false) (marks_of (size w) set))
      ∙ ap (next inside (all_known (length ss)) w true) (blank_or (size w) (marks_of (size w) set) (length_marks (size w) set))

  -- the positions of a set that have a character
  has_of : (f : Flags) (all word c : ℕ) →
      marks_of (length words.numbers.items) word
      ≡ and_marks (marks_of (length words.numbers.items) all) (map (tested (having f (map chars_of words.sets.items) c)) words.numbers.items) →
      marks_of (size w) word ≡ and_marks (marks_of (size w) all) (map (tested (having f ss c)) (set_numbers w))
  has_of f all word c is =
      let (few, start, within, end, only, rows, numbers, kept) = are in
      let count : length words.numbers.items ≡ size w = ap length numbers ∙ length_numbers w in
      ap (λ k. marks_of k word) (sym count) ∙ is
      ∙ ap (λ k. and_marks (marks_of k all) (map (tested (having f (map chars_of words.sets.items) c)) words.numbers.items)) count
      ∙ ap (λ v. and_marks (marks_of (size w) all) (map (tested (having f (map chars_of words.sets.items) c)) v)) numbers
      ∙ ap (λ v. and_marks (marks_of (size w) all) (map (tested (having f v c)) (set_numbers w))) kept

  pub stepped : (f : Flags) (s : Bool) (set all word c : ℕ) → (s ≡ true → set ≡ 0) → (set ≡ 0 → all ≡ (place_at words s false).enters) →
      marks_of (size w) all
      ≡ or_marks (marks_of (size w) (place_at words s false).enters) (next inside (all_known (length ss)) w false (marks_of (size w) set)) →
      marks_of (length words.numbers.items) word
      ≡ and_marks (marks_of (length words.numbers.items) all) (map (tested (having f (map chars_of words.sets.items) c)) words.numbers.items) →
      marks_of (size w) word ≡ next (record { start = s; end = false }) (tested (having f ss c)) w true (marks_of (size w) set)
  stepped f s set all word c first none behind is =
      has_of f all word c is
      ∙ and_swap (marks_of (size w) all) (map (tested (having f ss c)) (set_numbers w))
      ∙ ap (and_marks (map (tested (having f ss c)) (set_numbers w))) (entered s set all first none behind)
      ∙ sym (next_asked (record { start = s; end = false }) (tested (having f ss c)) (all_known (length ss)) (sure f ss c) w true (marks_of (size w) set))
    where
      both : (x y : Bool) → (x && y) ≡ (y && x)
      both true true = refl
      both true false = refl
      both false true = refl
      both false false = refl

      and_swap : (xs ys : List Bool) → and_marks xs ys ≡ and_marks ys xs
      and_swap [] [] = refl
      and_swap [] (y ∷ ys) = refl
      and_swap (x ∷ xs) [] = refl
      and_swap (x ∷ xs) (y ∷ ys) = ap (λ v. v ∷ and_marks xs ys) (both x y) ∙ ap (λ v. (y && x) ∷ v) (and_swap xs ys)

  pub left : (s t : Bool) (set : ℕ) (b : Bool) → (s ≡ true → set ≡ 0) → b ≡ (not (bit_and set (place_at words s t).ends == 0) || (place_at words s t).passes) →
      b ≡ exits (record { start = s; end = t }) w (marks_of (size w) set)
  left true t set b first is =
      let p = is_place ss w words are true t in
      let e : Edge = record { start = true; end = t } in
      is ∙ ap (λ v. not (v == 0) || (place_at words true t).passes) (ap (λ v. bit_and v (place_at words true t).ends) (first refl) ∙ and_zero_l (place_at words true t).ends)
      ∙ p.3
      ∙ ap (λ v. v || passes e w) (sym (ap (ends e w) (ap (marks_of (size w)) (first refl) ∙ marks_zero (size w)) ∙ ends_blank e w (size w)))
  left false t set b first is =
      let p = is_place ss w words are false t in
      is ∙ ap (λ v. v || (place_at words false t).passes) (sym (meets_words (size w) set (place_at words false t).ends p.2)
      ∙ ap (meets (marks_of (size w) set)) (p.1 refl) ∙ sym (ends_meets (record { start = false; end = t }) w (marks_of (size w) set)))
      ∙ ap (λ v. ends (record { start = false; end = t }) w (marks_of (size w) set) || v) p.3

  pub behind_are : (lent : List ℕ) → lent ≡ words.behind.items → AreBehind (length ss) w lent
  behind_are lent is = let (few, start, within, end, only, rows, numbers, kept) = are in subst (AreBehind (length ss) w) (sym is) rows
