-- Words as marks.
use Rattle.std.proofs.Common.{◌≡◌, ℕ, zero, suc, ◌+◌, ◌*◌, ◌/◌, ◌%◌, ◌^◌, ◌<◌, ◌≤◌, ◌⊎◌, List, [], ◌∷◌, ◌++◌, length, get_or, refl, arith, sym, ap, ◌∙◌, Bool, true, false, ◌&&◌, ◌||◌, not, max, min, inl, inr, w64, replicate, add-one}
use Rattle.std.proofs.lemmas.Bool.{cases_eq}
use Rattle.std.proofs.lemmas.Nat.{or_lt, and_le_l}
use Rattle.std.proofs.lemmas.Nat.Bits.{bit_at_lowest, bit_at-suc, shr_and_one, bit_at_set_same, bit_at_above, bit_at_or, bit_at_and, bit_at-lt, bit_at-pow_same, bit_at-pow_other, bit_at_clear_same, bit_at_clear_other, same_from_bits, same_from_bits_below}
use Rattle.std.proofs.Math.Pow.{pow-lt}
use Rattle.xs_pattern.proofs.Unions.{blank_or, one_tests, or_blank, or_more, or_none}
use Rattle.std.specs.Prelude.{bit_and, bit_or, ◌==◌}
use Rattle.std.specs.Int.{bit_at, bit_not}
use Rattle.std.specs.Int.Bits.{and_zero_r}
use Rattle.xs_pattern.specs.Marked.{marks_of, or_marks, and_marks, meets}

one_or : (x y : ℕ) → x < 2 → y < 2 → (max x y == 1) ≡ ((x == 1) || (y == 1))
one_or zero zero p q = refl
one_or zero (suc zero) p q = refl
one_or (suc zero) zero p q = refl
one_or (suc zero) (suc zero) p q = refl
one_or zero (suc (suc y)) p q = absurd (omega arith)
one_or (suc zero) (suc (suc y)) p q = absurd (omega arith)
one_or (suc (suc x)) y p q = absurd (omega arith)

one_and : (x y : ℕ) → x < 2 → y < 2 → (min x y == 1) ≡ ((x == 1) && (y == 1))
one_and zero zero p q = refl
one_and zero (suc zero) p q = refl
one_and (suc zero) zero p q = refl
one_and (suc zero) (suc zero) p q = refl
one_and zero (suc (suc y)) p q = absurd (omega arith)
one_and (suc zero) (suc (suc y)) p q = absurd (omega arith)
one_and (suc (suc x)) y p q = absurd (omega arith)

lowest_or : (a b : ℕ) → bit_or a b % 2 ≡ max (a % 2) (b % 2)
lowest_or a b = sym (bit_at_lowest (bit_or a b)) ∙ bit_at_or a b 0 ∙ ap (λ v. max v (bit_at b 0)) (bit_at_lowest a) ∙ ap (λ v. max (a % 2) v) (bit_at_lowest b)

lowest_and : (a b : ℕ) → bit_and a b % 2 ≡ min (a % 2) (b % 2)
lowest_and a b =
    sym (bit_at_lowest (bit_and a b)) ∙ bit_at_and a b 0
    ∙ ap (λ v. min v (bit_at b 0)) (bit_at_lowest a) ∙ ap (λ v. min (a % 2) v) (bit_at_lowest b)

half_or : (a b : ℕ) → bit_or a b / 2 ≡ bit_or (a / 2) (b / 2)
half_or a b =
    same_from_bits _ _ (λ i. sym (bit_at-suc (bit_or a b) i) ∙ bit_at_or a b (suc i) ∙ ap (λ v. max v (bit_at b (suc i))) (bit_at-suc a i)
    ∙ ap (λ v. max (bit_at (a / 2) i) v) (bit_at-suc b i) ∙ sym (bit_at_or (a / 2) (b / 2) i))

half_and : (a b : ℕ) → bit_and a b / 2 ≡ bit_and (a / 2) (b / 2)
half_and a b =
    same_from_bits _ _ (λ i. sym (bit_at-suc (bit_and a b) i) ∙ bit_at_and a b (suc i) ∙ ap (λ v. min v (bit_at b (suc i))) (bit_at-suc a i)
    ∙ ap (λ v. min (bit_at (a / 2) i) v) (bit_at-suc b i) ∙ sym (bit_at_and (a / 2) (b / 2) i))

first_or : (a b : ℕ) → (bit_or a b % 2 == 1) ≡ ((a % 2 == 1) || (b % 2 == 1))
first_or a b = ap (λ v. v == 1) (lowest_or a b) ∙ one_or (a % 2) (b % 2) (omega arith) (omega arith)

first_and : (a b : ℕ) → (bit_and a b % 2 == 1) ≡ ((a % 2 == 1) && (b % 2 == 1))
first_and a b = ap (λ v. v == 1) (lowest_and a b) ∙ one_and (a % 2) (b % 2) (omega arith) (omega arith)

pub marks_or : (n a b : ℕ) → marks_of n (bit_or a b) ≡ or_marks (marks_of n a) (marks_of n b)
marks_or zero a b = refl
marks_or (suc n) a b =
    ap (λ v. v ∷ marks_of n (bit_or a b / 2)) (first_or a b)
    ∙ ap (λ v. ((a % 2 == 1) || (b % 2 == 1)) ∷ marks_of n v) (half_or a b)
    ∙ ap (λ v. ((a % 2 == 1) || (b % 2 == 1)) ∷ v) (marks_or n (a / 2) (b / 2))

pub marks_zero : (n : ℕ) → marks_of n 0 ≡ replicate n false
marks_zero zero = refl
marks_zero (suc n) = ap (λ v. false ∷ v) (marks_zero n)

pub length_marks : (n word : ℕ) → length (marks_of n word) ≡ n
length_marks zero word = refl
length_marks (suc n) word = ap suc (length_marks n (word / 2))

-- one more position
pub marks_more : (n word : ℕ) → marks_of (suc n) word ≡ marks_of n word ++ (bit_at word n == 1) ∷ []
marks_more zero word = ap (λ v. (v == 1) ∷ []) (sym (bit_at_lowest word))
marks_more (suc n) word = ap (λ v. (word % 2 == 1) ∷ v) (marks_more n (word / 2) ∙ ap (λ v. marks_of n (word / 2) ++ (v == 1) ∷ []) (sym (bit_at-suc word n)))

-- one position
even : (j : ℕ) → (2 ^ suc j % 2 == 1) ≡ false
even j = ap (λ v. v == 1) (sym (bit_at_lowest (2 ^ suc j)) ∙ bit_at-pow_other (suc j) 0 (λ h. absurd (omega arith)))

half_pow : (j : ℕ) → 2 ^ suc j / 2 ≡ 2 ^ j
half_pow j = omega arith

pub marks_beyond : (n j : ℕ) → n ≤ j → marks_of n (2 ^ j) ≡ replicate n false
marks_beyond zero j h = refl
marks_beyond (suc n) zero h = absurd (omega arith)
marks_beyond (suc n) (suc j) h =
    ap (λ v. v ∷ marks_of n (2 ^ suc j / 2)) (even j) ∙ ap (λ v. false ∷ marks_of n v) (half_pow j) ∙ ap (λ v. false ∷ v) (marks_beyond n j (omega arith))

meets_blank : (n : ℕ) (ys : List Bool) → meets (replicate n false) ys ≡ false
meets_blank zero ys = refl
meets_blank (suc n) [] = refl
meets_blank (suc n) (y ∷ ys) = meets_blank n ys

or_no : (b : Bool) → (b || false) ≡ b
or_no true = refl
or_no false = refl

pub meets_one : (n j : ℕ) (ys : List Bool) → j < n → meets (marks_of n (2 ^ j)) ys ≡ get_or ys j false
meets_one zero j ys h = absurd (omega arith)
meets_one (suc n) zero [] h = refl
meets_one (suc n) zero (y ∷ ys) h = ap (λ v. y || meets v ys) (marks_zero n) ∙ ap (λ v. y || v) (meets_blank n ys) ∙ or_no y
meets_one (suc n) (suc j) [] h = refl
meets_one (suc n) (suc j) (y ∷ ys) h =
    ap (λ v. (v && y) || meets (marks_of n (2 ^ suc j / 2)) ys) (even j)
    ∙ ap (λ v. meets (marks_of n v) ys) (half_pow j) ∙ meets_one n j ys (omega arith)

-- two words meet
some_bit : (x : ℕ) → ((x % 2 == 1) || not (x / 2 == 0)) ≡ not (x == 0)
some_bit x = elim (cases_eq x 0) [
  | inl is ↦ rw is refl
  | inr some ↦ by_half (cases_eq (x / 2) 0) some
]
  where
    by_half : (x / 2 ≡ 0) ⊎ (¬ (x / 2 ≡ 0)) → ¬ (x ≡ 0) → ((x % 2 == 1) || not (x / 2 == 0)) ≡ not (x == 0)
    by_half h some = grind arith

pub meets_words : (n a b : ℕ) → b < 2 ^ n → meets (marks_of n a) (marks_of n b) ≡ not (bit_and a b == 0)
meets_words zero a b h = let is : b ≡ 0 = omega arith in sym (ap (λ v. not (bit_and a v == 0)) is ∙ ap (λ v. not (v == 0)) (and_zero_r a))
meets_words (suc n) a b h =
    ap (λ v. v || meets (marks_of n (a / 2)) (marks_of n (b / 2))) (sym (first_and a b))
    ∙ ap (λ v. (bit_and a b % 2 == 1) || v) (meets_words n (a / 2) (b / 2) (omega arith) ∙ ap (λ v. not (v == 0)) (sym (half_and a b)))
    ∙ some_bit (bit_and a b)

-- a word is one of its bits and the others
module _ (word j : ℕ) (small : word < 2 ^ 64) (within : j < 64) (set : bit_at word j ≡ 1) where
  abbrev left : ℕ
  left = bit_and word (bit_not w64 (1 * 2 ^ j % 2 ^ 64))

  pub left_less : left < word
  left_less =
      let gone : bit_at left j ≡ 0 = bit_at_clear_same w64 word j within in
      elim (cases_eq left word) [
        | inl same ↦ absurd (let both : bit_at left j ≡ bit_at word j = ap (λ x. bit_at x j) same in omega arith)
        | inr other ↦ omega (arith, and_le_l word (bit_not w64 (1 * 2 ^ j % 2 ^ 64)))
      ]

  each : (i : ℕ) → i < 64 → bit_at word i ≡ bit_at (bit_or (2 ^ j) left) i
  each i lt = elim (cases_eq i j) [
    | inl is ↦ rw is (let o = bit_at_or (2 ^ j) left j in let p = bit_at-pow_same j in let l = bit_at-lt left j in omega (arith, o, p, l, set))
    | inr other ↦ (let o = bit_at_or (2 ^ j) left i in let p = bit_at-pow_other j i other in let l = bit_at_clear_other w64 word j within i lt other in omega (arith, o, p, l))
  ]

  pub taken : (n : ℕ) → marks_of n word ≡ or_marks (marks_of n (2 ^ j)) (marks_of n (bit_and word (bit_not w64 (1 * 2 ^ j % 2 ^ 64))))
  taken n = ap (marks_of n) whole ∙ marks_or n (2 ^ j) left
    where
      whole : word ≡ bit_or (2 ^ j) left
      whole = same_from_bits_below 64 word (bit_or (2 ^ j) left) small (or_lt 64 (2 ^ j) left (pow-lt within) (let less = left_less in omega (arith, less, small))) each

-- one more mark of a word
pub filled : (n word : ℕ) (old new : List Bool) (b : Bool) →
    old ≡ marks_of n word → b ≡ (bit_and (word / 2 ^ n) 1 == 1) → new ≡ old ++ b ∷ [] → new ≡ marks_of (n + 1) word
filled n word old new b is test push =
    rw add-one (push ∙ ap (λ v. v ++ b ∷ []) is ∙ ap (λ v. marks_of n word ++ v ∷ []) (test ∙ ap (λ v. v == 1) (shr_and_one word n)) ∙ sym (marks_more n word))

pub pow_positive : (n : ℕ) → 0 < 2 ^ n
pow_positive zero = omega arith
pow_positive (suc n) = let some = pow_positive n in omega (arith, some)

pub marked : (n word : ℕ) → n < 64 →
    (marks_of (n + 1) (bit_or word (1 * 2 ^ n % 2 ^ 64)) ≡ marks_of n word ++ true ∷ [])
    × (word < 2 ^ n → bit_or word (1 * 2 ^ n % 2 ^ 64) < 2 ^ (n + 1))
marked n word lt =
    let power : 1 * 2 ^ n % 2 ^ 64 ≡ 2 ^ n = (let p : 2 ^ n < 2 ^ 64 = pow-lt lt in omega (arith, p)) in
    let twice : 2 ^ suc n ≡ 2 * 2 ^ n = omega arith in (
      rw add-one (marks_more n (bit_or word (1 * 2 ^ n % 2 ^ 64))
          ∙ ap (λ v. marks_of n (bit_or word (1 * 2 ^ n % 2 ^ 64)) ++ (v == 1) ∷ []) (bit_at_set_same w64 word n lt)
          ∙ ap (λ v. v ++ true ∷ []) (ap (λ v. marks_of n (bit_or word v)) power ∙ marks_or n word (2 ^ n)
          ∙ ap (or_marks (marks_of n word)) (marks_beyond n n (omega arith)) ∙ or_blank n (marks_of n word) (length_marks n word))),
      λ small. rw (power, add-one) (or_lt (suc n) word (2 ^ n) (omega (arith, small, twice)) (let some = pow_positive n in omega (arith, twice, some))),
    )

pub unmarked : (n word : ℕ) → word < 2 ^ n → (marks_of (n + 1) word ≡ marks_of n word ++ false ∷ []) × (word < 2 ^ (n + 1))
unmarked n word small =
    let twice : 2 ^ suc n ≡ 2 * 2 ^ n = omega arith in (
      rw add-one (marks_more n word ∙ ap (λ v. marks_of n word ++ (v == 1) ∷ []) (bit_at_above word n n small (omega arith))),
      rw add-one (omega (arith, small, twice)),
    )

-- marks of both lists
and_or : (xs ys zs : List Bool) → and_marks (or_marks xs ys) zs ≡ or_marks (and_marks xs zs) (and_marks ys zs)
and_or [] ys zs = refl
and_or (x ∷ xs) [] zs = sym (or_none (and_marks (x ∷ xs) zs))
and_or (x ∷ xs) (y ∷ ys) [] = refl
and_or (x ∷ xs) (y ∷ ys) (z ∷ zs) = ap (λ v. v ∷ and_marks (or_marks xs ys) zs) (one_tests x y z) ∙ ap (λ v. ((x && z) || (y && z)) ∷ v) (and_or xs ys zs)

and_blank : (n : ℕ) (xs : List Bool) → length xs ≡ n → and_marks (replicate n false) xs ≡ replicate n false
and_blank zero xs h = refl
and_blank (suc n) [] h = absurd (omega arith)
and_blank (suc n) (x ∷ xs) h = ap (λ v. false ∷ v) (and_blank n xs (omega arith))

length_and : (xs ys : List Bool) → length xs ≡ length ys → length (and_marks xs ys) ≡ length ys
length_and [] [] h = refl
length_and [] (y ∷ ys) h = absurd (omega arith)
length_and (x ∷ xs) [] h = refl
length_and (x ∷ xs) (y ∷ ys) h = ap suc (length_and xs ys (omega arith))

-- one position and the marks of a list: its mark alone
one_kept : (n j : ℕ) (xs : List Bool) → length xs ≡ n → get_or xs j false ≡ true → and_marks (marks_of n (2 ^ j)) xs ≡ marks_of n (2 ^ j)
one_kept zero j xs h at = refl
one_kept (suc n) j [] h at = absurd (omega arith)
one_kept (suc n) zero (x ∷ xs) h at =
    ap (λ v. v ∷ and_marks (marks_of n 0) xs) at
    ∙ ap (λ v. true ∷ v) (ap (λ v. and_marks v xs) (marks_zero n) ∙ and_blank n xs (omega arith) ∙ sym (marks_zero n))
one_kept (suc n) (suc j) (x ∷ xs) h at =
    ap (λ v. (v && x) ∷ and_marks (marks_of n (2 ^ suc j / 2)) xs) (even j)
    ∙ ap (λ v. false ∷ and_marks (marks_of n v) xs) (half_pow j)
    ∙ ap (λ v. false ∷ v) (one_kept n j xs (omega arith) at)
    ∙ sym (ap (λ v. v ∷ marks_of n (2 ^ suc j / 2)) (even j) ∙ ap (λ v. false ∷ marks_of n v) (half_pow j))

one_lost : (n j : ℕ) (xs : List Bool) → length xs ≡ n → get_or xs j false ≡ false → and_marks (marks_of n (2 ^ j)) xs ≡ replicate n false
one_lost zero j xs h at = refl
one_lost (suc n) j [] h at = absurd (omega arith)
one_lost (suc n) zero (x ∷ xs) h at =
    ap (λ v. v ∷ and_marks (marks_of n 0) xs) at
    ∙ ap (λ v. false ∷ v) (ap (λ v. and_marks v xs) (marks_zero n) ∙ and_blank n xs (omega arith))
one_lost (suc n) (suc j) (x ∷ xs) h at =
    ap (λ v. (v && x) ∷ and_marks (marks_of n (2 ^ suc j / 2)) xs) (even j)
    ∙ ap (λ v. false ∷ and_marks (marks_of n v) xs) (half_pow j)
    ∙ ap (λ v. false ∷ v) (one_lost n j xs (omega arith) at)

-- the positions of a word are asked one by one
module _ (n : ℕ) (has : List Bool) (counted : length has ≡ n) where
  abbrev those : ℕ → List Bool
  those word = and_marks (marks_of n word) has

  length_those : (word : ℕ) → length (those word) ≡ n
  length_those word = length_and (marks_of n word) has (length_marks n word ∙ sym counted) ∙ counted

  pub none_asked : (word : ℕ) → or_marks (marks_of n 0) (and_marks (marks_of n word) has) ≡ and_marks (marks_of n word) has
  none_asked word = ap (λ v. or_marks v (those word)) (marks_zero n) ∙ blank_or n (those word) (length_those word)

  pub all_asked : (found word : ℕ) → word ≡ 0 → or_marks (marks_of n found) (and_marks (marks_of n word) has) ≡ marks_of n found
  all_asked found word is =
      ap (λ v. or_marks (marks_of n found) (and_marks v has)) (ap (marks_of n) is ∙ marks_zero n)
      ∙ ap (or_marks (marks_of n found)) (and_blank n has counted)
      ∙ or_blank n (marks_of n found) (length_marks n found)

  module _ (found left j : ℕ) (small : left < 2 ^ 64) (within : j < 64) (set : bit_at left j ≡ 1) where
    abbrev rest : ℕ
    rest = bit_and left (bit_not w64 (1 * 2 ^ j % 2 ^ 64))

    split : or_marks (and_marks (marks_of n (2 ^ j)) has) (those rest) ≡ those left
    split = sym (and_or (marks_of n (2 ^ j)) (marks_of n rest) has) ∙ ap (λ v. and_marks v has) (sym (taken left j small within set n))

    pub asked_has : get_or has j false ≡ true →
        or_marks (marks_of n (bit_or found (1 * 2 ^ j % 2 ^ 64))) (and_marks (marks_of n (bit_and left (bit_not w64 (1 * 2 ^ j % 2 ^ 64)))) has)
        ≡ or_marks (marks_of n found) (and_marks (marks_of n left) has)
    asked_has at =
        let power : 1 * 2 ^ j % 2 ^ 64 ≡ 2 ^ j = (let p : 2 ^ j < 2 ^ 64 = pow-lt within in omega (arith, p)) in
        ap (λ v. or_marks (marks_of n (bit_or found v)) (those rest)) power
        ∙ ap (λ v. or_marks v (those rest)) (marks_or n found (2 ^ j))
        ∙ or_more (marks_of n found) (marks_of n (2 ^ j)) (those rest)
        ∙ ap (or_marks (marks_of n found)) (ap (λ v. or_marks v (those rest)) (sym (one_kept n j has counted at)) ∙ split)

    pub asked_lacks : get_or has j false ≡ false →
        or_marks (marks_of n found) (and_marks (marks_of n (bit_and left (bit_not w64 (1 * 2 ^ j % 2 ^ 64)))) has)
        ≡ or_marks (marks_of n found) (and_marks (marks_of n left) has)
    asked_lacks at =
        ap (or_marks (marks_of n found))
        (sym (blank_or n (those rest) (length_those rest)) ∙ ap (λ v. or_marks v (those rest)) (sym (one_lost n j has counted at)) ∙ split)
