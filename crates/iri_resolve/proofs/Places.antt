-- Where a byte stands first or last in a text, as the definitions count it.
use Rattle.std.proofs.Common.{◌≡◌, ◌≢◌, ℕ, eq-eqb, ◌+◌, ◌-◌, ◌<◌, ◌≤◌, Bool, true, false, eqb, not, List, [], ◌∷◌, ◌++◌, length, get_or, take, drop, Option, Some, None, unwrap_or, MatchOption, sym, refl, ap, ◌∙◌, arith}
use Rattle.std.specs.List.{position_or_len, suffix_len}
use Rattle.std.proofs.lemmas.List.{get_or-append_right, get_or-take, length-take, length-take-le, take_all, drop_all, drop_at, length-append, get_or_append_left, get_or_at, take_at, append_assoc}
use Rattle.std.proofs.lemmas.List.Sums.{position_or_len_is, suffix_len_is, split_at_first, passes_at_first, fails_before_first}
use Rattle.std.proofs.lemmas.Str.Pattern.{IsSplitOnceResult, split_once_first}
use denote.Ref.{Bor}
use Rattle.std.proofs.lemmas.Bool.{ne_eqb, eqb-false, eqb-true, lt-ltb}
use Rattle.std.proofs.lemmas.Bool.Decides.{nat_tests}
use Rattle.std.proofs.lemmas.List.Elements.{All-from_get_or, All-append}
use Rattle.iri_resolve.specs.Text.{has, before, after, from, until_last, Lacks}

-- a byte stands at no place of a text, as `find` says it
abbrev pub StandsNowhere : ℕ → List ℕ → Type 0
StandsNowhere c bs = (i : ℕ) → i < length bs → get_or bs i 0 ≢ c

-- the first place, as `find` answers it
pub first_place : (c : ℕ) (bs : List ℕ) (r : Option ℕ) → MatchOption r (StandsNowhere c bs) (λ k. (k < length bs) × (get_or bs k 0 ≡ c) ×
    ((i : ℕ) → i < k → get_or bs i 0 ≢ c)) → position_or_len (λ b. eqb b c) bs ≡ unwrap_or r (length bs)
first_place c bs None h = position_or_len_is (λ b. eqb b c) bs (length bs) 0 (omega arith) (λ k l. ne_eqb (get_or bs k 0) c (h k l)) (λ l. absurd (omega arith))
first_place c bs (Some k) h = position_or_len_is (λ b. eqb b c) bs k 0 (omega (arith, h.0)) (λ i l. ne_eqb (get_or bs i 0) c (h.2 i l)) (λ _. grind (arith, nat_tests, h.1))

-- how long the text is up to the last place and with it, as `rfind` answers it
pub last_place : (c : ℕ) (bs : List ℕ) (r : Option ℕ) → MatchOption r (StandsNowhere c bs) (λ k. (k < length bs) × (get_or bs k 0 ≡ c) ×
    ((i : ℕ) → k < i → i < length bs → get_or bs i 0 ≢ c)) → MatchOption r (length bs - suffix_len (λ b. not (eqb b c)) bs ≡ 0) (λ k. length bs - suffix_len (λ b. not (eqb b c)) bs ≡ k + 1)
last_place c bs None h =
    let e = suffix_len_is (λ b. not (eqb b c)) bs 0 0 (omega arith) (λ k _ l. ap not (ne_eqb (get_or bs k 0) c (h k l))) (λ l. absurd (omega arith)) in
    omega arith
last_place c bs (Some k) h =
    let e = suffix_len_is (λ b. not (eqb b c)) bs (k + 1) 0 (omega (arith, h.0)) (λ i m l. ap not (ne_eqb (get_or bs i 0) c (h.2 i (omega arith) l))) (λ _. before_is k c bs h.1) in
    omega (arith, h.0)
  where
    before_is : (k c : ℕ) (bs : List ℕ) → get_or bs k 0 ≡ c → not (eqb (get_or bs (k + 1 - 1) 0) c) ≡ false
    before_is k c bs e = let m : k + 1 - 1 ≡ k = omega arith in rw m (rw e (ap not (eq-eqb c c refl)))

-- what stands before the last place, as `rfind` answers it
pub until_last_place : (c : ℕ) (bs : List ℕ) (r : Option ℕ) → MatchOption r (StandsNowhere c bs) (λ k. (k < length bs) × (get_or bs k 0 ≡ c) ×
    ((i : ℕ) → k < i → i < length bs → get_or bs i 0 ≢ c)) → until_last c bs ≡ take (unwrap_or r 0) bs
until_last_place c bs None h =
    let e = last_place c bs None h in
    let n : length bs - suffix_len (λ b. not (eqb b c)) bs - 1 ≡ 0 = omega arith in
    ap (λ n. take n bs) n
until_last_place c bs (Some k) h =
    let e = last_place c bs (Some k) h in
    let n : length bs - suffix_len (λ b. not (eqb b c)) bs - 1 ≡ k = omega arith in
    ap (λ n. take n bs) n

-- what stands before a byte that no later one equals
pub until_last-append : (c : ℕ) (xs ys : List ℕ) → Lacks c ys → until_last c (xs ++ c ∷ ys) ≡ xs
until_last-append c xs ys h =
    until_last_place c (xs ++ c ∷ ys) (Some (length xs)) (omega (arith, length-append xs (c ∷ ys)), get_or_at xs c ys 0 (length xs) refl, λ i m l. later c xs ys h i m l)
    ∙ take_at xs (c ∷ ys) (length xs) refl
  where
    later : (c : ℕ) (xs ys : List ℕ) → Lacks c ys → (i : ℕ) → length xs < i → i < length (xs ++ c ∷ ys) → get_or (xs ++ c ∷ ys) i 0 ≢ c
    later c xs ys h i m l e =
        let w = get_or-append_right (xs ++ c ∷ []) ys (length xs + 1) i 0 (length-append xs (c ∷ []) ∙ ap (λ n. length xs + n) refl) (omega arith) in
        h (i - (length xs + 1)) 0 (omega (arith, length-append xs (c ∷ ys))) (sym w ∙ ap (λ zs. get_or zs i 0) (append_assoc xs (c ∷ []) ys) ∙ e)

-- a text without such a byte has nothing before the last one
pub until_last-none : (c : ℕ) (bs : List ℕ) → Lacks c bs → until_last c bs ≡ []
until_last-none c bs h =
    until_last_place c bs None (λ i l. h i 0 l)

-- what stands before the first such byte has none
pub Lacks-before : (c : ℕ) (bs : List ℕ) → Lacks c (before c bs)
Lacks-before c bs =
    All-from_get_or (λ b. b ≢ c) (before c bs) 0
    (λ i l e.
    let m : i < position_or_len (λ b. eqb b c) bs = omega (arith, length-take (position_or_len (λ b. eqb b c) bs) bs) in
    let f = fails_before_first (λ b. eqb b c) bs i 0 m in
    eqb-false (get_or bs i 0) c f (sym (get_or-take (position_or_len (λ b. eqb b c) bs) bs i 0 m) ∙ e))

-- nor has a text that is its own front
pub Lacks-has : (c : ℕ) (bs : List ℕ) → has c bs ≡ false → Lacks c bs
Lacks-has c bs e =
    All-from_get_or (λ b. b ≢ c) bs 0
    (λ i l q.
    let n : length bs ≤ position_or_len (λ b. eqb b c) bs = grind (arith, nat_tests) in
    eqb-false (get_or bs i 0) c (fails_before_first (λ b. eqb b c) bs i 0 (omega arith)) q)

-- the two parts round the first such byte are the text
pub before-append-after : (c : ℕ) (bs : List ℕ) → has c bs ≡ true → before c bs ++ c ∷ after c bs ≡ bs
before-append-after c bs e =
    let n : position_or_len (λ b. eqb b c) bs < length bs = grind (arith, nat_tests) in
    let g : get_or bs (position_or_len (λ b. eqb b c) bs) 0 ≡ c = eqb-true (get_or bs (position_or_len (λ b. eqb b c) bs) 0) c (passes_at_first (λ b. eqb b c) bs 0 n) in
    ap (λ b. before c bs ++ b ∷ after c bs) (sym g) ∙ sym (split_at_first (λ b. eqb b c) bs 0 n)

-- what follows the part before it begins with it
pub from-has : (c : ℕ) (bs : List ℕ) → has c bs ≡ true → from c bs ≡ c ∷ after c bs
from-has c bs e =
    let p = position_or_len (λ b. eqb b c) bs in
    let n : p < length bs = grind (arith, nat_tests) in
    ap (drop p) (sym (before-append-after c bs e)) ∙ drop_at (before c bs) (c ∷ after c bs) p (length-take-le p bs (omega arith))

-- and a text without the byte stands before it whole
pub before-all : (c : ℕ) (bs : List ℕ) → has c bs ≡ false → before c bs ≡ bs
before-all c bs e =
    let n : length bs ≤ position_or_len (λ b. eqb b c) bs = grind (arith, nat_tests) in
    take_all (position_or_len (λ b. eqb b c) bs) bs n

-- what `split_once` answers
pub split_once_some : (c : ℕ) (bs : List ℕ) (x : Bor (List ℕ) × Bor (List ℕ)) → IsSplitOnceResult c bs (Some x) → c < 128 → (has c bs ≡ true) × (x.0.now ≡ before c bs) × (x.1.now ≡ after c bs)
split_once_some c bs x h l =
    let f = split_once_first c bs (Some x) h l in
    (lt-ltb (position_or_len (λ b. eqb b c) bs) (length bs) f.0, f.1, f.2)

pub split_once_none : (c : ℕ) (bs : List ℕ) → IsSplitOnceResult c bs None → c < 128 → has c bs ≡ false
split_once_none c bs h l =
    let e = split_once_first c bs None h l in
    rw e (grind (arith, nat_tests))

-- the first place behind a text that lacks the byte
position_or_len-append : (c : ℕ) (xs ys : List ℕ) → Lacks c xs → position_or_len (λ b. eqb b c) (xs ++ c ∷ ys) ≡ length xs
position_or_len-append c xs ys h =
    first_place c (xs ++ c ∷ ys) (Some (length xs)) (omega (arith, length-append xs (c ∷ ys)), get_or_at xs c ys 0 (length xs) refl, λ i l e. h i 0 l (sym (get_or_append_left xs (c ∷ ys) 0 i l) ∙ e))

position_or_len-none : (c : ℕ) (xs : List ℕ) → Lacks c xs → position_or_len (λ b. eqb b c) xs ≡ length xs
position_or_len-none c xs h = first_place c xs None (λ i l. h i 0 l)

-- a text that lacks the byte, and what stands behind that byte
pub has-append : (c : ℕ) (xs ys : List ℕ) → Lacks c xs → has c (xs ++ c ∷ ys) ≡ true
has-append c xs ys h = lt-ltb (position_or_len (λ b. eqb b c) (xs ++ c ∷ ys)) (length (xs ++ c ∷ ys)) (omega (arith, position_or_len-append c xs ys h, length-append xs (c ∷ ys)))

pub before-append : (c : ℕ) (xs ys : List ℕ) → Lacks c xs → before c (xs ++ c ∷ ys) ≡ xs
before-append c xs ys h = take_at xs (c ∷ ys) (position_or_len (λ b. eqb b c) (xs ++ c ∷ ys)) (sym (position_or_len-append c xs ys h))

pub after-append : (c : ℕ) (xs ys : List ℕ) → Lacks c xs → after c (xs ++ c ∷ ys) ≡ ys
after-append c xs ys h =
    ap (drop (position_or_len (λ b. eqb b c) (xs ++ c ∷ ys) + 1)) (sym (append_assoc xs (c ∷ []) ys))
    ∙ drop_at (xs ++ c ∷ []) ys (position_or_len (λ b. eqb b c) (xs ++ c ∷ ys) + 1) (omega (arith, position_or_len-append c xs ys h, length-append xs (c ∷ [])))

pub from-append : (c : ℕ) (xs ys : List ℕ) → Lacks c xs → from c (xs ++ c ∷ ys) ≡ c ∷ ys
from-append c xs ys h = drop_at xs (c ∷ ys) (position_or_len (λ b. eqb b c) (xs ++ c ∷ ys)) (sym (position_or_len-append c xs ys h))

-- a text that lacks the byte, alone
pub has-none : (c : ℕ) (xs : List ℕ) → Lacks c xs → has c xs ≡ false
has-none c xs h = let e = position_or_len-none c xs h in grind (arith, nat_tests)

pub from-none : (c : ℕ) (xs : List ℕ) → Lacks c xs → from c xs ≡ []
from-none c xs h = drop_all (position_or_len (λ b. eqb b c) xs) xs (omega (arith, position_or_len-none c xs h))

-- what stands before the byte in a text behind one that lacks it
pub before-later : (c : ℕ) (xs ys : List ℕ) → Lacks c xs → before c (xs ++ ys) ≡ xs ++ before c ys
before-later c xs ys h = go (has c ys) refl
  where
    go : (b : Bool) → has c ys ≡ b → before c (xs ++ ys) ≡ xs ++ before c ys
    go true e =
        ap (λ t. before c (xs ++ t)) (sym (before-append-after c ys e))
        ∙ ap (before c) (sym (append_assoc xs (before c ys) (c ∷ after c ys)))
        ∙ before-append c (xs ++ before c ys) (after c ys) (All-append (λ b. b ≢ c) xs (before c ys) h (Lacks-before c ys))
    go false e =
        before-all c (xs ++ ys) (has-none c (xs ++ ys) (All-append (λ b. b ≢ c) xs ys h (Lacks-has c ys e)))
        ∙ ap (λ t. xs ++ t) (sym (before-all c ys e))
