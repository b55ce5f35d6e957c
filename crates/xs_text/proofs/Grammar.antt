-- The test of decimals is their grammar.
use Rattle.std.proofs.Common.{◌≡◌, ℕ, suc, ◌+◌, ◌<◌, ◌≤◌, Bool, true, false, not, ◌&&◌, ltb, eqb, cond, List, [], ◌∷◌, ◌++◌, length, get_or, take, drop, refl, sym, ◌∙◌, ap, inl, inr, arith}
use Rattle.std.specs.List.{before_first, after_first, position_or_len}
use Rattle.std.proofs.lemmas.Bool.{and_parts, and_from, or_cases, cases_lt, ltb-true, lt-ltb, ne_eqb, eqb-true}
use Rattle.std.proofs.lemmas.Bool.Decides.{nat_tests}
use Rattle.std.proofs.lemmas.List.{take_all, drop_all}
use Rattle.std.proofs.lemmas.List.Sums.{split_at_first, passes_at_first}
use Rattle.xs_text.specs.Digits.{plus, minus, point, are_digits, is_numeral, is_sign, unsigned_part}
use Rattle.xs_text.specs.Decimal.{is_decimal, whole_part, fraction_part}
use Rattle.xs_text.specs.Grammar.{IsSign, SpellsDecimal, no_point, with_point, point_first}
use Rattle.xs_text.specs.Laws.{DecimalsAreSpelled}
use Rattle.xs_text.proofs.Value.{first_digit, digit_bound}
use Rattle.xs_text.proofs.Integers.{point_at_end}

abbrev is_point : ℕ → Bool
is_point c = eqb c point

-- ---- what is spelled passes
unsigned_after : (sign x : List ℕ) → IsSign sign → unsigned_part x ≡ x → unsigned_part (sign ++ x) ≡ x
unsigned_after sign x (inl e) h = ap (λ s. unsigned_part (s ++ x)) e ∙ h
unsigned_after sign x (inr (inl e)) h = ap (λ s. unsigned_part (s ++ x)) e
unsigned_after sign x (inr (inr e)) h = ap (λ s. unsigned_part (s ++ x)) e

digits_unsigned : (x y : List ℕ) → are_digits x ≡ true → 0 < length x → unsigned_part (x ++ y) ≡ x ++ y
digits_unsigned [] y h l = absurd (omega arith)
digits_unsigned (c ∷ x) y h l =
    let digit = digit_bound c (first_digit c x h).0 in
    let none : is_sign c ≡ false = no_sign c (omega arith) in
    ap (λ b. cond b (x ++ y) (c ∷ (x ++ y))) none
  where
    no_sign : (c : ℕ) → 48 ≤ c → is_sign c ≡ false
    no_sign c l = grind (arith, nat_tests)

point_behind : (w f : List ℕ) → are_digits w ≡ true → position_or_len is_point (w ++ point ∷ f) ≡ length w
point_behind [] f h = refl
point_behind (c ∷ w) f h =
    let parts = first_digit c w h in
    let digit = digit_bound c parts.0 in
    let other : eqb c 46 ≡ false = ne_eqb c 46 (λ e. omega arith) in
    ap (λ b. cond (not b) (1 + position_or_len is_point (w ++ point ∷ f)) 0) other
    ∙ ap (λ n. 1 + n) (point_behind w f parts.1) ∙ omega arith

pub take_before : (w f : List ℕ) (c : ℕ) → take (length w) (w ++ c ∷ f) ≡ w
take_before [] f c = refl
take_before (d ∷ w) f c = ap (λ r. d ∷ r) (take_before w f c)

pub drop_behind : (w f : List ℕ) (c : ℕ) → drop (length w + 1) (w ++ c ∷ f) ≡ f
drop_behind [] f c = refl
drop_behind (d ∷ w) f c =
    let more : length (d ∷ w) + 1 ≡ suc (length w + 1) = omega arith in
    ap (λ n. drop n (d ∷ (w ++ c ∷ f))) more ∙ drop_behind w f c

decimal_from_parts : (text u w f : List ℕ) → unsigned_part text ≡ u → before_first is_point u ≡ w → after_first is_point u ≡ f → are_digits w ≡ true →
    are_digits f ≡ true → 0 < length w + length f → is_decimal text ≡ true
decimal_from_parts text u w f eu ew ef hw hf l =
    let tested = λ (x y : List ℕ). are_digits x && are_digits y && ltb 0 (length x + length y) in
    ap (λ x. tested (before_first is_point x) (after_first is_point x)) eu
    ∙ ap (λ x. tested x (after_first is_point u)) ew
    ∙ ap (λ x. tested w x) ef
    ∙ and_from (are_digits w && are_digits f) (ltb 0 (length w + length f)) (and_from (are_digits w) (are_digits f) hw hf) (lt-ltb 0 (length w + length f) l)

decimal_with_point : (text sign w f : List ℕ) → text ≡ sign ++ (w ++ point ∷ f) → IsSign sign → unsigned_part (w ++ point ∷ f) ≡ w ++ point ∷ f →
    are_digits w ≡ true → are_digits f ≡ true → 0 < length w + length f → is_decimal text ≡ true
decimal_with_point text sign w f e s h hw hf l =
    let u = w ++ point ∷ f in
    let end = point_behind w f hw in
    decimal_from_parts text u w f (ap unsigned_part e ∙ unsigned_after sign u s h)
    (ap (λ n. take n u) end ∙ take_before w f point)
    (ap (λ n. drop (n + 1) u) end ∙ drop_behind w f point) hw hf l

numeral_parts : (x : List ℕ) → is_numeral x ≡ true → (0 < length x) × (are_digits x ≡ true)
numeral_parts x h = let parts = and_parts (ltb 0 (length x)) (are_digits x) h in (ltb-true 0 (length x) parts.0, parts.1)

append_none : (x : List ℕ) → x ++ [] ≡ x
append_none [] = refl
append_none (c ∷ x) = ap (λ r. c ∷ r) (append_none x)

passes : (text : List ℕ) → SpellsDecimal text → is_decimal text ≡ true
passes text (no_point sign whole e s h) =
    let parts = numeral_parts whole h in
    let end = point_at_end whole parts.1 in
    let plain : unsigned_part whole ≡ whole = ap unsigned_part (sym (append_none whole)) ∙ digits_unsigned whole [] parts.1 parts.0 ∙ append_none whole in
    decimal_from_parts text whole whole [] (ap unsigned_part e ∙ unsigned_after sign whole s plain)
    (ap (λ n. take n whole) end ∙ take_all (length whole) whole (omega arith))
    (drop_all (position_or_len is_point whole + 1) whole (omega arith)) parts.1 refl (omega arith)
passes text (with_point sign whole fraction e s h k) =
    let parts = numeral_parts whole h in
    decimal_with_point text sign whole fraction e s (digits_unsigned whole (point ∷ fraction) parts.1 parts.0) parts.1 k (omega arith)
passes text (point_first sign fraction e s h) =
    let parts = numeral_parts fraction h in
    decimal_with_point text sign [] fraction e s refl refl parts.1 (omega arith)

-- ---- what passes is spelled
record Signed (text : List ℕ) : Type 0 where
  sign : List ℕ
  is_sign : IsSign sign
  spelled : text ≡ sign ++ unsigned_part text

signed_at : (c : ℕ) (cs : List ℕ) (b : Bool) → is_sign c ≡ b → Signed (c ∷ cs)
signed_at c cs true e =
    let rest : cs ≡ unsigned_part (c ∷ cs) = sym (ap (λ b. cond b cs (c ∷ cs)) e) in
    elim (or_cases (eqb c plus) (eqb c minus) e) [
      | inl h ↦ record { sign = c ∷ []; is_sign = inr (inl (ap (λ d. d ∷ []) (eqb-true c plus h))); spelled = ap (λ r. c ∷ r) rest }
      | inr h ↦ record { sign = c ∷ []; is_sign = inr (inr (ap (λ d. d ∷ []) (eqb-true c minus h))); spelled = ap (λ r. c ∷ r) rest }
    ]
signed_at c cs false e = record { sign = []; is_sign = inl refl; spelled = sym (ap (λ b. cond b cs (c ∷ cs)) e) }

signed_text : (text : List ℕ) → Signed text
signed_text [] = record { sign = []; is_sign = inl refl; spelled = refl }
signed_text (c ∷ cs) = signed_at c cs (is_sign c) refl

-- by the digits before the point
behind_point : (text sign w f : List ℕ) → IsSign sign → text ≡ sign ++ (w ++ point ∷ f) → are_digits w ≡ true → are_digits f ≡ true → 0 < length w + length f → SpellsDecimal text
behind_point text sign [] f s e hw hf l = point_first sign f e s (and_from (ltb 0 (length f)) (are_digits f) (lt-ltb 0 (length f) (omega arith)) hf)
behind_point text sign (c ∷ w) f s e hw hf l = with_point sign (c ∷ w) f e s (and_from (ltb 0 (length (c ∷ w))) (are_digits (c ∷ w)) (lt-ltb 0 (length (c ∷ w)) (omega arith)) hw) hf

spelled : (text : List ℕ) → is_decimal text ≡ true → SpellsDecimal text
spelled text h =
    let w = whole_part text in
    let f = fraction_part text in
    let u = unsigned_part text in
    let n = position_or_len is_point u in
    let outer = and_parts (are_digits w && are_digits f) (ltb 0 (length w + length f)) h in
    let digits = and_parts (are_digits w) (are_digits f) outer.0 in
    let some = ltb-true 0 (length w + length f) outer.1 in
    let start = signed_text text in
    elim (cases_lt n (length u)) [
      | inl l ↦
          (let at : get_or u n 0 ≡ point = eqb-true (get_or u n 0) point (passes_at_first is_point u 0 l) in
          let cut : u ≡ w ++ point ∷ f = split_at_first is_point u 0 l ∙ ap (λ c. w ++ c ∷ f) at in
          behind_point text start.sign w f start.is_sign (start.spelled ∙ ap (λ r. start.sign ++ r) cut) digits.0 digits.1 some)
      | inr l ↦
          (let whole : w ≡ u = take_all n u l in
          let none : f ≡ [] = drop_all (n + 1) u (omega arith) in
          no_point start.sign u start.spelled start.is_sign
          (and_from (ltb 0 (length u)) (are_digits u)
          (lt-ltb 0 (length u) (omega (arith, some, ap length whole, ap length none)))
          (sym (ap are_digits whole) ∙ digits.0)))
    ]

pub decimals_are_spelled : DecimalsAreSpelled
decimals_are_spelled text = (spelled text, passes text)
