-- What the form of a picture tells of each character.
use Rattle.std.proofs.Common.{◌≡◌, ℕ, zero, suc, ◌+◌, ◌<◌, true, false, ◌&&◌, ◌||◌, ◌==◌, nat_le, eqb, cond, take, drop, slice_index, List, [], ◌∷◌, length, get_or, sym, ◌∙◌, ap, arith}
use Rattle.std.proofs.lemmas.List.{length-take, length-drop}
use Rattle.std.specs.List.{list_all, zip}
use lib.Chars.{codes}
use Rattle.std.specs.Char.{is_ascii_digit}
use Rattle.std.proofs.lemmas.Bool.{and_parts, and_left, and_right, ne_eqb, eqb-true, eq-eqb}
use Rattle.xs_text.specs.DateTime.{stands_for, has_form, HasDigits, field, is_day, is_time, is_zero_fraction, is_time_with_fraction, fraction_len, is_zone, is_day_and_time}

each : (t p : List ℕ) (k : ℕ) → list_all (λ (pair : ℕ × ℕ). stands_for pair.0 pair.1) (zip t p) ≡ true → length t ≡ length p → k < length p → stands_for (get_or t k 0) (get_or p k 0) ≡ true
each [] p k h e l = absurd (omega arith)
each (c ∷ t) [] k h e l = absurd (omega arith)
each (c ∷ t) (q ∷ p) zero h e l = (and_parts (stands_for c q) (list_all (λ (pair : ℕ × ℕ). stands_for pair.0 pair.1) (zip t p)) h).0
each (c ∷ t) (q ∷ p) (suc k) h e l = each t p k (and_parts (stands_for c q) (list_all (λ (pair : ℕ × ℕ). stands_for pair.0 pair.1) (zip t p)) h).1 (omega arith) (omega arith)

pub form_length : (p t : List ℕ) → has_form p t ≡ true → length t ≡ length p
unfolding has_form
form_length p t h = eqb-true (length t) (length p) (and_parts (eqb (length t) (length p)) (list_all (λ (pair : ℕ × ℕ). stands_for pair.0 pair.1) (zip t p)) h).0

pub form_at : (p t : List ℕ) (k : ℕ) → has_form p t ≡ true → k < length p → stands_for (get_or t k 0) (get_or p k 0) ≡ true
unfolding has_form
form_at p t k h l =
    each t p k (and_parts (eqb (length t) (length p)) (list_all (λ (pair : ℕ × ℕ). stands_for pair.0 pair.1) (zip t p)) h).1 (form_length p t h) l

digit_for : (c p : ℕ) → stands_for c p ≡ true → p ≡ 57 → is_ascii_digit c ≡ true
digit_for c p h e = sym (ap (λ b. cond b (is_ascii_digit c) (eqb c p)) (eq-eqb p 57 e)) ∙ h

-- two digits of a picture stand for two digits
pub digits_in_form : (p t : List ℕ) (k : ℕ) → has_form p t ≡ true → k + 1 < length p → get_or p k 0 ≡ 57 → get_or p (k + 1) 0 ≡ 57 → HasDigits k t
digits_in_form p t k h l e f = record {
  within = omega (arith, form_length p t h);
  tens = digit_for (get_or t k 0) (get_or p k 0) (form_at p t k h (omega arith)) e;
  ones = digit_for (get_or t (k + 1) 0) (get_or p (k + 1) 0) (form_at p t (k + 1) h l) f;
}

-- a text of another length has not the form
form_short : (p t : List ℕ) → length t < length p → has_form p t ≡ false
unfolding has_form
form_short p t l =
    and_left (eqb (length t) (length p)) (list_all (λ (pair : ℕ × ℕ). stands_for pair.0 pair.1) (zip t p)) (ne_eqb (length t) (length p) (λ e. omega arith))

time_short : (t f : List ℕ) → length t < 8 → is_time_with_fraction t f ≡ false
unfolding is_time_with_fraction is_time
time_short t f l =
    let clock : has_form (codes "99:99:99") t ≡ false = form_short (codes "99:99:99") t l in
    let day_end : has_form (codes "24:00:00") t ≡ false = form_short (codes "24:00:00") t l in
    ap (λ b. b && nat_le (field 0 t) 23 && nat_le (field 3 t) 59 && nat_le (field 6 t) 59 || has_form (codes "24:00:00") t && is_zero_fraction f) clock
    ∙ ap (λ b. b && is_zero_fraction f) day_end

pub day_and_time_short : (year : ℕ) (t : List ℕ) → length t < 14 → false ≡ is_day_and_time year t
unfolding is_day_and_time
day_and_time_short year t l =
    let time = take 8 (drop 6 t) in
    let tail = drop 14 t in
    let short : length time < 8 = omega (arith, length-take 8 (drop 6 t), length-drop 6 t) in
    let none : is_time_with_fraction time (take (fraction_len tail) tail) ≡ false = time_short time (take (fraction_len tail) tail) short in
    let front = is_day year (take 5 t) && slice_index t 5 == 84 in
    sym (and_left (front && is_time_with_fraction time (take (fraction_len tail) tail)) (is_zone (drop (fraction_len tail) tail))
    (and_right front (is_time_with_fraction time (take (fraction_len tail) tail)) none))
