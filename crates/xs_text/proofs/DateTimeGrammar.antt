-- The test of dateTime is its grammar.
use Rattle.std.proofs.Common.{◌≡◌, ◌⊎◌, ℕ, suc, ◌+◌, ◌*◌, ◌<◌, ◌≤◌, Bool, true, false, not, ◌&&◌, ◌||◌, leb, ltb, eqb, cond, ◌==◌, List, [], ◌∷◌, ◌++◌, length, get_or, take, drop, slice_index, refl, sym, ◌∙◌, ap, subst, inl, inr, arith}
use lib.Chars.{codes}
use Rattle.std.specs.List.{list_all, zip, before_first, after_first, prefix_len, position_or_len}
use Rattle.std.specs.Char.{is_ascii_digit, digit_value}
use Rattle.std.proofs.lemmas.Bool.{and_parts, and_from, or_cases, cases_lt, ltb-true, leb-true, le-leb, ne_eqb, eqb-true, eq-eqb, not-true, false≢true}
use Rattle.std.proofs.lemmas.List.{drop_all, drop-drop, take-append-drop}
use Rattle.std.proofs.Math.Seq.{drop-cons, take-append_seam, drop-append_seam}
use Rattle.std.proofs.lemmas.List.Folds.{length-prefix_len}
use Rattle.std.proofs.lemmas.List.Sums.{split_at_first, passes_at_first}
use Rattle.xs_text.specs.Digits.{plus, minus, point, zero_digit, are_digits, is_sign}
use Rattle.xs_text.specs.DateTime.{stands_for, has_form, field, is_year, days_in_month, is_day, is_time, fraction_len, is_zero_fraction, is_time_with_fraction, is_offset, is_zone, without_minus, is_day_and_time, is_date_time}
use Rattle.xs_text.specs.Grammar.{IsTwoDigits, IsFraction, IsOffset, IsZone, no_zone, utc, offset, IsTimeOfDay, SpellsDateTime}
use Rattle.xs_text.specs.Laws.{DateTimesAreSpelled}
use Rattle.xs_text.proofs.Value.{value, first_digit, digit_bound}
use Rattle.xs_text.proofs.Grammar.{take_before, drop_behind}
use Rattle.xs_text.proofs.Forms.{form_at, form_length, day_and_time_short}

-- ---- the form of a picture
sep_for : (c p : ℕ) → stands_for c p ≡ true → eqb p 57 ≡ false → c ≡ p
sep_for c p h e = eqb-true c p (sym (ap (λ b. cond b (is_ascii_digit c) (eqb c p)) e) ∙ h)

form_cons : (p : ℕ) (ps : List ℕ) (c : ℕ) (cs : List ℕ) → stands_for c p ≡ true → has_form ps cs ≡ true → has_form (p ∷ ps) (c ∷ cs) ≡ true
unfolding has_form
form_cons p ps c cs h k =
    let all = λ (xs ys : List ℕ). list_all (λ (pair : ℕ × ℕ). stands_for pair.0 pair.1) (zip xs ys) in
    let parts = and_parts (eqb (length cs) (length ps)) (all cs ps) k in
    and_from (eqb (length (c ∷ cs)) (length (p ∷ ps))) (stands_for c p && all cs ps)
    (eq-eqb (length (c ∷ cs)) (length (p ∷ ps)) (ap suc (eqb-true (length cs) (length ps) parts.0)))
    (and_from (stands_for c p) (all cs ps) h parts.1)

form_itself : has_form (codes "24:00:00") (codes "24:00:00") ≡ true
unfolding has_form
form_itself = refl

form_nil : has_form [] [] ≡ true
unfolding has_form
form_nil = refl

two_digits : (a b : ℕ) → is_ascii_digit a ≡ true → is_ascii_digit b ≡ true → IsTwoDigits (a ∷ b ∷ [])
two_digits a b h k = (refl, and_from (is_ascii_digit a) (is_ascii_digit b && true) h (and_from (is_ascii_digit b) true k refl))

-- the value of two digits, by the field that holds them
value_two : (a b : ℕ) → 10 * digit_value a + digit_value b ≡ value (a ∷ b ∷ [])
value_two a b = omega arith

-- ---- `99x99`
record Pair (x : ℕ) (text : List ℕ) : Type 0 where
  front : List ℕ
  back : List ℕ
  front_digits : IsTwoDigits front
  back_digits : IsTwoDigits back
  spelled : text ≡ front ++ x ∷ back
  front_value : field 0 text ≡ value front
  back_value : field 3 text ≡ value back

pair_spelled : (x : ℕ) (t : List ℕ) → eqb x 57 ≡ false → has_form (57 ∷ 57 ∷ x ∷ 57 ∷ 57 ∷ []) t ≡ true → Pair x t
unfolding field
pair_spelled x (a ∷ b ∷ c ∷ d ∷ e ∷ []) n h =
    let p = 57 ∷ 57 ∷ x ∷ 57 ∷ 57 ∷ [] in
    let t = a ∷ b ∷ c ∷ d ∷ e ∷ [] in
    record {
      front = a ∷ b ∷ [];
      back = d ∷ e ∷ [];
      front_digits = two_digits a b (form_at p t 0 h (omega arith)) (form_at p t 1 h (omega arith));
      back_digits = two_digits d e (form_at p t 3 h (omega arith)) (form_at p t 4 h (omega arith));
      spelled = ap (λ y. a ∷ b ∷ y ∷ d ∷ e ∷ []) (sep_for c x (form_at p t 2 h (omega arith)) n);
      front_value = value_two a b;
      back_value = value_two d e;
    }
pair_spelled x [] n h = absurd (omega (arith, form_length (57 ∷ 57 ∷ x ∷ 57 ∷ 57 ∷ []) [] h))
pair_spelled x (a ∷ []) n h = absurd (omega (arith, form_length (57 ∷ 57 ∷ x ∷ 57 ∷ 57 ∷ []) (a ∷ []) h))
pair_spelled x (a ∷ b ∷ []) n h = absurd (omega (arith, form_length (57 ∷ 57 ∷ x ∷ 57 ∷ 57 ∷ []) (a ∷ b ∷ []) h))
pair_spelled x (a ∷ b ∷ c ∷ []) n h = absurd (omega (arith, form_length (57 ∷ 57 ∷ x ∷ 57 ∷ 57 ∷ []) (a ∷ b ∷ c ∷ []) h))
pair_spelled x (a ∷ b ∷ c ∷ d ∷ []) n h = absurd (omega (arith, form_length (57 ∷ 57 ∷ x ∷ 57 ∷ 57 ∷ []) (a ∷ b ∷ c ∷ d ∷ []) h))
pair_spelled x (a ∷ b ∷ c ∷ d ∷ e ∷ f ∷ t) n h = absurd (omega (arith, form_length (57 ∷ 57 ∷ x ∷ 57 ∷ 57 ∷ []) (a ∷ b ∷ c ∷ d ∷ e ∷ f ∷ t) h))

-- a list of two digits
record Two (text : List ℕ) : Type 0 where
  tens : ℕ
  ones : ℕ
  tens_digit : is_ascii_digit tens ≡ true
  ones_digit : is_ascii_digit ones ≡ true
  spelled : text ≡ tens ∷ ones ∷ []

two_of : (t : List ℕ) → IsTwoDigits t → Two t
two_of (a ∷ b ∷ []) h =
    let outer = first_digit a (b ∷ []) h.1 in
    record { tens = a; ones = b; tens_digit = outer.0; ones_digit = (first_digit b [] outer.1).0; spelled = refl }
two_of [] h = let l = h.0 in absurd (omega arith)
two_of (a ∷ []) h = let l = h.0 in absurd (omega arith)
two_of (a ∷ b ∷ c ∷ t) h = let l = h.0 in absurd (omega arith)

-- ---- fractions
digits_in_front : (xs : List ℕ) → are_digits (take (prefix_len is_ascii_digit xs) xs) ≡ true
digits_in_front [] = refl
digits_in_front (x ∷ xs) = by_first (is_ascii_digit x) refl (digits_in_front xs)
  where
    by_first : (b : Bool) → is_ascii_digit x ≡ b → are_digits (take (prefix_len is_ascii_digit xs) xs) ≡ true → are_digits (take (cond b (1 + prefix_len is_ascii_digit xs) 0) (x ∷ xs)) ≡ true
    by_first true e h =
        let one : 1 + prefix_len is_ascii_digit xs ≡ suc (prefix_len is_ascii_digit xs) = omega arith in
        ap (λ n. are_digits (take n (x ∷ xs))) one ∙ and_from (is_ascii_digit x) (are_digits (take (prefix_len is_ascii_digit xs) xs)) e h
    by_first false e h = refl

fraction_spelled : (tail : List ℕ) → IsFraction (take (fraction_len tail) tail)
unfolding fraction_len
fraction_spelled [] = inl refl
fraction_spelled (c ∷ cs) = by_point (c == point && ltb 0 (prefix_len is_ascii_digit cs)) refl
  where
    by_point : (b : Bool) → (c == point && ltb 0 (prefix_len is_ascii_digit cs)) ≡ b → IsFraction (take (cond b (1 + prefix_len is_ascii_digit cs) 0) (c ∷ cs))
    by_point true e =
        let n = prefix_len is_ascii_digit cs in
        let parts = and_parts (c == point) (ltb 0 n) e in
        let one : 1 + n ≡ suc n = omega arith in
        let long : length (take n cs) ≡ n = length-prefix_len is_ascii_digit cs in
        inr (
          take n cs,
          ap (λ m. take m (c ∷ cs)) one ∙ ap (λ d. d ∷ take n cs) (eqb-true c point parts.0),
          and_from (ltb 0 (length (take n cs))) (are_digits (take n cs)) (ap (λ m. ltb 0 m) long ∙ parts.1) (digits_in_front cs),
        )
    by_point false e = inl refl

-- ---- zones
nothing_of : (cs : List ℕ) → length cs ≡ 0 → cs ≡ []
nothing_of [] e = refl
nothing_of (c ∷ cs) e = absurd (omega arith)

offset_parts : (h m : ℕ) → (leb h 13 && leb m 59 || eqb h 14 && eqb m 0) ≡ true → IsOffset h m
offset_parts h m e = elim (or_cases (leb h 13 && leb m 59) (eqb h 14 && eqb m 0) e) [
  | inl l ↦ (let parts = and_parts (leb h 13) (leb m 59) l in inl (leb-true h 13 parts.0, leb-true m 59 parts.1))
  | inr r ↦ (let parts = and_parts (eqb h 14) (eqb m 0) r in inr (eqb-true h 14 parts.0, eqb-true m 0 parts.1))
]

offset_spelled : (sign : ℕ) (cs : List ℕ) → is_sign sign ≡ true → is_offset cs ≡ true → IsZone (sign ∷ cs)
unfolding is_offset
offset_spelled sign cs s h =
    let ranges = leb (field 0 cs) 13 && leb (field 3 cs) 59 || eqb (field 0 cs) 14 && eqb (field 3 cs) 0 in
    let parts = and_parts (has_form (codes "99:99") cs) ranges h in
    let pair = pair_spelled 58 cs refl parts.0 in
    offset sign pair.front pair.back (ap (λ r. sign ∷ r) pair.spelled) s pair.front_digits pair.back_digits
    (subst (λ m. IsOffset (value pair.front) m) pair.back_value (subst (λ n. IsOffset n (field 3 cs)) pair.front_value (offset_parts (field 0 cs) (field 3 cs) parts.1)))

zone_spelled : (zone : List ℕ) → is_zone zone ≡ true → IsZone zone
unfolding is_zone
zone_spelled [] h = no_zone refl
zone_spelled (c ∷ cs) h = elim (or_cases (eqb c 90 && eqb (length cs) 0) (is_sign c && is_offset cs) h) [
  | inl l ↦ (let parts = and_parts (eqb c 90) (eqb (length cs) 0) l in
      utc (ap (λ d. d ∷ cs) (eqb-true c 90 parts.0) ∙ ap (λ r. 90 ∷ r) (nothing_of cs (eqb-true (length cs) 0 parts.1))))
  | inr r ↦ (let parts = and_parts (is_sign c) (is_offset cs) r in offset_spelled c cs parts.0 parts.1)
]

-- ---- `hh:mm:ss`
form_uncons : (p : ℕ) (ps : List ℕ) (c : ℕ) (cs : List ℕ) → has_form (p ∷ ps) (c ∷ cs) ≡ true → (stands_for c p ≡ true) × (has_form ps cs ≡ true)
unfolding has_form
form_uncons p ps c cs h =
    let all = λ (xs ys : List ℕ). list_all (λ (pair : ℕ × ℕ). stands_for pair.0 pair.1) (zip xs ys) in
    let outer = and_parts (eqb (length (c ∷ cs)) (length (p ∷ ps))) (stands_for c p && all cs ps) h in
    let parts = and_parts (stands_for c p) (all cs ps) outer.1 in
    let same : length cs ≡ length ps = let more = eqb-true (length (c ∷ cs)) (length (p ∷ ps)) outer.0 in omega arith in
    (parts.0, and_from (eqb (length cs) (length ps)) (all cs ps) (eq-eqb (length cs) (length ps) same) parts.1)

record Clock (text : List ℕ) : Type 0 where
  hour : List ℕ
  minute : List ℕ
  second : List ℕ
  hour_digits : IsTwoDigits hour
  minute_digits : IsTwoDigits minute
  second_digits : IsTwoDigits second
  spelled : text ≡ hour ++ 58 ∷ (minute ++ 58 ∷ second)
  hour_value : field 0 text ≡ value hour
  minute_value : field 3 text ≡ value minute
  second_value : field 6 text ≡ value second

abbrev clock_picture : List ℕ
clock_picture = 57 ∷ 57 ∷ 58 ∷ 57 ∷ 57 ∷ 58 ∷ 57 ∷ 57 ∷ []

clock_spelled : (t : List ℕ) → has_form clock_picture t ≡ true → Clock t
unfolding field
clock_spelled (a ∷ b ∷ x ∷ c ∷ d ∷ y ∷ e ∷ f ∷ []) h =
    let t = a ∷ b ∷ x ∷ c ∷ d ∷ y ∷ e ∷ f ∷ [] in
    record {
      hour = a ∷ b ∷ [];
      minute = c ∷ d ∷ [];
      second = e ∷ f ∷ [];
      hour_digits = two_digits a b (form_at clock_picture t 0 h (omega arith)) (form_at clock_picture t 1 h (omega arith));
      minute_digits = two_digits c d (form_at clock_picture t 3 h (omega arith)) (form_at clock_picture t 4 h (omega arith));
      second_digits = two_digits e f (form_at clock_picture t 6 h (omega arith)) (form_at clock_picture t 7 h (omega arith));
      spelled = ap (λ z. a ∷ b ∷ z ∷ c ∷ d ∷ y ∷ e ∷ f ∷ []) (sep_for x 58 (form_at clock_picture t 2 h (omega arith)) refl)
          ∙ ap (λ z. a ∷ b ∷ 58 ∷ c ∷ d ∷ z ∷ e ∷ f ∷ []) (sep_for y 58 (form_at clock_picture t 5 h (omega arith)) refl);
      hour_value = value_two a b;
      minute_value = value_two c d;
      second_value = value_two e f;
    }
clock_spelled [] h = absurd (omega (arith, form_length clock_picture [] h))
clock_spelled (a ∷ []) h = absurd (omega (arith, form_length clock_picture (a ∷ []) h))
clock_spelled (a ∷ b ∷ []) h = absurd (omega (arith, form_length clock_picture (a ∷ b ∷ []) h))
clock_spelled (a ∷ b ∷ c ∷ []) h = absurd (omega (arith, form_length clock_picture (a ∷ b ∷ c ∷ []) h))
clock_spelled (a ∷ b ∷ c ∷ d ∷ []) h = absurd (omega (arith, form_length clock_picture (a ∷ b ∷ c ∷ d ∷ []) h))
clock_spelled (a ∷ b ∷ c ∷ d ∷ e ∷ []) h = absurd (omega (arith, form_length clock_picture (a ∷ b ∷ c ∷ d ∷ e ∷ []) h))
clock_spelled (a ∷ b ∷ c ∷ d ∷ e ∷ f ∷ []) h = absurd (omega (arith, form_length clock_picture (a ∷ b ∷ c ∷ d ∷ e ∷ f ∷ []) h))
clock_spelled (a ∷ b ∷ c ∷ d ∷ e ∷ f ∷ g ∷ []) h = absurd (omega (arith, form_length clock_picture (a ∷ b ∷ c ∷ d ∷ e ∷ f ∷ g ∷ []) h))
clock_spelled (a ∷ b ∷ c ∷ d ∷ e ∷ f ∷ g ∷ i ∷ j ∷ t) h = absurd (omega (arith, form_length clock_picture (a ∷ b ∷ c ∷ d ∷ e ∷ f ∷ g ∷ i ∷ j ∷ t) h))

-- a picture without a `9` is the only text of its form
form_same : (p t : List ℕ) → list_all (λ c. not (eqb c 57)) p ≡ true → has_form p t ≡ true → t ≡ p
form_same [] [] n h = refl
form_same [] (c ∷ t) n h = absurd (omega (arith, form_length [] (c ∷ t) h))
form_same (q ∷ p) [] n h = absurd (omega (arith, form_length (q ∷ p) [] h))
form_same (q ∷ p) (c ∷ t) n h =
    let plain = and_parts (not (eqb q 57)) (list_all (λ d. not (eqb d 57)) p) n in
    let parts = form_uncons q p c t h in
    ap (λ d. d ∷ t) (sep_for c q parts.0 (not-true (eqb q 57) plain.0)) ∙ ap (λ r. q ∷ r) (form_same p t plain.1 parts.1)

-- the end of the day
day_end_clock : Clock (codes "24:00:00")
unfolding field
day_end_clock = record {
  hour = 50 ∷ 52 ∷ [];
  minute = 48 ∷ 48 ∷ [];
  second = 48 ∷ 48 ∷ [];
  hour_digits = (refl, refl);
  minute_digits = (refl, refl);
  second_digits = (refl, refl);
  spelled = refl;
  hour_value = refl;
  minute_value = refl;
  second_value = refl;
}

TimeIn : List ℕ → List ℕ → Type 0
TimeIn fraction time = (clock : Clock time) × IsTimeOfDay (value clock.hour) (value clock.minute) (value clock.second) fraction

day_end : (time fraction : List ℕ) → time ≡ codes "24:00:00" → is_zero_fraction fraction ≡ true → TimeIn fraction time
unfolding TimeIn day_end_clock
day_end time fraction e h = subst (TimeIn fraction) (sym e) (day_end_clock, inr (refl, (refl, (refl, h))))

time_spelled : (time fraction : List ℕ) → is_time_with_fraction time fraction ≡ true → TimeIn fraction time
unfolding TimeIn is_time_with_fraction is_time
time_spelled time fraction h =
    let form = has_form (codes "99:99:99") time in
    let hours = leb (field 0 time) 23 in
    let minutes = leb (field 3 time) 59 in
    let seconds = leb (field 6 time) 59 in
    elim (or_cases (form && hours && minutes && seconds) (has_form (codes "24:00:00") time && is_zero_fraction fraction) h) [
      | inl l ↦
          (let third = and_parts (form && hours && minutes) seconds l in
          let second = and_parts (form && hours) minutes third.0 in
          let first = and_parts form hours second.0 in
          let clock = clock_spelled time first.0 in (
            clock,
            inl (
              subst (λ n. n ≤ 23) clock.hour_value (leb-true (field 0 time) 23 first.1),
              (
                subst (λ n. n ≤ 59) clock.minute_value (leb-true (field 3 time) 59 second.1),
                subst (λ n. n ≤ 59) clock.second_value (leb-true (field 6 time) 59 third.1),
              ),
            ),
          ))
      | inr r ↦
          (let parts = and_parts (has_form (codes "24:00:00") time) (is_zero_fraction fraction) r in
          let same = form_same (codes "24:00:00") time refl parts.0 in
          day_end time fraction same parts.1)
    ]

-- ---- day
record Day (year : ℕ) (text : List ℕ) : Type 0 where
  month : List ℕ
  day : List ℕ
  month_digits : IsTwoDigits month
  day_digits : IsTwoDigits day
  spelled : text ≡ month ++ minus ∷ day
  month_from : 1 ≤ value month
  month_to : value month ≤ 12
  day_from : 1 ≤ value day
  day_to : value day ≤ days_in_month year (value month)

day_spelled : (year : ℕ) (t : List ℕ) → is_day year t ≡ true → Day year t
unfolding is_day
day_spelled year t h =
    let form = has_form (codes "99-99") t in
    let a = leb 1 (field 0 t) in
    let b = leb (field 0 t) 12 in
    let c = leb 1 (field 3 t) in
    let d = leb (field 3 t) (days_in_month year (field 0 t)) in
    let fourth = and_parts (form && a && b && c) d h in
    let third = and_parts (form && a && b) c fourth.0 in
    let second = and_parts (form && a) b third.0 in
    let first = and_parts form a second.0 in
    let pair = pair_spelled minus t refl first.0 in
    record {
      month = pair.front;
      day = pair.back;
      month_digits = pair.front_digits;
      day_digits = pair.back_digits;
      spelled = pair.spelled;
      month_from = subst (λ n. 1 ≤ n) pair.front_value (leb-true 1 (field 0 t) first.1);
      month_to = subst (λ n. n ≤ 12) pair.front_value (leb-true (field 0 t) 12 second.1);
      day_from = subst (λ n. 1 ≤ n) pair.back_value (leb-true 1 (field 3 t) third.1);
      day_to = subst (λ n. n ≤ days_in_month year (value pair.front)) pair.back_value
          (subst (λ n. field 3 t ≤ days_in_month year n) pair.front_value (leb-true (field 3 t) (days_in_month year (field 0 t)) fourth.1));
    }

-- ---- the whole text
record Minus (text : List ℕ) : Type 0 where
  sign : List ℕ
  is_sign : (sign ≡ []) ⊎ (sign ≡ minus ∷ [])
  spelled : text ≡ sign ++ without_minus text

minus_of : (text : List ℕ) → Minus text
minus_of [] = record { sign = []; is_sign = inl refl; spelled = refl }
minus_of (c ∷ cs) = by_first (eqb c minus) refl
  where
    by_first : (b : Bool) → eqb c minus ≡ b → Minus (c ∷ cs)
    by_first true e = record {
      sign = minus ∷ [];
      is_sign = inr refl;
      spelled = ap (λ d. d ∷ cs) (eqb-true c minus e) ∙ ap (λ r. minus ∷ r) (sym (ap (λ b. cond b (drop 1 (c ∷ cs)) (c ∷ cs)) e));
    }
    by_first false e = record { sign = []; is_sign = inl refl; spelled = sym (ap (λ b. cond b (drop 1 (c ∷ cs)) (c ∷ cs)) e) }

-- the text behind a year, cut at its places
cut_rest : (rest : List ℕ) → 14 ≤ length rest → slice_index rest 5 ≡ 84 →
    rest ≡ take 5 rest ++ 84 ∷ (take 8 (drop 6 rest) ++ (take (fraction_len (drop 14 rest)) (drop 14 rest) ++ drop (fraction_len (drop 14 rest)) (drop 14 rest)))
cut_rest rest n s =
    let tail = drop 14 rest in
    sym (take-append-drop 5 rest)
    ∙ ap (λ r. take 5 rest ++ r) (drop-cons rest 5 0 (omega arith) ∙ ap (λ c. c ∷ drop 6 rest) s)
    ∙ ap (λ r. take 5 rest ++ 84 ∷ r) (sym (take-append-drop 8 (drop 6 rest)) ∙ ap (λ r. take 8 (drop 6 rest) ++ r) (drop-drop 8 6 rest))
    ∙ ap (λ r. take 5 rest ++ 84 ∷ (take 8 (drop 6 rest) ++ r)) (sym (take-append-drop (fraction_len tail) tail))

spelled : (text : List ℕ) → is_date_time text ≡ true → SpellsDateTime text
unfolding TimeIn is_date_time is_day_and_time
spelled text h =
    let body = without_minus text in
    let n = position_or_len (λ c. eqb c minus) body in
    let year = before_first (λ c. eqb c minus) body in
    let rest = after_first (λ c. eqb c minus) body in
    let tail = drop 14 rest in
    let outer = and_parts (is_year year) (is_day_and_time (value year) rest) h in
    let long : 14 ≤ length rest = elim (cases_lt (length rest) 14) [ inl l ↦ absurd (false≢true (day_and_time_short (value year) rest l ∙ outer.1)) | inr l ↦ l ] in
    let inside : n < length body = elim (cases_lt n (length body)) [ inl l ↦ l | inr l ↦ absurd (let none : rest ≡ [] = drop_all (n + 1) body (omega arith) in omega (arith, long, ap length none)) ] in
    let at : get_or body n 0 ≡ minus = eqb-true (get_or body n 0) minus (passes_at_first (λ c. eqb c minus) body 0 inside) in
    let cut : body ≡ year ++ minus ∷ rest = split_at_first (λ c. eqb c minus) body 0 inside ∙ ap (λ c. year ++ c ∷ rest) at in
    let start = minus_of text in
    let day_test = is_day (value year) (take 5 rest) in
    let letter = eqb (slice_index rest 5) 84 in
    let time_test = is_time_with_fraction (take 8 (drop 6 rest)) (take (fraction_len tail) tail) in
    let third = and_parts (day_test && letter && time_test) (is_zone (drop (fraction_len tail) tail)) outer.1 in
    let second = and_parts (day_test && letter) time_test third.0 in
    let first = and_parts day_test letter second.0 in
    let day = day_spelled (value year) (take 5 rest) first.0 in
    let time = time_spelled (take 8 (drop 6 rest)) (take (fraction_len tail) tail) second.1 in
    let fraction = take (fraction_len tail) tail in
    let zone = drop (fraction_len tail) tail in
    record {
      sign = start.sign;
      year = year;
      month = day.month;
      day = day.day;
      hour = time.0.hour;
      minute = time.0.minute;
      second = time.0.second;
      fraction = fraction;
      zone = zone;
      spelled = start.spelled ∙ ap (λ r. start.sign ++ r) cut
          ∙ ap (λ r. start.sign ++ (year ++ minus ∷ r)) (cut_rest rest long (eqb-true (slice_index rest 5) 84 first.1))
          ∙ ap (λ r. start.sign ++ (year ++ minus ∷ (r ++ 84 ∷ (take 8 (drop 6 rest) ++ (fraction ++ zone))))) day.spelled
          ∙ ap (λ r. start.sign ++ (year ++ minus ∷ ((day.month ++ minus ∷ day.day) ++ 84 ∷ (r ++ (fraction ++ zone))))) time.0.spelled;
      sign_form = start.is_sign;
      year_form = outer.0;
      month_digits = day.month_digits;
      month_from = day.month_from;
      month_to = day.month_to;
      day_digits = day.day_digits;
      day_from = day.day_from;
      day_to = day.day_to;
      hour_digits = time.0.hour_digits;
      minute_digits = time.0.minute_digits;
      second_digits = time.0.second_digits;
      time_of_day = time.1;
      fraction_form = fraction_spelled tail;
      zone_form = zone_spelled zone third.1;
    }

-- ---- what is spelled passes
or_right : (x y : Bool) → y ≡ true → (x || y) ≡ true
or_right true y h = refl
or_right false y h = h

or_left : (x y : Bool) → x ≡ true → (x || y) ≡ true
or_left x y h = ap (λ b. b || y) h

pair_form : (a b x c d : ℕ) → is_ascii_digit a ≡ true → is_ascii_digit b ≡ true → stands_for x x ≡ true → is_ascii_digit c ≡ true → is_ascii_digit d ≡ true →
    has_form (57 ∷ 57 ∷ x ∷ 57 ∷ 57 ∷ []) (a ∷ b ∷ x ∷ c ∷ d ∷ []) ≡ true
pair_form a b x c d ha hb hx hc hd =
    form_cons 57 (57 ∷ x ∷ 57 ∷ 57 ∷ []) a (b ∷ x ∷ c ∷ d ∷ []) ha
    (form_cons 57 (x ∷ 57 ∷ 57 ∷ []) b (x ∷ c ∷ d ∷ []) hb
    (form_cons x (57 ∷ 57 ∷ []) x (c ∷ d ∷ []) hx
    (form_cons 57 (57 ∷ []) c (d ∷ []) hc
    (form_cons 57 [] d [] hd form_nil))))

field_first : (a b : ℕ) (t : List ℕ) → field 0 (a ∷ b ∷ t) ≡ value (a ∷ b ∷ [])
unfolding field
field_first a b t = value_two a b

field_second : (a b x c d : ℕ) (t : List ℕ) → field 3 (a ∷ b ∷ x ∷ c ∷ d ∷ t) ≡ value (c ∷ d ∷ [])
unfolding field
field_second a b x c d t = value_two c d

field_third : (a b x c d y e f : ℕ) (t : List ℕ) → field 6 (a ∷ b ∷ x ∷ c ∷ d ∷ y ∷ e ∷ f ∷ t) ≡ value (e ∷ f ∷ [])
unfolding field
field_third a b x c d y e f t = value_two e f

day_passes : (year a b c d : ℕ) → is_ascii_digit a ≡ true → is_ascii_digit b ≡ true → is_ascii_digit c ≡ true → is_ascii_digit d ≡ true →
    1 ≤ value (a ∷ b ∷ []) → value (a ∷ b ∷ []) ≤ 12 → 1 ≤ value (c ∷ d ∷ []) → value (c ∷ d ∷ []) ≤ days_in_month year (value (a ∷ b ∷ [])) → is_day year (a ∷ b ∷ minus ∷ c ∷ d ∷ []) ≡ true
unfolding is_day
day_passes year a b c d ha hb hc hd m1 m2 d1 d2 =
    let t = a ∷ b ∷ minus ∷ c ∷ d ∷ [] in
    let month = field_first a b (minus ∷ c ∷ d ∷ []) in
    let day = field_second a b minus c d [] in
    let form = has_form (codes "99-99") t in
    let p = leb 1 (field 0 t) in
    let q = leb (field 0 t) 12 in
    let r = leb 1 (field 3 t) in
    let s = leb (field 3 t) (days_in_month year (field 0 t)) in
    and_from (form && p && q && r) s
    (and_from (form && p && q) r
    (and_from (form && p) q
    (and_from form p (pair_form a b minus c d ha hb refl hc hd) (le-leb 1 (field 0 t) (subst (λ n. 1 ≤ n) (sym month) m1)))
    (le-leb (field 0 t) 12 (subst (λ n. n ≤ 12) (sym month) m2)))
    (le-leb 1 (field 3 t) (subst (λ n. 1 ≤ n) (sym day) d1)))
    (le-leb (field 3 t) (days_in_month year (field 0 t)) (subst (λ n. field 3 t ≤ days_in_month year n) (sym month) (subst (λ n. n ≤ days_in_month year (value (a ∷ b ∷ []))) (sym day) d2)))

clock_form : (a b c d e f : ℕ) → is_ascii_digit a ≡ true → is_ascii_digit b ≡ true → is_ascii_digit c ≡ true → is_ascii_digit d ≡ true →
    is_ascii_digit e ≡ true → is_ascii_digit f ≡ true → has_form clock_picture (a ∷ b ∷ 58 ∷ c ∷ d ∷ 58 ∷ e ∷ f ∷ []) ≡ true
clock_form a b c d e f ha hb hc hd he hf =
    form_cons 57 (57 ∷ 58 ∷ 57 ∷ 57 ∷ 58 ∷ 57 ∷ 57 ∷ []) a (b ∷ 58 ∷ c ∷ d ∷ 58 ∷ e ∷ f ∷ []) ha
    (form_cons 57 (58 ∷ 57 ∷ 57 ∷ 58 ∷ 57 ∷ 57 ∷ []) b (58 ∷ c ∷ d ∷ 58 ∷ e ∷ f ∷ []) hb
    (form_cons 58 (57 ∷ 57 ∷ 58 ∷ 57 ∷ 57 ∷ []) 58 (c ∷ d ∷ 58 ∷ e ∷ f ∷ []) refl
    (pair_form c d 58 e f hc hd refl he hf)))

-- two digits of a value are the digits of that value
digits_of_value : (a b m n : ℕ) → is_ascii_digit a ≡ true → is_ascii_digit b ≡ true → m < 10 → n < 10 → value (a ∷ b ∷ []) ≡ 10 * m + n → (a ≡ 48 + m) × (b ≡ 48 + n)
digits_of_value a b m n ha hb hm hn e =
    let p = digit_bound a ha in
    let q = digit_bound b hb in
    let two = value_two a b in
    (omega arith, omega arith)

time_passes : (a b c d e f : ℕ) (fraction : List ℕ) → is_ascii_digit a ≡ true → is_ascii_digit b ≡ true → is_ascii_digit c ≡ true → is_ascii_digit d ≡ true →
    is_ascii_digit e ≡ true → is_ascii_digit f ≡ true → IsTimeOfDay (value (a ∷ b ∷ [])) (value (c ∷ d ∷ [])) (value (e ∷ f ∷ [])) fraction →
    is_time_with_fraction (a ∷ b ∷ 58 ∷ c ∷ d ∷ 58 ∷ e ∷ f ∷ []) fraction ≡ true
unfolding is_time_with_fraction is_time
time_passes a b c d e f fraction ha hb hc hd he hf (inl (h, (m, s))) =
    let t = a ∷ b ∷ 58 ∷ c ∷ d ∷ 58 ∷ e ∷ f ∷ [] in
    let form = has_form (codes "99:99:99") t in
    let p = leb (field 0 t) 23 in
    let q = leb (field 3 t) 59 in
    let r = leb (field 6 t) 59 in
    or_left (form && p && q && r) (has_form (codes "24:00:00") t && is_zero_fraction fraction)
    (and_from (form && p && q) r
    (and_from (form && p) q
    (and_from form p (clock_form a b c d e f ha hb hc hd he hf) (le-leb (field 0 t) 23 (subst (λ n. n ≤ 23) (sym (field_first a b (58 ∷ c ∷ d ∷ 58 ∷ e ∷ f ∷ []))) h)))
    (le-leb (field 3 t) 59 (subst (λ n. n ≤ 59) (sym (field_second a b 58 c d (58 ∷ e ∷ f ∷ []))) m)))
    (le-leb (field 6 t) 59 (subst (λ n. n ≤ 59) (sym (field_third a b 58 c d 58 e f [])) s)))
time_passes a b c d e f fraction ha hb hc hd he hf (inr (h, (m, (s, z)))) =
    let hour = digits_of_value a b 2 4 ha hb (omega arith) (omega arith) h in
    let minute = digits_of_value c d 0 0 hc hd (omega arith) (omega arith) m in
    let second = digits_of_value e f 0 0 he hf (omega arith) (omega arith) s in
    let t = a ∷ b ∷ 58 ∷ c ∷ d ∷ 58 ∷ e ∷ f ∷ [] in
    let same : t ≡ codes "24:00:00" =
    ap (λ y. y ∷ b ∷ 58 ∷ c ∷ d ∷ 58 ∷ e ∷ f ∷ []) hour.0 ∙ ap (λ y. 50 ∷ y ∷ 58 ∷ c ∷ d ∷ 58 ∷ e ∷ f ∷ []) hour.1
    ∙ ap (λ y. 50 ∷ 52 ∷ 58 ∷ y ∷ d ∷ 58 ∷ e ∷ f ∷ []) minute.0 ∙ ap (λ y. 50 ∷ 52 ∷ 58 ∷ 48 ∷ y ∷ 58 ∷ e ∷ f ∷ []) minute.1
    ∙ ap (λ y. 50 ∷ 52 ∷ 58 ∷ 48 ∷ 48 ∷ 58 ∷ y ∷ f ∷ []) second.0 ∙ ap (λ y. 50 ∷ 52 ∷ 58 ∷ 48 ∷ 48 ∷ 58 ∷ 48 ∷ y ∷ []) second.1 in
    let form : has_form (codes "24:00:00") t ≡ true = ap (has_form (codes "24:00:00")) same ∙ form_itself in
    or_right (has_form (codes "99:99:99") t && leb (field 0 t) 23 && leb (field 3 t) 59 && leb (field 6 t) 59) (has_form (codes "24:00:00") t && is_zero_fraction fraction)
    (and_from (has_form (codes "24:00:00") t) (is_zero_fraction fraction) form z)

-- where a fraction ends
prefix_ahead : (ds rest : List ℕ) → are_digits ds ≡ true → prefix_len is_ascii_digit rest ≡ 0 → prefix_len is_ascii_digit (ds ++ rest) ≡ length ds
prefix_ahead [] rest h e = e
prefix_ahead (c ∷ ds) rest h e =
    let parts = first_digit c ds h in
    ap (λ b. cond b (1 + prefix_len is_ascii_digit (ds ++ rest)) 0) parts.0 ∙ ap (λ n. 1 + n) (prefix_ahead ds rest parts.1 e) ∙ omega arith

-- no digit and no point begins a zone
record Ends (zone : List ℕ) : Type 0 where
  no_digit : prefix_len is_ascii_digit zone ≡ 0
  no_fraction : fraction_len zone ≡ 0

ends_at : (c : ℕ) (cs : List ℕ) → is_ascii_digit c ≡ false → eqb c point ≡ false → Ends (c ∷ cs)
unfolding fraction_len
ends_at c cs h k = record {
  no_digit = ap (λ b. cond b (1 + prefix_len is_ascii_digit cs) 0) h;
  no_fraction = ap (λ b. cond (b && ltb 0 (prefix_len is_ascii_digit cs)) (1 + prefix_len is_ascii_digit cs) 0) k;
}

ends_empty : Ends []
unfolding fraction_len
ends_empty = record { no_digit = refl; no_fraction = refl }

sign_ends : (c : ℕ) → is_sign c ≡ true → (is_ascii_digit c ≡ false) × (eqb c point ≡ false)
sign_ends c h = elim (or_cases (eqb c plus) (eqb c minus) h) [
  | inl e ↦ (ap is_ascii_digit (eqb-true c plus e), ap (λ d. eqb d point) (eqb-true c plus e))
  | inr e ↦ (ap is_ascii_digit (eqb-true c minus e), ap (λ d. eqb d point) (eqb-true c minus e))
]

zone_ends : (zone : List ℕ) → IsZone zone → Ends zone
zone_ends zone (no_zone e) = subst Ends (sym e) ends_empty
zone_ends zone (utc e) = subst Ends (sym e) (ends_at 90 [] refl refl)
zone_ends zone (offset sign hours minutes e s h m r) =
    let other = sign_ends sign s in
    subst Ends (sym e) (ends_at sign (hours ++ 58 ∷ minutes) other.0 other.1)

fraction_ahead : (fraction zone : List ℕ) → IsFraction fraction → Ends zone → fraction_len (fraction ++ zone) ≡ length fraction
unfolding fraction_len
fraction_ahead fraction zone (inl e) z = ap (λ f. fraction_len (f ++ zone)) e ∙ z.no_fraction ∙ ap length (sym e)
fraction_ahead fraction zone (inr (ds, e, h)) z =
    let parts = and_parts (ltb 0 (length ds)) (are_digits ds) h in
    let n : prefix_len is_ascii_digit (ds ++ zone) ≡ length ds = prefix_ahead ds zone parts.1 z.no_digit in
    ap (λ f. fraction_len (f ++ zone)) e
    ∙ ap (λ k. cond (ltb 0 k) (1 + k) 0) n
    ∙ ap (λ b. cond b (1 + length ds) 0) parts.0
    ∙ omega (arith, ap length e)

offset_passes : (hours minutes : List ℕ) → IsTwoDigits hours → IsTwoDigits minutes → IsOffset (value hours) (value minutes) → is_offset (hours ++ 58 ∷ minutes) ≡ true
unfolding is_offset
offset_passes hours minutes h m r =
    let p = two_of hours h in
    let q = two_of minutes m in
    let t = p.tens ∷ p.ones ∷ 58 ∷ q.tens ∷ q.ones ∷ [] in
    let same : hours ++ 58 ∷ minutes ≡ t = ap (λ x. x ++ 58 ∷ minutes) p.spelled ∙ ap (λ x. p.tens ∷ p.ones ∷ 58 ∷ x) q.spelled in
    let hour : field 0 t ≡ value hours = field_first p.tens p.ones (58 ∷ q.tens ∷ q.ones ∷ []) ∙ ap value (sym p.spelled) in
    let minute : field 3 t ≡ value minutes = field_second p.tens p.ones 58 q.tens q.ones [] ∙ ap value (sym q.spelled) in
    let form = pair_form p.tens p.ones 58 q.tens q.ones p.tens_digit p.ones_digit refl q.tens_digit q.ones_digit in
    let early = leb (field 0 t) 13 && leb (field 3 t) 59 in
    let last = eqb (field 0 t) 14 && eqb (field 3 t) 0 in
    let ranges : (early || last) ≡ true = elim r [
      | inl l ↦ or_left early last (and_from (leb (field 0 t) 13) (leb (field 3 t) 59) (le-leb (field 0 t) 13 (subst (λ n. n ≤ 13) (sym hour) l.0)) (le-leb (field 3 t) 59 (subst (λ n. n ≤ 59) (sym minute) l.1)))
      | inr l ↦ or_right early last (and_from (eqb (field 0 t) 14) (eqb (field 3 t) 0) (eq-eqb (field 0 t) 14 (hour ∙ l.0)) (eq-eqb (field 3 t) 0 (minute ∙ l.1)))
    ] in
    ap is_offset same ∙ and_from (has_form (codes "99:99") t) (early || last) form ranges

zone_passes : (zone : List ℕ) → IsZone zone → is_zone zone ≡ true
unfolding is_zone
zone_passes zone (no_zone e) = ap is_zone e
zone_passes zone (utc e) = ap is_zone e
zone_passes zone (offset sign hours minutes e s h m r) =
    let cs = hours ++ 58 ∷ minutes in
    ap is_zone e ∙ or_right (eqb sign 90 && eqb (length cs) 0) (is_sign sign && is_offset cs)
    (and_from (is_sign sign) (is_offset cs) s (offset_passes hours minutes h m r))

rest_passes : (year a b c d e f g h i j : ℕ) (fraction zone : List ℕ) → is_day year (a ∷ b ∷ minus ∷ c ∷ d ∷ []) ≡ true →
    is_time_with_fraction (e ∷ f ∷ 58 ∷ g ∷ h ∷ 58 ∷ i ∷ j ∷ []) fraction ≡ true → IsFraction fraction → IsZone zone →
    is_day_and_time year (a ∷ b ∷ minus ∷ c ∷ d ∷ 84 ∷ e ∷ f ∷ 58 ∷ g ∷ h ∷ 58 ∷ i ∷ j ∷ (fraction ++ zone)) ≡ true
unfolding is_day_and_time
rest_passes year a b c d e f g h i j fraction zone hd ht hf hz =
    let tail = fraction ++ zone in
    let time = e ∷ f ∷ 58 ∷ g ∷ h ∷ 58 ∷ i ∷ j ∷ [] in
    let n : fraction_len tail ≡ length fraction = fraction_ahead fraction zone hf (zone_ends zone hz) in
    let front : take (fraction_len tail) tail ≡ fraction = ap (λ k. take k tail) n ∙ take-append_seam fraction zone in
    let back : drop (fraction_len tail) tail ≡ zone = ap (λ k. drop k tail) n ∙ drop-append_seam fraction zone in
    let day = is_day year (a ∷ b ∷ minus ∷ c ∷ d ∷ []) in
    let timed = is_time_with_fraction time (take (fraction_len tail) tail) in
    and_from (day && true && timed) (is_zone (drop (fraction_len tail) tail))
    (and_from (day && true) timed (and_from day true hd refl) (ap (is_time_with_fraction time) front ∙ ht))
    (ap is_zone back ∙ zone_passes zone hz)

record Year (text : List ℕ) : Type 0 where
  digits : are_digits text ≡ true
  some : 0 < length text

year_of : (text : List ℕ) → is_year text ≡ true → Year text
unfolding is_year
year_of text h =
    let longer = ltb 4 (length text) && not (eqb (slice_index text 0) zero_digit) in
    let parts = and_parts (are_digits text) (eqb (length text) 4 || longer) h in
    record {
      digits = parts.0;
      some = elim (or_cases (eqb (length text) 4) longer parts.1) [
        | inl e ↦ (let four = eqb-true (length text) 4 e in omega arith)
        | inr l ↦ (let more = ltb-true 4 (length text) (and_parts (ltb 4 (length text)) (not (eqb (slice_index text 0) zero_digit)) l).0 in omega arith)
      ];
    }

digit_no_minus : (c : ℕ) → is_ascii_digit c ≡ true → eqb c minus ≡ false
digit_no_minus c h = let digit = digit_bound c h in ne_eqb c minus (λ e. omega arith)

minus_behind : (w f : List ℕ) → are_digits w ≡ true → position_or_len (λ c. eqb c minus) (w ++ minus ∷ f) ≡ length w
minus_behind [] f h = refl
minus_behind (c ∷ w) f h =
    let parts = first_digit c w h in
    ap (λ b. cond (not b) (1 + position_or_len (λ d. eqb d minus) (w ++ minus ∷ f)) 0) (digit_no_minus c parts.0)
    ∙ ap (λ n. 1 + n) (minus_behind w f parts.1) ∙ omega arith

no_minus : (w f : List ℕ) → Year w → without_minus (w ++ f) ≡ w ++ f
no_minus [] f y = absurd (let l = y.some in omega arith)
no_minus (c ∷ w) f y =
    ap (λ b. cond b (w ++ f) (c ∷ (w ++ f))) (digit_no_minus c (first_digit c w y.digits).0)

body_of : (text sign body : List ℕ) → text ≡ sign ++ body → (sign ≡ []) ⊎ (sign ≡ minus ∷ []) → without_minus body ≡ body → without_minus text ≡ body
body_of text sign body e (inl s) h = ap without_minus (e ∙ ap (λ x. x ++ body) s) ∙ h
body_of text sign body e (inr s) h = ap without_minus (e ∙ ap (λ x. x ++ body) s)

date_time_from_parts : (text body year rest : List ℕ) → without_minus text ≡ body → before_first (λ c. eqb c minus) body ≡ year →
    after_first (λ c. eqb c minus) body ≡ rest → is_year year ≡ true → is_day_and_time (value year) rest ≡ true → is_date_time text ≡ true
unfolding is_date_time
date_time_from_parts text body year rest eb ey er hy hr =
    let tested = λ (y r : List ℕ). is_year y && is_day_and_time (value y) r in
    ap (λ x. tested (before_first (λ c. eqb c minus) x) (after_first (λ c. eqb c minus) x)) eb
    ∙ ap (λ y. tested y (after_first (λ c. eqb c minus) body)) ey
    ∙ ap (λ r. tested year r) er
    ∙ and_from (is_year year) (is_day_and_time (value year) rest) hy hr

passes : (text : List ℕ) → SpellsDateTime text → is_date_time text ≡ true
passes text s =
    let mo = two_of s.month s.month_digits in
    let da = two_of s.day s.day_digits in
    let ho = two_of s.hour s.hour_digits in
    let mi = two_of s.minute s.minute_digits in
    let se = two_of s.second s.second_digits in
    let M = mo.tens ∷ mo.ones ∷ [] in
    let D = da.tens ∷ da.ones ∷ [] in
    let H = ho.tens ∷ ho.ones ∷ [] in
    let I = mi.tens ∷ mi.ones ∷ [] in
    let S = se.tens ∷ se.ones ∷ [] in
    let Y = value s.year in
    let tail = s.fraction ++ s.zone in
    let rest = (s.month ++ minus ∷ s.day) ++ 84 ∷ ((s.hour ++ 58 ∷ (s.minute ++ 58 ∷ s.second)) ++ tail) in
    let plain = mo.tens ∷ mo.ones ∷ minus ∷ da.tens ∷ da.ones ∷ 84 ∷ ho.tens ∷ ho.ones ∷ 58 ∷ mi.tens ∷ mi.ones ∷ 58 ∷ se.tens ∷ se.ones ∷ tail in
    let same : rest ≡ plain =
    ap (λ x. (x ++ minus ∷ s.day) ++ 84 ∷ ((s.hour ++ 58 ∷ (s.minute ++ 58 ∷ s.second)) ++ tail)) mo.spelled
    ∙ ap (λ x. (M ++ minus ∷ x) ++ 84 ∷ ((s.hour ++ 58 ∷ (s.minute ++ 58 ∷ s.second)) ++ tail)) da.spelled
    ∙ ap (λ x. (M ++ minus ∷ D) ++ 84 ∷ ((x ++ 58 ∷ (s.minute ++ 58 ∷ s.second)) ++ tail)) ho.spelled
    ∙ ap (λ x. (M ++ minus ∷ D) ++ 84 ∷ ((H ++ 58 ∷ (x ++ 58 ∷ s.second)) ++ tail)) mi.spelled
    ∙ ap (λ x. (M ++ minus ∷ D) ++ 84 ∷ ((H ++ 58 ∷ (I ++ 58 ∷ x)) ++ tail)) se.spelled in
    let month = ap value mo.spelled in
    let day = ap value da.spelled in
    let hd = day_passes Y mo.tens mo.ones da.tens da.ones mo.tens_digit mo.ones_digit da.tens_digit da.ones_digit
    (subst (λ n. 1 ≤ n) month s.month_from) (subst (λ n. n ≤ 12) month s.month_to)
    (subst (λ n. 1 ≤ n) day s.day_from)
    (subst (λ n. value D ≤ days_in_month Y n) month (subst (λ n. n ≤ days_in_month Y (value s.month)) day s.day_to)) in
    let clock : IsTimeOfDay (value H) (value I) (value S) s.fraction =
    subst (λ n. IsTimeOfDay (value H) (value I) n s.fraction) (ap value se.spelled)
    (subst (λ n. IsTimeOfDay (value H) n (value s.second) s.fraction) (ap value mi.spelled)
    (subst (λ n. IsTimeOfDay n (value s.minute) (value s.second) s.fraction) (ap value ho.spelled) s.time_of_day)) in
    let ht = time_passes ho.tens ho.ones mi.tens mi.ones se.tens se.ones s.fraction ho.tens_digit ho.ones_digit mi.tens_digit mi.ones_digit se.tens_digit se.ones_digit clock in
    let hr = rest_passes Y mo.tens mo.ones da.tens da.ones ho.tens ho.ones mi.tens mi.ones se.tens se.ones s.fraction s.zone hd ht s.fraction_form s.zone_form in
    let y = year_of s.year s.year_form in
    let end = minus_behind s.year rest y.digits in
    let body = s.year ++ minus ∷ rest in
    date_time_from_parts text body s.year rest (body_of text s.sign body s.spelled s.sign_form (no_minus s.year (minus ∷ rest) y))
    (ap (λ n. take n body) end ∙ take_before s.year rest minus)
    (ap (λ n. drop (n + 1) body) end ∙ drop_behind s.year rest minus)
    s.year_form (ap (is_day_and_time Y) same ∙ hr)

pub date_times_are_spelled : DateTimesAreSpelled
date_times_are_spelled text = (spelled text, passes text)
