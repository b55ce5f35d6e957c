-- Whole numbers.
use Rattle.std.proofs.Common.{◌≡◌, ◌≢◌, ℕ, ◌<◌, ◌^◌, Bool, true, false, ◌&&◌, cond, List, [], ◌∷◌, length, get_or, Option, Some, None, Result, Ok, Err, refl, sym, ap, ◌∙◌, arith, nat_lt, nat_eq, OkIff, true≢false, rules}
use Rattle.std.specs.Bool.{Decides}
use Rattle.std.specs.Str.{all_ascii_digits}
use Rattle.std.specs.Str.Parse.{digits_value, ParsesUnsigned}
use Rattle.std.proofs.lemmas.Bool.{eqb-true}
use Rattle.std.proofs.lemmas.Str.Parse.{IsNumeralModel, numerals_by_value, tells_all_ascii_digits, parse_plain}
use Rattle.shexc_constraints.specs.Meanings.{count_of, unsigned, is_minus}

own : IsNumeralModel (λ ds. all_ascii_digits ds ≡ true) (digits_value 10)
own = numerals_by_value (λ ds. all_ascii_digits ds ≡ true) tells_all_ascii_digits

-- what `parse` answers, as an option
abbrev pub found : {E : Type 0} → Result ℕ E → Option ℕ
found (Ok n) = Some n
found (Err e) = None

counted : (a b c : Bool) (v : ℕ) → a ≡ true → b ≡ true → c ≡ true → cond (a && (b && c)) (Some v) None ≡ Some v
counted a b c v p q r = rw (p, q, r) refl

missed : (a b c : Bool) (v : ℕ) → (a ≡ true → b ≡ true → c ≡ true → ⊥) → cond (a && (b && c)) (Some v) None ≡ None
missed true true true v h = absurd (h refl refl refl)
missed true true false v h = refl
missed true false c v h = refl
missed false b c v h = refl

by_parse : {E : Type 0} (ds : List ℕ) (r : Result ℕ E) → OkIff r ((all_ascii_digits ds ≡ true) × (0 < length ds) × (digits_value 10 ds < 2 ^ 32)) (digits_value 10 ds) → count_of ds ≡ found r
unfolding count_of
by_parse ds (Ok n) ((a, b, c), e) = counted (all_ascii_digits ds) (nat_lt 0 (length ds)) (nat_lt (digits_value 10 ds) (2 ^ 32)) (digits_value 10 ds) a (search rules) (search rules) ∙ ap Some (sym e)
by_parse ds (Err e) h = missed (all_ascii_digits ds) (nat_lt 0 (length ds)) (nat_lt (digits_value 10 ds) (2 ^ 32)) (digits_value 10 ds) (λ a b c. h (a, search rules, search rules))

pub count_read : {E : Type 0} (ds : List ℕ) (r : Result ℕ E) → ParsesUnsigned 32 10 ds r → get_or ds 0 0 ≢ 43 → count_of ds ≡ found r
count_read {E = E} ds r h plus = by_parse ds r (parse_plain own {E = E} 32 ds r h plus)

-- behind `+` there is none
pub plus_none : (ds : List ℕ) → get_or ds 0 0 ≡ 43 → count_of ds ≡ None
unfolding count_of
plus_none [] e = absurd (omega arith)
plus_none (c ∷ cs) e = rw e refl

pub not_true : (b : Bool) (P : Type 0) → Decides b P → b ≡ false → ¬ P
not_true b P d is p = true≢false (sym (d.1 p) ∙ is)

-- a text without a sign in front
left_alone : (a b : Bool) (c : ℕ) (cs : List ℕ) → (a ≡ true → ⊥) → (b ≡ true → ⊥) → c ∷ cs ≡ cond a cs (cond b cs (c ∷ cs))
left_alone true b c cs h k = absurd (h refl)
left_alone false true c cs h k = absurd (k refl)
left_alone false false c cs h k = refl

pub no_sign : (bs : List ℕ) → ((rest : List ℕ) → bs ≢ 45 ∷ rest) → ((rest : List ℕ) → bs ≢ 43 ∷ rest) → bs ≡ unsigned bs
no_sign [] h k = refl
no_sign (c ∷ cs) h k = left_alone (nat_eq c 45) (nat_eq c 43) c cs (λ e. h cs (ap (λ x. x ∷ cs) (eqb-true c 45 e))) (λ e. k cs (ap (λ x. x ∷ cs) (eqb-true c 43 e)))

-- a text with `-` in front
by_decision : (b c : Bool) → (b ≡ true → c ≡ true) → (c ≡ true → b ≡ true) → b ≡ c
by_decision true true h k = refl
by_decision false false h k = refl
by_decision true false h k = sym (h refl)
by_decision false true h k = k refl

minus_at : (text : List ℕ) → get_or text 0 0 ≡ 45 → is_minus text ≡ true
minus_at [] e = absurd (omega (arith, e))
minus_at (c ∷ cs) e = rw e refl

at_minus : (text : List ℕ) → is_minus text ≡ true → get_or text 0 0 ≡ 45
at_minus [] e = absurd cc
at_minus (c ∷ cs) e = eqb-true c 45 e

pub minus_in_front : (text : List ℕ) (b : Bool) → Decides b (get_or text 0 0 ≡ 45) → b ≡ is_minus text
minus_in_front text b d = by_decision b (is_minus text) (λ e. minus_at text (d.0 e)) (λ e. d.1 (at_minus text e))
