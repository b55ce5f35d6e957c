-- Words ask for one request.
use Rattle.std.proofs.Common.{◌≡◌, ◌<◌, ◌∙◌, ℕ, List, ◌∷◌, refl, sym, ap, subst, length, codes, arith, lit<}
use Rattle.std.specs.Prelude.{Option, Some, None}
use Rattle.std.proofs.lemmas.Fmt.{digits_value-decimal}
use Rattle.std.proofs.lemmas.Str.Parse.{IsNumeralModel, numerals_by_value, tells_digits}
use Rattle.std.specs.Str.Parse.{AllDigits, digits_value}
use Rattle.clap.specs.Words.{App, Row, Text}
use Rattle.command_words.specs.Commands.{rows}
use Rattle.command_words.specs.Requests.{Asks, Given, IsBudget, IsGiven, IsTask, Request, Task, checking, command_for, name_of, upgrading, validation}

pub own : IsNumeralModel (AllDigits 10) (digits_value 10)
own = numerals_by_value (AllDigits 10) tells_digits

-- texts of other lengths are other texts
pub longer : (x y : Text) (m n : ℕ) → length x ≡ m → length y ≡ n → n < m → x ≡ y → ⊥
longer x y m n p q l e = let same : length x ≡ length y = ap length e in omega (arith, p, q)

pub no_check : codes "validate" ≡ codes "check" → ⊥
no_check = longer (codes "validate") (codes "check") 8 5 refl refl (lit< tt)

pub no_upgrade : codes "validate" ≡ codes "upgrade" → ⊥
no_upgrade = longer (codes "validate") (codes "upgrade") 8 7 refl refl (lit< tt)

pub upgrade_no_check : codes "upgrade" ≡ codes "check" → ⊥
upgrade_no_check = longer (codes "upgrade") (codes "check") 7 5 refl refl (lit< tt)

pub one_value : {X : Type 0} (o : Option X) (x y : X) → o ≡ Some x → o ≡ Some y → x ≡ y
one_value o x y p q = let e : Some x ≡ Some y = sym p ∙ q in cc

pub one_budget : (o : Option Text) (m n : ℕ) → IsBudget o m → IsBudget o n → m ≡ n
one_budget None m n p q = p ∙ sym q
one_budget (Some text) m n (p, a, b) (q, c, d) =
    sym (digits_value-decimal own m (omega arith)) ∙ ap (digits_value 10) (sym p ∙ q) ∙ digits_value-decimal own n (omega arith)

one_task : (found : List Row) (t u : Task) → name_of t ≡ name_of u → IsTask found t → IsTask found u → t ≡ u
one_task found (validation m p n) (validation k q o) e a b =
    let maps : m ≡ k = one_value _ m k a.map_file b.map_file in
    let proofs : p ≡ q = sym a.proof ∙ b.proof in
    let budgets : n ≡ o = one_budget _ n o a.is_budget b.is_budget in
    cc
one_task found (validation m p n) (checking q) e a b = absurd (no_check e)
one_task found (validation m p n) (upgrading q t) e a b = absurd (no_upgrade e)
one_task found (checking p) (validation k q o) e a b = absurd (no_check (sym e))
one_task found (checking p) (checking q) e a b = ap checking (one_value _ p q a b)
one_task found (checking p) (upgrading q t) e a b = absurd (upgrade_no_check (sym e))
one_task found (upgrading p s) (validation k q o) e a b = absurd (no_upgrade (sym e))
one_task found (upgrading p s) (checking q) e a b = absurd (upgrade_no_check e)
one_task found (upgrading p s) (upgrading q t) e a b =
    let proofs : p ≡ q = one_value _ p q a.proof b.proof in
    let files : s ≡ t = one_value _ s t a.to_file b.to_file in
    cc

same_command : (t u : Task) → name_of t ≡ name_of u → command_for t ≡ command_for u
same_command (validation m p n) (validation k q o) e = refl
same_command (validation m p n) (checking q) e = absurd (no_check e)
same_command (validation m p n) (upgrading q t) e = absurd (no_upgrade e)
same_command (checking p) (validation k q o) e = absurd (no_check (sym e))
same_command (checking p) (checking q) e = refl
same_command (checking p) (upgrading q t) e = absurd (upgrade_no_check (sym e))
same_command (upgrading p s) (validation k q o) e = absurd (no_upgrade (sym e))
same_command (upgrading p s) (checking q) e = absurd (upgrade_no_check e)
same_command (upgrading p s) (upgrading q t) e = refl

pub one_given : (found : List Row) (g h : Given) → IsGiven found g → IsGiven found h → g ≡ h
one_given found g h a b = λ k. record {
  schema = one_value _ g.schema h.schema a.schema b.schema k;
  data_file = one_value _ g.data_file h.data_file a.data_file b.data_file k;
  schema_base = (sym a.schema_base ∙ b.schema_base) k;
  data_base = (sym a.data_base ∙ b.data_base) k;
  import_words = (sym a.import_words ∙ b.import_words) k;
}

heads : {x y : Text} {xs ys : List Text} → x ∷ xs ≡ y ∷ ys → x ≡ y
heads e = cc

tails : {x y : Text} {xs ys : List Text} → x ∷ xs ≡ y ∷ ys → xs ≡ ys
tails e = cc

pub one_request : (words : List Text) (r s : Request) → Asks words r → Asks words s → r ≡ s
one_request words r s a b =
    let values : r.given ≡ s.given = one_given (rows (command_for r.task) a.behind) r.given s.given a.found.given same_values in
    λ k. record { given = values k; task = tasks k }
  where
    whole : name_of r.task ∷ a.behind ≡ name_of s.task ∷ b.behind
    whole = sym a.named ∙ b.named

    kinds : rows (command_for s.task) b.behind ≡ rows (command_for r.task) a.behind
    kinds = ap (λ (app : App). rows app b.behind) (same_command s.task r.task (sym (heads whole))) ∙ ap (rows (command_for r.task)) (sym (tails whole))

    same_values : IsGiven (rows (command_for r.task) a.behind) s.given
    same_values = subst (λ (found : List Row). IsGiven found s.given) kinds b.found.given

    tasks : r.task ≡ s.task
    tasks = one_task (rows (command_for r.task) a.behind) r.task s.task (heads whole) a.found.asked (subst (λ (found : List Row). IsTask found s.task) kinds b.found.asked)
