-- Words ask for one drill, or for one command, or have one first fault.
use Rattle.std.proofs.Common.{◌≡◌, ◌∙◌, ◌<◌, ◌≤◌, ◌^◌, ℕ, List, ◌∷◌, arith, codes, get_or, lit<, refl, sym, ap, subst}
use Rattle.std.specs.Prelude.{Result, Ok, Err, IfErr, IfOk, IsErrAnd}
use Rattle.std.proofs.lemmas.Fmt.{decimal_injective, digits_value-decimal}
use Rattle.std.specs.Fmt.{decimal}
use Rattle.std.specs.Str.Parse.{digits_value}
use Rattle.clap.specs.Words.{Row, Text}
use Rattle.command_words.specs.declared.command.Call.{Call as LentCall}
use Rattle.command_words.specs.declared.command.Call.TheVariants as Calls
use Rattle.command_words.specs.declared.command.Drilling.{Drilling}
use Rattle.command_words.specs.declared.error.WordsError.{WordsError}
use Rattle.command_words.specs.Asked.{Command, IsAsked, IsFirstFault, unasked}
use Rattle.command_words.specs.Checks.{Fault, arguments}
use Rattle.command_words.specs.Commands.{rows}
use Rattle.command_words.specs.Drills.{Call, Drill, IsCall, IsDrill, IsFault, IsFoundDrill, IsGivenDrill, IsItems, drill, max_items, of_files, of_items}
use Rattle.command_words.specs.Lent.{Because, call_of, drill_of}
use Rattle.command_words.specs.Requests.{Asks, Request, Task, checking, name_of, upgrading, validation}
use Rattle.command_words.proofs.Exact.{IsExact, because, exact_by, no_fault, one_command, one_fault}
use Rattle.command_words.proofs.Requested.{longer, one_value, own}
use Rattle.command_words.proofs.Seen.{heads, tails}

-- a number beyond the limits is no number of items
pub no_items : (text : Text) (m : ℕ) → text ≡ decimal m → m < 2 ^ 64 → (1 ≤ m → m ≤ max_items → ⊥) → (n : ℕ) → IsItems text n → ⊥
no_items text m e small beyond n (is, low, high) =
    let same : m ≡ n = decimal_injective m n small (omega arith) (sym e ∙ is) in
    beyond (omega arith) (omega arith)

one_number : (text : Text) (m n : ℕ) → IsItems text m → IsItems text n → m ≡ n
one_number text m n (p, a, b) (q, c, d) =
    sym (digits_value-decimal own m (omega arith)) ∙ ap (digits_value 10) (sym p ∙ q) ∙ digits_value-decimal own n (omega arith)

one_given : (found : List Row) (d e : Drill) → IsGivenDrill found d → IsGivenDrill found e → d ≡ e
one_given found d e a b =
    let texts : a.text ≡ b.text = one_value _ a.text b.text a.given b.given in
    let numbers : d.items ≡ e.items = one_number b.text d.items e.items (subst (λ (t : Text). IsItems t d.items) texts a.items) b.items in
    let names : d.proof ≡ e.proof = sym a.proof ∙ b.proof in
    λ k. record { items = numbers k; proof = names k }

pub one_drill : (words : List Text) (d e : Drill) → IsDrill words d → IsDrill words e → d ≡ e
one_drill words d e a b =
    let same : a.behind ≡ b.behind = tails (sym a.named ∙ b.named) in
    one_given (rows drill b.behind) d e (subst (λ (ws : List Text). IsGivenDrill (rows drill ws) d) same a.found.given) b.found.given

-- no task has the name of a drill
no_task : (t : Task) → name_of t ≡ codes "drill" → ⊥
no_task (validation m p n) e = longer (codes "validate") (codes "drill") 8 5 refl refl (lit< tt) e
no_task (checking p) e = let first : 99 ≡ 100 = ap (λ (t : Text). get_or t 0 0) e in omega (arith, first)
no_task (upgrading p s) e = longer (codes "upgrade") (codes "drill") 7 5 refl refl (lit< tt) e

pub unrequested : (words behind : List Text) → words ≡ codes "drill" ∷ behind → (r : Request) → ¬ Asks words r
unrequested words behind e r asks = no_task r.task (heads (sym asks.named ∙ e))

pub drill_is_no_command : (words : List Text) (c : Command) (d : Drill) → IsAsked words c → ¬ IsDrill words d
drill_is_no_command words c d a b = unrequested words b.behind b.named a.request a.asks

one_call : (words : List Text) (c d : Call) → IsCall words c → IsCall words d → c ≡ d
one_call words (of_files c) (of_files d) a b = ap of_files (one_command words c d a b)
one_call words (of_files c) (of_items d) a b = absurd (drill_is_no_command words c d a b)
one_call words (of_items c) (of_files d) a b = absurd (drill_is_no_command words d c b a)
one_call words (of_items c) (of_items d) a b = ap of_items (one_drill words c d a b)

never_both : (words : List Text) (c : Call) (f : Fault) → IsCall words c → IsFault words f → ⊥
never_both words (of_files c) f a b = no_fault words c f a b.first
never_both words (of_items d) f a b = b.no_drill d a

-- what an answer says of whatever words ask
abbrev pub IsExactCall : List Text → Result LentCall WordsError → Type 0
IsExactCall words r = IsExact LentCall Call call_of (IsCall words) (IsFault words) r

exactly : (words : List Text) (r : Result LentCall WordsError) → IfOk r (λ c. IsCall words (call_of c)) → IfErr r (Because (IsFault words)) → IsExactCall words r
exactly words = exact_by LentCall Call call_of (IsCall words) (IsFault words) (one_call words) (never_both words) (λ f g a b. one_fault words f g a.first b.first)

-- the first word is the name of a drill, and the others ask for this one
pub exact_drill : (words behind : List Text) (d : Drilling) → words ≡ codes "drill" ∷ behind → IsFoundDrill behind (drill_of d) → IsExactCall words (Ok (Calls.Drill d))
exact_drill words behind d e found = exactly words (Ok (Calls.Drill d)) (record { behind = behind; named = e; found = found }) tt

-- or for none
pub exact_undrilled : (words behind : List Text) (r : Result LentCall WordsError) (x : WordsError) → IsErrAnd r (λ y. y ≡ x) → words ≡ codes "drill" ∷ behind
    → Because (λ f. (f ≡ arguments) × ((d : Drill) → ¬ IsFoundDrill behind d)) x → IsExactCall words r
exact_undrilled words behind (Ok c) x h e fault = absurd h
exact_undrilled words behind (Err y) x h e fault =
    exactly words (Err y) tt
    (because (λ f. (f ≡ arguments) × ((d : Drill) → ¬ IsFoundDrill behind d)) (IsFault words) y
    (λ f (is, none). record {
      no_drill = λ d asked. none d (subst (λ (ws : List Text). IsFoundDrill ws d) (tails (sym asked.named ∙ e)) asked.found);
      first = subst (IsFirstFault words) (sym is) (unasked (unrequested words behind e));
    })
    (subst (Because (λ f. (f ≡ arguments) × ((d : Drill) → ¬ IsFoundDrill behind d))) (sym h) fault))
