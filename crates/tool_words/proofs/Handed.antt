-- What is known of the words of a command by what `clap` finds in them, and of the errors that are handed on.
use Rattle.std.proofs.Common.{◌≡◌, ◌≢◌, ◌∙◌, List, [], ◌∷◌, ap, subst, sym}
use Rattle.std.specs.Prelude.{IfErr, IsErrAnd, Result}
use Rattle.clap.specs.Words.{App, Row, Text}
use Rattle.command_words.specs.declared.error.WordsError.{WordsError}
use Rattle.command_words.specs.Checks.{Fault, arguments}
use Rattle.command_words.specs.Commands.{faults, rows}
use Rattle.command_words.specs.Lent.{Because}
use Rattle.command_words.proofs.Exact.{handed_on}
use Rattle.tool_words.specs.Asked.{Command, IsFaultOf, IsFirstFault, IsToolFault, failing, name_of, unasked, wrong_behind}
use Rattle.tool_words.specs.Requests.{Asks}

-- b is the command
module _ {R : Type 0} (app b : App) (Are : List Row → R → Type 0) (Fails : R → Fault → Type 0) (words : List Text) (is : b ≡ app) where
  pub not_taken : faults b words ≢ [] → IsFirstFault app Are Fails words arguments
  not_taken refused = unasked (λ r asks. refused (ap (λ (x : App). faults x words) is ∙ asks.taken))

  module _ (seen : List Row) (same : seen ≡ rows b words) where
    all_seen : seen ≡ rows app words
    all_seen = same ∙ ap (λ (x : App). rows x words) is

    pub asks_for : faults b words ≡ [] → (r : R) → Are seen r → Asks app Are words r
    asks_for taken r found = record {
      taken = sym (ap (λ (x : App). faults x words) is) ∙ taken;
      found = subst (λ (s : List Row). Are s r) all_seen found;
    }

    pub not_found : ((r : R) → ¬ Are seen r) → IsFirstFault app Are Fails words arguments
    not_found none = unasked (λ r asks. none r (subst (λ (s : List Row). Are s r) (sym all_seen) asks.found))

    pub unfound : {L : Type 0} (res : Result L WordsError) (e : WordsError) → IsErrAnd res (λ x. x ≡ e) → Because (λ f. (f ≡ arguments) × ((r : R) → ¬ Are seen r)) e
        → IfErr res (Because (IsFirstFault app Are Fails words))
    unfound res e h =
        handed_on (λ f. (f ≡ arguments) × ((r : R) → ¬ Are seen r)) (IsFirstFault app Are Fails words) res e h
        (λ f (is_it, none). subst (IsFirstFault app Are Fails words) (sym is_it) (not_found none))

    pub failed : {L : Type 0} (res : Result L WordsError) (e : WordsError) → IsErrAnd res (λ x. x ≡ e) → faults b words ≡ [] → (r : R) → Are seen r → Because (Fails r) e
        → IfErr res (Because (IsFirstFault app Are Fails words))
    failed res e h taken r found = handed_on (Fails r) (IsFirstFault app Are Fails words) res e h (failing r (asks_for taken r found))

-- behind a command's name
pub failed_behind : {L : Type 0} (c : Command) (words behind : List Text) (res : Result L WordsError) (e : WordsError) → words ≡ name_of c ∷ behind → IsErrAnd res (λ x. x ≡ e)
    → Because (IsFaultOf c behind) e → IfErr res (Because (IsToolFault words))
failed_behind c words behind res e named h =
    handed_on (IsFaultOf c behind) (IsToolFault words) res e h (λ f bad. wrong_behind c f (record { behind = behind; named = named; holds = bad }))
