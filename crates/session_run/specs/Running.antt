-- What the functions that go through a script promise one another.
use Rattle.std.specs.Prelude.{List, [], ◌++◌, ◌≡◌, ◌≢◌, ◌||◌}
use Rattle.graph_index.specs.declared.graph.AddError.{AddError}
use Rattle.graph_index.specs.declared.graph.AddError.TheVariants as AddErrors
use Rattle.lists.specs.Distinct.{AreDistinct}
use Rattle.rdf_terms.specs.declared.table.PutError.{PutError}
use Rattle.rdf_terms.specs.declared.table.PutError.TheVariants as PutErrors
use Rattle.rdf_terms.specs.declared.terms.Term.{Term}
use Rattle.session_script.specs.declared.commands.Command.{Command}
use Rattle.typing_session.specs.Seen.{Seen}
use Rattle.typing_session.specs.declared.error.AskError.{AskError}
use Rattle.typing_session.specs.declared.error.AskError.TheVariants as AskErrors
use Rattle.session_run.specs.Replies.{Reply, any_unknown, notes_of, text_of}
use Rattle.session_run.specs.Script.{CannotTake, Outcome, Runs, State, answered}
use Rattle.session_run.specs.declared.error.CommandError.{CommandError}
use Rattle.session_run.specs.declared.error.CommandError.TheVariants as Errors
use Rattle.session_run.specs.declared.said.Said.{Said}

-- the table and the graph of a session
abbrev pub state_of : Seen → State
state_of x = record { terms = x.terms; graph = x.graph }

-- the schema, its strata and the budget stay
pub record Keeps (old new : Seen) : Type 0 where
  pub schema : new.schema ≡ old.schema
  pub strata : new.strata ≡ old.strata
  pub budget : new.budget ≡ old.budget

-- these are the answers that are composed
pub record Says (said : Said) (replies : List Reply) : Type 0 where
  pub text_is : said.text.items ≡ text_of replies
  pub notes_are : said.notes.items ≡ notes_of replies
  pub undecided_is : said.undecided ≡ any_unknown replies

-- these go last
pub record SaysMore (old : Said) (more : List Reply) (new : Said) : Type 0 where
  pub text_is : new.text.items ≡ old.text.items ++ text_of more
  pub notes_are : new.notes.items ≡ old.notes.items ++ notes_of more
  pub undecided_is : new.undecided ≡ (old.undecided || any_unknown more)

-- a stop of a command, unless memory ran out
abbrev pub StopsOr : (CommandError → Type 0) → CommandError → Type 0
StopsOr P e = e ≢ Errors.Memory → P e

-- what the refusal of a term, of a triple and of a question are to a command
abbrev pub put_error : PutError → CommandError
put_error PutErrors.Full = Errors.Full
put_error PutErrors.Memory = Errors.Memory

abbrev pub add_error : AddError → CommandError
add_error AddErrors.Full = Errors.Full
add_error AddErrors.Memory = Errors.Memory

abbrev pub ask_error : AskError → CommandError
ask_error AskErrors.Pairs = Errors.Pairs
ask_error AskErrors.Memory = Errors.Memory

-- terms do not go into the table
abbrev pub FillsTable : List Term → List Term → CommandError → Type 0
FillsTable old ts e = (e ≡ Errors.Full) × CannotTake old ts

-- how the commands end that are left is how all end
abbrev pub EndsAll : Seen → List Command → Seen → List Reply → List Command → Type 0
EndsAll first all x so rest =
    (o : Outcome) → Runs first.schema first.strata first.budget (state_of x) so rest o → Runs first.schema first.strata first.budget (state_of first) [] all o

-- so many commands are run from the first session to this one, and these are left
pub record IsRunning (first : Seen) (all : List Command) (x : Seen) (said : Said) (rest : List Command) : Type 0 where
  pub so : List Reply
  pub says : Says said so
  pub ends : EndsAll first all x so rest
  pub keeps : Keeps first x
  pub distinct : AreDistinct x.graph

-- the script ends with these answers
pub record IsDone (first : Seen) (all : List Command) (said : Said) : Type 0 where
  pub replies : List Reply
  pub says : Says said replies
  pub runs : Runs first.schema first.strata first.budget (state_of first) [] all (answered replies)
