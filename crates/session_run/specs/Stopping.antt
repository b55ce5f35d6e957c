-- How the functions of a call stop.
use Rattle.std.specs.Prelude.{ℕ, List, ◌≡◌, ◌≢◌, ◌≤◌, ◌⊎◌, ⊤, true}
use Rattle.input_names.specs.Names.{is_base}
use Rattle.command_words.specs.Requests.{max_budget}
use Rattle.shex_io.specs.Fetching.{HasFailed, IsTooLong}
use Rattle.session_script.specs.declared.commands.Command.{Command}
use Rattle.session_script.specs.declared.error.ScriptError.{ScriptError}
use Rattle.session_script.specs.declared.error.ScriptError.TheVariants as ScriptErrors
use Rattle.shex_inputs.specs.Held.{Held}
use Rattle.shex_inputs.specs.declared.error.InputError.{InputError}
use Rattle.shex_inputs.specs.declared.error.InputError.TheVariants as InputErrors
use Rattle.shex_io.specs.Files.{Told}
use Rattle.shex_io.specs.declared.files.Act.{Act}
use Rattle.tool_words.specs.Asked.{Editing}
use Rattle.session_run.specs.declared.error.CommandError.{CommandError}
use Rattle.session_run.specs.declared.error.CommandError.TheVariants as CommandErrors
use Rattle.session_run.specs.declared.stop.File.TheVariants as Files
use Rattle.session_run.specs.declared.stop.Refusal.{Refusal}
use Rattle.session_run.specs.declared.stop.Refusal.TheVariants as Refusals
use Rattle.session_run.specs.declared.stop.Stop.{Stop}
use Rattle.session_run.specs.declared.stop.Stop.TheVariants as Stops
use Rattle.session_run.specs.Files.{name_of}
use Rattle.session_run.specs.Outcomes.{EndsAs, IsRefused, Reaches}
use Rattle.session_run.specs.Script.{refused}

-- each base that is given passes the check of a base, and the budget is at most the greatest
pub record IsFit (e : Editing) : Type 0 where
  pub schema : is_base e.inputs.schema_base ≡ true
  pub data_file : is_base e.inputs.data_base ≡ true
  pub budget : e.budget ≤ max_budget

-- the stop that an error of the inputs is
abbrev pub stop_of : InputError → Stop
stop_of (InputErrors.Refused refusal) = Stops.Refused (Refusals.Input refusal)
stop_of (InputErrors.Failed source) = Stops.Failed (Files.Input source)
stop_of InputErrors.Memory = Stops.Memory

-- a file is refused for the cause of an error, unless the error is want of memory
abbrev pub IsRefusalOf : {E : Type 0} → E → (E → Refusal) → E → Stop → Type 0
IsRefusalOf memory refusal e stop = ((e ≡ memory) × (stop ≡ Stops.Memory)) ⊎ ((e ≢ memory) × (stop ≡ Stops.Refused (refusal e)))

-- the stop that an error of the script's reader is
abbrev pub IsScriptStop : ScriptError → Stop → Type 0
IsScriptStop e stop = IsRefusalOf ScriptErrors.Memory (λ x. Refusals.Script x) e stop

-- the stop that an error of a command is
abbrev pub IsCommandStop : CommandError → Stop → Type 0
IsCommandStop e stop = IsRefusalOf CommandErrors.Memory (λ x. Refusals.Command x) e stop

-- why there are no answers: a file is refused, the steps came to one that was not fetched, or memory ran out
abbrev pub Explains : Told → Editing → Stop → Type 0
Explains told e (Stops.Refused refusal) = IsRefused told e refusal
Explains told e (Stops.Failed file) = Reaches told e file
Explains told e Stops.Memory = ⊤

-- what a call that stops does to the count of faults of the files: it rises where a fetch failed, which is then named, and else stays
abbrev pub FaultsAs : Editing → ℕ → ℕ → List ℕ → Act → Stop → Type 0
FaultsAs e before after blame act (Stops.Failed file) = HasFailed (name_of e file) before after blame act
FaultsAs e before after blame act (Stops.Refused refusal) = after ≡ before
FaultsAs e before after blame act Stops.Memory = after ≡ before

-- the script's file is too long, it was not fetched, or memory ran out
abbrev pub FetchStops : Told → List ℕ → ℕ → ℕ → List ℕ → Act → Stop → Type 0
FetchStops told name before after blame act (Stops.Refused refusal) = (refusal ≡ Refusals.Size) × IsTooLong told name × (after ≡ before)
FetchStops told name before after blame act (Stops.Failed file) = (file ≡ Files.Script) × HasFailed name before after blame act
FetchStops told name before after blame act Stops.Memory = after ≡ before

-- a command of the script is refused, or memory ran out
abbrev pub RunStops : Held → ℕ → List Command → Stop → Type 0
RunStops h budget commands (Stops.Refused (Refusals.Command error)) = (error ≢ CommandErrors.Memory) × EndsAs h budget commands (refused error)
RunStops h budget commands (Stops.Refused refusal) = ⊥
RunStops h budget commands (Stops.Failed file) = ⊥
RunStops h budget commands Stops.Memory = ⊤
