-- What the files hold for a call, or why it refuses one of them.
use Rattle.std.specs.Prelude.{ℕ, List, [], ◌≢◌}
use Rattle.shex_io.specs.Fetching.{IsFile, IsTooLong}
use Rattle.session_script.specs.Scripts.{Explains, IsScript}
use Rattle.session_script.specs.declared.commands.Command.{Command}
use Rattle.session_script.specs.declared.error.ScriptError.TheVariants as ScriptErrors
use Rattle.shex_inputs.specs.Held.{Held, IsTaken}
use Rattle.shex_inputs.specs.Named.{source_of}
use Rattle.shex_inputs.specs.Refusals.{IsRefused as IsInputRefused, Reaches as ReachesInput}
use Rattle.shex_inputs.specs.declared.error.Source.TheVariants.{Map}
use Rattle.shex_io.specs.Files.{Lacks, Told}
use Rattle.tool_words.specs.Asked.{Editing}
use Rattle.session_run.specs.declared.error.CommandError.TheVariants as CommandErrors
use Rattle.session_run.specs.declared.stop.File.{File}
use Rattle.session_run.specs.declared.stop.File.TheVariants as Files
use Rattle.session_run.specs.declared.stop.Refusal.{Refusal}
use Rattle.session_run.specs.declared.stop.Refusal.TheVariants as Refusals
use Rattle.session_run.specs.Files.{inputs_of, name_of}
use Rattle.session_run.specs.Replies.{Reply}
use Rattle.session_run.specs.Script.{Outcome, Runs, State, answered, refused}

-- the table and the graph that the files hold
abbrev pub start_of : Held → State
start_of h = record { terms = h.terms; graph = h.graph }

-- the schema and the data that are given are taken
abbrev pub AreHeld : Told → Editing → Held → Type 0
AreHeld told e h = IsTaken told (inputs_of e) h

-- and the script's file holds a script of these commands
pub record HoldsScript (told : Told) (e : Editing) (commands : List Command) : Type 0 where
  pub bytes : List ℕ
  pub file : IsFile told e.script bytes
  pub spelled : IsScript bytes commands

-- the commands are run over what is held, from the first on, and end so
abbrev pub EndsAs : Held → ℕ → List Command → Outcome → Type 0
EndsAs h budget commands o = Runs h.schema h.strata budget (start_of h) [] commands o

-- what is given is taken, and these are the answers to the questions of the script
pub record AreAnswers (told : Told) (e : Editing) (replies : List Reply) : Type 0 where
  pub held : Held
  pub taken : AreHeld told e held
  pub commands : List Command
  pub script : HoldsScript told e commands
  pub ends : EndsAs held e.budget commands (answered replies)

-- a file is refused, and this is why: it is the first of the schema and the data that is not taken; or these are taken, and the
-- script's file is too long, or its bytes are no script, or a command of it is refused
abbrev pub IsRefused : Told → Editing → Refusal → Type 0
IsRefused told e (Refusals.Input refusal) = (source_of refusal ≢ Map) × IsInputRefused told (inputs_of e) refusal
IsRefused told e Refusals.Size = (h : Held) × AreHeld told e h × IsTooLong told e.script
IsRefused told e (Refusals.Script error) = (h : Held) × AreHeld told e h × ((bytes : List ℕ) × IsFile told e.script bytes × (error ≢ ScriptErrors.Memory) × Explains error bytes)
IsRefused told e (Refusals.Command error) = (h : Held) × AreHeld told e h × ((commands : List Command) × HoldsScript told e commands ×
    (error ≢ CommandErrors.Memory) × EndsAs h e.budget commands (refused error))

-- the steps come to a file: those before it are taken
abbrev pub Reaches : Told → Editing → File → Type 0
Reaches told e (Files.Input source) = (source ≢ Map) × ReachesInput told (inputs_of e) source
Reaches told e Files.Script = (h : Held) × AreHeld told e h

-- and it is told to be absent
abbrev pub IsAbsent : Told → Editing → File → Type 0
IsAbsent told e file = Reaches told e file × Lacks told (name_of e file)
