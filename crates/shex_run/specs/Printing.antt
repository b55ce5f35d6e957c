-- How the line for words that are at fault is printed, and that for what stops a call.
use Rattle.std.specs.Prelude.{ℕ, List, ◌≡◌, IsSome, Option, Some, ⊤}
use Rattle.command_words.specs.Asked.{Command}
use Rattle.command_words.specs.Checks.{arguments, base, ending, import_word, same}
use Rattle.command_words.specs.Drills.{Drill}
use Rattle.command_words.specs.declared.error.WordsError.{WordsError}
use Rattle.command_words.specs.declared.error.WordsError.TheVariants as Errors
use Rattle.program_ends.specs.Printing.{IsQuiet, Prints, PrintsTo, SinkSeen}
use Rattle.shex_run.specs.declared.stop.Stop.{Stop}
use Rattle.shex_run.specs.declared.stop.Stop.TheVariants as Stops
use Rattle.shex_run.specs.Statuses.{refusal_status}
use Rattle.shex_run.specs.Tasks.{name_of}
use Rattle.shex_run.specs.Texts.{failed_line, refusal_line, words_line}

-- the line of the words' fault is printed; or memory ran out before, and nothing is
abbrev pub RefusesWords : WordsError → Option (List ℕ) → Option (List ℕ) → ℕ → ℕ → ℕ → Type 0
RefusesWords Errors.Arguments before after faults faults_after status = Prints before after faults faults_after (words_line arguments) 2 status
RefusesWords (Errors.Ending name) before after faults faults_after status = Prints before after faults faults_after (words_line (ending name.now)) 2 status
RefusesWords (Errors.Import word) before after faults faults_after status = Prints before after faults faults_after (words_line (import_word word.now)) 2 status
RefusesWords (Errors.Base iri) before after faults faults_after status = Prints before after faults faults_after (words_line (base iri.now)) 2 status
RefusesWords (Errors.Same name) before after faults faults_after status = Prints before after faults faults_after (words_line (same name.now)) 2 status
RefusesWords Errors.Memory before after faults faults_after status = (status ≡ 8) × (after ≡ before) × (faults_after ≡ faults)

-- the line for what stops a command is printed; or memory ran out, and nothing is
abbrev pub SaysStop : Command → Stop → SinkSeen → ℕ → Type 0
SaysStop c (Stops.Refused refusal) sink status = PrintsTo sink (refusal_line c refusal) (refusal_status refusal) status
SaysStop c (Stops.Failed file) sink status = PrintsTo sink (failed_line (name_of c file)) 5 status
SaysStop c Stops.Memory sink status = IsQuiet sink × (status ≡ 8)

-- what can stop a drill: its proof is not stored, or memory ran out
abbrev pub MayStopDrill : Drill → Stop → Type 0
MayStopDrill d (Stops.Refused refusal) = ⊥
MayStopDrill d (Stops.Failed file) = IsSome d.proof
MayStopDrill d Stops.Memory = ⊤

-- the line for what stops a drill is printed; or memory ran out, and nothing is
abbrev pub SaysDrillStop : Drill → Stop → SinkSeen → ℕ → Type 0
SaysDrillStop d (Stops.Failed file) sink status = (name : List ℕ) → d.proof ≡ Some name → PrintsTo sink (failed_line name) 5 status
SaysDrillStop d stop sink status = IsQuiet sink × (status ≡ 8)
