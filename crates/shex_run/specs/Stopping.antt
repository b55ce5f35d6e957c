-- How the functions of a call stop.
use Rattle.std.specs.Prelude.{ℕ, List, Option, ◌≡◌, ◌≤◌, ◌⊎◌, Some, true, ⊤}
use Rattle.input_names.specs.Names.{Text, is_base}
use Rattle.command_words.specs.Requests.{max_budget}
use Rattle.shex_io.specs.Faults.{Rose}
use Rattle.shex_io.specs.Files.{Told}
use Rattle.shex_io.specs.declared.files.Act.{Act}
use Rattle.shex_io.specs.declared.files.Act.TheVariants as Acts
use Rattle.proof_checker.specs.declared.checking.CheckError.{CheckError}
use Rattle.proof_checker.specs.declared.checking.CheckError.TheVariants as CheckErrors
use Rattle.command_words.specs.Asked.{Command}
use Rattle.command_words.specs.Drills.{Drill}
use Rattle.shex_inputs.specs.declared.error.InputError.{InputError}
use Rattle.shex_inputs.specs.declared.error.InputError.TheVariants as Errors
use Rattle.shex_run.specs.declared.stop.File.{File}
use Rattle.shex_run.specs.declared.stop.File.TheVariants as Files
use Rattle.shex_run.specs.declared.stop.Refusal.TheVariants as Refusals
use Rattle.shex_run.specs.declared.stop.Stop.{Stop}
use Rattle.shex_run.specs.declared.stop.Stop.TheVariants as Stops
use Rattle.shex_run.specs.Checking.{IsFull, IsRejected}
use Rattle.shex_run.specs.Drills.{IsCutDrill}
use Rattle.shex_run.specs.Outcomes.{IsRefused, Reaches}
use Rattle.shex_run.specs.Storing.{MayStore}
use Rattle.shex_run.specs.Tasks.{IsToValidate, act_of, name_of}

-- both bases of the command pass the check of a base, and its budget is from 1 to the greatest one
pub record IsFit (c : Command) : Type 0 where
  pub schema : is_base c.schema_base ≡ true
  pub data_file : is_base c.data_base ≡ true
  pub budget : (map_name : Text) (proof_name : Option Text) (budget : ℕ) → IsToValidate c map_name proof_name budget → (1 ≤ budget) × (budget ≤ max_budget)

-- the stop that an error of the inputs is
abbrev pub stop_of : InputError → Stop
stop_of (Errors.Refused refusal) = Stops.Refused (Refusals.Input refusal)
stop_of (Errors.Failed source) = Stops.Failed (Files.Input source)
stop_of Errors.Memory = Stops.Memory

-- the stop that an error of the check is
abbrev pub check_stop : CheckError → Stop
check_stop CheckErrors.Memory = Stops.Memory
check_stop error = Stops.Refused (Refusals.Proof error)

-- the proof's file holds bytes that are refused for this cause
abbrev pub RefusesProof : Told → Command → CheckError → Type 0
RefusesProof told c CheckErrors.Full = IsFull told c
RefusesProof told c error = IsRejected told c error

-- why there is no answer: a file is refused, the steps came to a file that was not fetched or stored, or memory ran out
abbrev pub Explains : Told → Command → Stop → Type 0
Explains told c (Stops.Refused (Refusals.Input refusal)) = IsRefused told c refusal
Explains told c (Stops.Refused (Refusals.Proof error)) = RefusesProof told c error
Explains told c (Stops.Failed file) = Reaches told c file
Explains told c Stops.Memory = ⊤

-- what a call that stops does to the count of faults of the files: it rises where a call on a file failed, which is then
-- named, and else stays
abbrev pub FaultsAs : Command → ℕ → ℕ → List ℕ → Act → Stop → Type 0
FaultsAs c before after blame act (Stops.Failed file) = Rose before after × (before ≤ after) × (blame ≡ name_of c file) × (act ≡ act_of c.task file)
FaultsAs c before after blame act stop = after ≡ before

-- what a failed call on a file leaves stored: nothing where it was to be fetched, and the proof in part where that was to be stored
abbrev pub LeavesFailed : Told → Told → Command → Act → Type 0
LeavesFailed told after c Acts.Fetch = after ≡ told
LeavesFailed told after c Acts.Store = MayStore told after c

-- what a call that stops leaves stored: nothing, or, where a store failed or memory ran out, the proof in part
abbrev pub LeavesStored : Told → Told → Command → Stop → Type 0
LeavesStored told after c (Stops.Refused refusal) = after ≡ told
LeavesStored told after c (Stops.Failed file) = LeavesFailed told after c (act_of c.task file)
LeavesStored told after c Stops.Memory = MayStore told after c

-- how a call on a file of this name stops, which holds a proof or is to hold one: the call failed, or memory ran out
abbrev pub ProofStops : File → List ℕ → Act → ℕ → ℕ → List ℕ → Act → Stop → Type 0
ProofStops asked name wanted before after blame act (Stops.Failed file) = (file ≡ asked) × (Rose before after × (before ≤ after) × (blame ≡ name) × (act ≡ wanted))
ProofStops asked name wanted before after blame act Stops.Memory = after ≡ before
ProofStops asked name wanted before after blame act stop = ⊥

-- why there is no line: the proof was made, and a call on its file failed; or memory ran out
abbrev pub DrillStops : Told → Told → Drill → ℕ → ℕ → List ℕ → Act → Stop → Type 0
DrillStops told after d before later blame act (Stops.Refused refusal) = ⊥
DrillStops told after d before later blame act (Stops.Failed file) =
    Rose before later × (before ≤ later) × (d.proof ≡ Some blame) × (act ≡ Acts.Store) × IsCutDrill told after d
DrillStops told after d before later blame act Stops.Memory = (later ≡ before) × ((after ≡ told) ⊎ IsCutDrill told after d)
