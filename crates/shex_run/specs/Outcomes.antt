-- What the files hold for a command, or where its steps stop.
use Rattle.std.specs.Prelude.{ℕ, List}
use Rattle.input_names.specs.Names.{Text}
use Rattle.shex_io.specs.Files.{Told, Lacks}
use Rattle.command_words.specs.Asked.{Command}
use Rattle.command_words.specs.Requests.{Task, checking, upgrading, validation}
use Rattle.shex_inputs.specs.declared.error.Refusal.{Refusal}
use Rattle.shex_inputs.specs.Asked.{IsAskedOf, Question}
use Rattle.shex_inputs.specs.Held.{Held, IsTaken}
use Rattle.shex_inputs.specs.Named.{source_of}
use Rattle.shex_inputs.specs.Refusals.{IsRefused as IsInputRefused, Reaches as ReachesInput}
use Rattle.shex_run.specs.declared.stop.File.{File}
use Rattle.shex_run.specs.declared.stop.File.TheVariants as Files
use Rattle.shex_run.specs.Proofs.{IsDueProof}
use Rattle.shex_run.specs.Storing.{IsDueUpgrade}
use Rattle.shex_run.specs.Tasks.{IsFetched, IsInputOf, inputs_of, name_of}

-- the inputs of the task are taken: the schema and the data, and for `validate` the map
abbrev pub TakesFor : Told → Command → Task → Type 0
TakesFor told c (validation map_name proof_name budget) = (q : Question) × IsAskedOf told (inputs_of c) q
TakesFor told c (checking name) = (h : Held) × IsTaken told (inputs_of c) h
TakesFor told c (upgrading name to_name) = (h : Held) × IsTaken told (inputs_of c) h

-- the inputs of the command are taken
abbrev pub AreTaken : Told → Command → Type 0
AreTaken told c = TakesFor told c c.task

-- the steps come to the proof: where one is to be stored, it is made of the inputs; where one is to be checked, the inputs are
-- taken
abbrev pub ReachesProof : Told → Command → Task → Type 0
ReachesProof told c (validation map_name proof_name budget) = (name : Text) × ((bytes : List ℕ) × IsDueProof told c name bytes)
ReachesProof told c (checking name) = (h : Held) × IsTaken told (inputs_of c) h
ReachesProof told c (upgrading name to_name) = (h : Held) × IsTaken told (inputs_of c) h

-- the steps come to the file; to that in which an upgraded proof is stored, where it is accepted
abbrev pub Reaches : Told → Command → File → Type 0
Reaches told c (Files.Input source) = IsInputOf c.task source × ReachesInput told (inputs_of c) source
Reaches told c Files.Proof = ReachesProof told c c.task
Reaches told c Files.Upgraded = (name : Text) × ((bytes : List ℕ) × IsDueUpgrade told c name bytes)

-- a file of the task is the first of the inputs that is not taken, and this is why
abbrev pub IsRefused : Told → Command → Refusal → Type 0
IsRefused told c refusal = IsInputOf c.task (source_of refusal) × IsInputRefused told (inputs_of c) refusal

-- the next file to be fetched is told to be absent
abbrev pub IsAbsent : Told → Command → File → Type 0
IsAbsent told c file = IsFetched c.task file × (Reaches told c file × Lacks told (name_of c file))
