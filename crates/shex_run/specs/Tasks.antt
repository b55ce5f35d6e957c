-- The tasks of a command, and the files that its words name for them.
use Rattle.std.specs.Prelude.{ℕ, List, [], ◌≡◌, Option, Some, None, codes, unwrap_or, ⊤}
use Rattle.input_names.specs.Names.{Text}
use Rattle.shex_io.specs.declared.files.Act.{Act}
use Rattle.shex_io.specs.declared.files.Act.TheVariants as Acts
use Rattle.command_words.specs.Asked.{Command}
use Rattle.command_words.specs.Requests.{Task, checking, proof_of, to_of, upgrading, validation}
use Rattle.shex_inputs.specs.declared.error.Source.{Source}
use Rattle.shex_inputs.specs.declared.error.Source.TheVariants as Sources
use Rattle.shex_inputs.specs.Named.{Inputs, source_name}
use Rattle.shex_run.specs.declared.stop.File.{File}
use Rattle.shex_run.specs.declared.stop.File.TheVariants as Files

-- the name of the map that a task asks for; `check` and `upgrade` have none
abbrev pub map_name : Task → Text
map_name (validation name proof_name budget) = name
map_name (checking proof_name) = codes ""
map_name (upgrading proof_name to_name) = codes ""

-- what a command is given
abbrev pub inputs_of : Command → Inputs
inputs_of c = record {
  schema = c.schema;
  data_file = c.data_file;
  map_file = map_name c.task;
  schema_base = c.schema_base;
  data_base = c.data_base;
  imports = c.imports;
}

-- the command is to validate the associations of the map of this name, looking into pairs up to the budget, and to store their
-- proof under the other name, if there is one
abbrev pub IsToValidate : Command → Text → Option Text → ℕ → Type 0
IsToValidate c map_name proof_name budget = c.task ≡ validation map_name proof_name budget

-- the name of the proof that a task checks, if it checks one
abbrev pub checked_of : Task → Option Text
checked_of (validation map_name proof_name budget) = None
checked_of (checking proof_name) = Some proof_name
checked_of (upgrading proof_name to_name) = Some proof_name

-- the name under which a task stores a proof, if it stores one
abbrev pub stored_of : Task → Option Text
stored_of (validation map_name proof_name budget) = proof_name
stored_of (checking proof_name) = None
stored_of (upgrading proof_name to_name) = Some to_name

-- the command is to check the proof of this name: it is `check` or `upgrade`
abbrev pub IsToCheck : Command → Text → Type 0
IsToCheck c name = checked_of c.task ≡ Some name

-- the command is to store a proof under this name
abbrev pub IsToStore : Command → Text → Type 0
IsToStore c name = stored_of c.task ≡ Some name

-- the file is an input of the task: `check` and `upgrade` have no map
abbrev pub IsInputOf : Task → Source → Type 0
IsInputOf (validation map_name proof_name budget) source = ⊤
IsInputOf (checking name) (Sources.Schema file) = ⊤
IsInputOf (checking name) Sources.Data = ⊤
IsInputOf (checking name) Sources.Map = ⊥
IsInputOf (upgrading name to_name) (Sources.Schema file) = ⊤
IsInputOf (upgrading name to_name) Sources.Data = ⊤
IsInputOf (upgrading name to_name) Sources.Map = ⊥

-- the file is to be fetched, and not to be stored
abbrev pub IsFetched : Task → File → Type 0
IsFetched task (Files.Input source) = IsInputOf task source
IsFetched (validation map_name proof_name budget) Files.Proof = ⊥
IsFetched (checking name) Files.Proof = ⊤
IsFetched (upgrading name to_name) Files.Proof = ⊤
IsFetched task Files.Upgraded = ⊥

-- what is done with a file
abbrev pub act_of : Task → File → Act
act_of task (Files.Input source) = Acts.Fetch
act_of (validation map_name proof_name budget) Files.Proof = Acts.Store
act_of (checking name) Files.Proof = Acts.Fetch
act_of (upgrading name to_name) Files.Proof = Acts.Fetch
act_of task Files.Upgraded = Acts.Store

-- the name of a file in the words; it is empty where they name none
abbrev pub name_of : Command → File → List ℕ
name_of c (Files.Input source) = source_name (inputs_of c) source
name_of c Files.Proof = unwrap_or (proof_of c.task) []
name_of c Files.Upgraded = unwrap_or (to_of c.task) []
