-- What words ask for, by `clap`'s definition of the matches, before it is checked.
use Rattle.std.specs.Prelude.{◌≡◌, ◌≤◌, ℕ, List, [], ◌∷◌, Option, Some, None, codes, unwrap_or}
use Rattle.std.specs.Fmt.{decimal}
use Rattle.clap.specs.Words.{App, Row, Text, all_of, first_of}
use Rattle.command_words.specs.Commands.{check, faults, rows, upgrade, validate}

-- what is asked of the schema and the data: to validate the associations of the map in a file, with the name under which the proof is to be stored, if it is, and the budget; or to check the proof in a file; or to check it and to store it, in the newest format, under another name
pub data Task : Type 0 where
  validation : Text → Option Text → ℕ → Task
  checking : Text → Task
  upgrading : Text → Text → Task

-- what every command of files is given: the values of the options for schema and data, and the import words
pub record Given : Type 0 where
  pub schema : Text
  pub data_file : Text
  pub schema_base : Text
  pub data_base : Text
  pub import_words : List Text

-- what is given, and what is asked of it
pub record Request : Type 0 where
  pub given : Given
  pub task : Task

-- the base of schema and data where none is given (own)
abbrev pub default_base : Text
default_base = codes "http://localhost/"

-- the budget where none is given, and the greatest one (own)
abbrev pub default_budget : ℕ
default_budget = 1048576

abbrev pub max_budget : ℕ
max_budget = 1099511627776

-- the budget that is given, in decimal digits without a sign and without zeros in front, from 1 to the greatest one
abbrev pub IsBudget : Option Text → ℕ → Type 0
IsBudget None n = n ≡ default_budget
IsBudget (Some text) n = (text ≡ decimal n) × (1 ≤ n) × (n ≤ max_budget)

-- the values, among those that `clap` finds, of what every command of files is given
pub record IsGiven (found : List Row) (g : Given) : Type 0 where
  pub schema : first_of (codes "schema") found ≡ Some g.schema
  pub data_file : first_of (codes "data") found ≡ Some g.data_file
  pub schema_base : unwrap_or (first_of (codes "schema-base") found) default_base ≡ g.schema_base
  pub data_base : unwrap_or (first_of (codes "data-base") found) default_base ≡ g.data_base
  pub import_words : unwrap_or (all_of (codes "imports") found) [] ≡ g.import_words

-- of what only `validate` is given
pub record IsValidation (found : List Row) (map_name : Text) (proof_name : Option Text) (budget : ℕ) : Type 0 where
  pub map_file : first_of (codes "map") found ≡ Some map_name
  pub proof : first_of (codes "proof") found ≡ proof_name
  pub is_budget : IsBudget (first_of (codes "budget") found) budget

-- of what only `upgrade` is given
pub record IsUpgrade (found : List Row) (proof_name to_name : Text) : Type 0 where
  pub proof : first_of (codes "proof") found ≡ Some proof_name
  pub to_file : first_of (codes "to") found ≡ Some to_name

-- of what only the command for this task is given
abbrev pub IsTask : List Row → Task → Type 0
IsTask found (validation map_name proof_name budget) = IsValidation found map_name proof_name budget
IsTask found (checking proof_name) = first_of (codes "proof") found ≡ Some proof_name
IsTask found (upgrading proof_name to_name) = IsUpgrade found proof_name to_name

-- the command for a task, and its name
abbrev pub command_for : Task → App
command_for (validation map_name proof_name budget) = validate
command_for (checking proof_name) = check
command_for (upgrading proof_name to_name) = upgrade

abbrev pub name_of : Task → Text
name_of (validation map_name proof_name budget) = codes "validate"
name_of (checking proof_name) = codes "check"
name_of (upgrading proof_name to_name) = codes "upgrade"

-- `clap` takes the words behind the command's name, and finds these values
pub record IsFound (words : List Text) (r : Request) : Type 0 where
  pub taken : faults (command_for r.task) words ≡ []
  pub given : IsGiven (rows (command_for r.task) words) r.given
  pub asked : IsTask (rows (command_for r.task) words) r.task

-- the words are a command's name, and behind it words by which `clap` finds these values
pub record Asks (words : List Text) (r : Request) : Type 0 where
  pub behind : List Text
  pub named : words ≡ name_of r.task ∷ behind
  pub found : IsFound behind r

-- the name of the proof, if there is one, the name under which a checked proof is to be stored, if it is, and the name of the map, if there is one
abbrev pub proof_of : Task → Option Text
proof_of (validation map_name proof_name budget) = proof_name
proof_of (checking proof_name) = Some proof_name
proof_of (upgrading proof_name to_name) = Some proof_name

abbrev pub to_of : Task → Option Text
to_of (validation map_name proof_name budget) = None
to_of (checking proof_name) = None
to_of (upgrading proof_name to_name) = Some to_name

abbrev pub map_names : Task → List Text
map_names (validation map_name proof_name budget) = map_name ∷ []
map_names (checking proof_name) = []
map_names (upgrading proof_name to_name) = []
