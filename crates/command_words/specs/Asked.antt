-- What words ask for, or what is wrong with them (own).
use Rattle.std.specs.Prelude.{◌≡◌, ◌++◌, List, codes}
use Rattle.clap.specs.Words.{Text}
use Rattle.input_names.specs.Names.{Import}
use Rattle.command_words.specs.Requests.{Asks, Request, Task}
use Rattle.command_words.specs.Checks.{Fault, IsRequestFault, Passes, arguments, base, ending, import_word, same}

-- what words ask for once all checks are passed
pub record Command : Type 0 where
  pub schema : Text
  pub data_file : Text
  pub schema_base : Text
  pub data_base : Text
  pub imports : List Import
  pub task : Task

-- the command that a request with these imports leads to
abbrev pub command_by : Request → List Import → Command
command_by r imports = record {
  schema = r.given.schema;
  data_file = r.given.data_file;
  schema_base = r.given.schema_base;
  data_base = r.given.data_base;
  imports = imports;
  task = r.task;
}

-- the words ask for the command: they ask for a request that passes all checks and leads to it
pub record IsAsked (words : List Text) (c : Command) : Type 0 where
  pub request : Request
  pub asks : Asks words request
  pub passes : Passes request c.imports
  pub leads : c ≡ command_by request c.imports

-- the first thing that is wrong with the words: they ask for no request, or for one that fails a check, this one first
pub data IsFirstFault (words : List Text) : Fault → Type 0 where
  unasked : ((r : Request) → ¬ Asks words r) → IsFirstFault words arguments
  failing : (r : Request) → Asks words r → (f : Fault) → IsRequestFault r f → IsFirstFault words f

-- a fault as it is printed
abbrev pub fault_text : Fault → Text
fault_text arguments = codes "Arguments"
fault_text (ending name) = codes "Ending(" ++ (name ++ codes ")")
fault_text (import_word word) = codes "Import(" ++ (word ++ codes ")")
fault_text (base iri) = codes "Base(" ++ (iri ++ codes ")")
fault_text (same name) = codes "Same(" ++ (name ++ codes ")")
