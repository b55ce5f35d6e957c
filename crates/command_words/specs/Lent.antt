-- The commands and the errors as they are lent from the words.
use Rattle.std.specs.Prelude.{codes, map, option_map, ⊤}
use Rattle.clap.specs.Words.{Text}
use Rattle.input_names.specs.declared.inputs.Inputs.{Inputs as LentInputs}
use Rattle.input_names.specs.Lent.{import_of}
use Rattle.command_words.specs.declared.command.Call.{Call as LentCall}
use Rattle.command_words.specs.declared.command.Call.TheVariants as Calls
use Rattle.command_words.specs.declared.command.Command.{Command as LentCommand}
use Rattle.command_words.specs.declared.command.Command.TheVariants as Lent
use Rattle.command_words.specs.declared.command.Drilling.{Drilling}
use Rattle.command_words.specs.declared.error.WordsError.{WordsError}
use Rattle.command_words.specs.declared.error.WordsError.TheVariants as Error
use Rattle.command_words.specs.declared.requests.Given.{Given as LentGiven}
use Rattle.command_words.specs.declared.requests.Request.{Request as LentRequest}
use Rattle.command_words.specs.declared.requests.Task.{Task as LentTask}
use Rattle.command_words.specs.declared.requests.Task.TheVariants as Tasks
use Rattle.command_words.specs.Requests.{Given, Request, Task, checking, upgrading, validation}
use Rattle.command_words.specs.Checks.{Fault, arguments, base, ending, import_word, same}
use Rattle.command_words.specs.Asked.{Command, fault_text}
use Rattle.command_words.specs.Drills.{Call, Drill, of_files, of_items}

abbrev pub task_of : LentTask → Task
task_of (Tasks.Validate map_file proof budget) = validation map_file.now (option_map (λ s. s.now) proof) budget
task_of (Tasks.Check proof) = checking proof.now
task_of (Tasks.Upgrade proof to_file) = upgrading proof.now to_file.now

abbrev pub given_of : LentGiven → Given
given_of g = record {
  schema = g.schema.now;
  data_file = g.data.now;
  schema_base = g.schema_base.now;
  data_base = g.data_base.now;
  import_words = map (λ s. s.now) g.import_words.items;
}

abbrev pub request_of : LentRequest → Request
request_of r = record { given = given_of r.given; task = task_of r.task }

-- a command of these inputs and this task
abbrev pub command_with : LentInputs → Task → Command
command_with inputs task = record {
  schema = inputs.schema.now;
  data_file = inputs.data.now;
  schema_base = inputs.schema_base.now;
  data_base = inputs.data_base.now;
  imports = map import_of inputs.imports.items;
  task = task;
}

abbrev pub command_of : LentCommand → Command
command_of (Lent.Validate v) = command_with v.inputs (validation v.map.now (option_map (λ s. s.now) v.proof) v.budget)
command_of (Lent.Check c) = command_with c.inputs (checking c.proof.now)
command_of (Lent.Upgrade u) = command_with u.inputs (upgrading u.proof.now u.to.now)

abbrev pub drill_of : Drilling → Drill
drill_of d = record { items = d.items; proof = option_map (λ s. s.now) d.proof }

abbrev pub call_of : LentCall → Call
call_of (Calls.Files c) = of_files (command_of c)
call_of (Calls.Drill d) = of_items (drill_of d)

-- the fault that an error names has a property; of want of memory nothing is said
abbrev pub Because : (Fault → Type 0) → WordsError → Type 0
Because P Error.Arguments = P arguments
Because P (Error.Ending name) = P (ending name.now)
Because P (Error.Import word) = P (import_word word.now)
Because P (Error.Base iri) = P (base iri.now)
Because P (Error.Same name) = P (same name.now)
Because P Error.Memory = ⊤

-- an error as it is printed: as the fault that it names; nothing is printed for want of memory, which has its name here too
abbrev pub words_text : WordsError → Text
words_text Error.Arguments = fault_text arguments
words_text (Error.Ending name) = fault_text (ending name.now)
words_text (Error.Import word) = fault_text (import_word word.now)
words_text (Error.Base iri) = fault_text (base iri.now)
words_text (Error.Same name) = fault_text (same name.now)
words_text Error.Memory = codes "Memory"
