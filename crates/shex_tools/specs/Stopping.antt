-- How the functions of a call stop.
use Rattle.std.specs.Prelude.{ℕ, List, ◌≡◌, ◌≢◌, ◌≤◌, ◌⊎◌, ⊤, true}
use Rattle.shard_answers.specs.declared.error.CallFile.TheVariants as CallFiles
use Rattle.shard_answers.specs.declared.error.ShardError.{ShardError}
use Rattle.shard_answers.specs.declared.error.ShardError.TheVariants as ShardErrors
use Rattle.shard_answers.specs.Answers.{IsFit as IsShardFit}
use Rattle.input_names.specs.Names.{is_base}
use Rattle.command_words.specs.Requests.{max_budget}
use Rattle.label_extents.specs.declared.error.ExtentsError.{ExtentsError}
use Rattle.label_extents.specs.declared.error.ExtentsError.TheVariants as ExtentsErrors
use Rattle.schema_documents.specs.declared.error.SchemaError.{SchemaError}
use Rattle.schema_documents.specs.declared.error.SchemaError.TheVariants as SchemaErrors
use Rattle.shex_io.specs.Fetching.{HasFailed}
use Rattle.schema_files.specs.declared.error.SchemaFile.TheVariants.{Root}
use Rattle.shex_io.specs.Files.{Told}
use Rattle.shex_io.specs.declared.files.Act.{Act}
use Rattle.shex_io.specs.declared.files.FetchError.{FetchError}
use Rattle.shex_io.specs.declared.files.FetchError.TheVariants as FetchErrors
use Rattle.shex_inputs.specs.declared.error.InputError.{InputError}
use Rattle.shex_inputs.specs.declared.error.InputError.TheVariants as InputErrors
use Rattle.shex_inputs.specs.declared.error.Refusal.TheVariants as InputRefusals
use Rattle.shex_inputs.specs.declared.error.Source.{Source}
use Rattle.shex_inputs.specs.declared.error.Source.TheVariants as Sources
use Rattle.shexj_writer.specs.declared.error.WriteError.{WriteError}
use Rattle.shexj_writer.specs.declared.error.WriteError.TheVariants as WriteErrors
use Rattle.tool_words.specs.Asked.{ToolCall, of_labels, of_reasons, of_schema, of_shards}
use Rattle.shex_tools.specs.declared.stop.Unshown.{Unshown}
use Rattle.shex_tools.specs.declared.stop.Unshown.TheVariants as Unshowns
use Rattle.shex_tools.specs.declared.stop.Refusal.{Refusal}
use Rattle.shex_tools.specs.declared.stop.Refusal.TheVariants as Refusals
use Rattle.shex_tools.specs.declared.stop.Stop.{Stop}
use Rattle.shex_tools.specs.declared.stop.Stop.TheVariants as Stops
use Rattle.shex_tools.specs.Outcomes.{IsRefused, Reaches}
use Rattle.shex_tools.specs.Texts.{name_of}

-- each base that the call is given passes the check of a base, and its budget is at most the greatest
abbrev pub IsFit : ToolCall → Type 0
IsFit (of_schema c) = is_base c.schema_base ≡ true
IsFit (of_labels l) = (is_base l.inputs.schema_base ≡ true) × (is_base l.inputs.data_base ≡ true) × (l.budget ≤ max_budget)
IsFit (of_reasons e) = (is_base e.inputs.schema_base ≡ true) × (is_base e.inputs.data_base ≡ true) × (e.budget ≤ max_budget)
IsFit (of_shards s) = IsShardFit s

-- the stop that an error of the inputs is
abbrev pub stop_of : InputError → Stop
stop_of (InputErrors.Refused refusal) = Stops.Refused (Refusals.Input refusal)
stop_of (InputErrors.Failed source) = Stops.Failed (CallFiles.Input source)
stop_of InputErrors.Memory = Stops.Memory

-- the stop that an error of a call about data in shards is
abbrev pub shard_stop : ShardError → Stop
shard_stop (ShardErrors.Refused refusal) = Stops.Refused (Refusals.Shards refusal)
shard_stop (ShardErrors.Failed file) = Stops.Failed file
shard_stop ShardErrors.Memory = Stops.Memory

-- the stop that an error of extents is
abbrev pub extents_stop : ExtentsError → Stop
extents_stop ExtentsErrors.Pairs = Stops.Refused Refusals.Pairs
extents_stop ExtentsErrors.Memory = Stops.Memory

-- a file is refused for the cause of an error, unless the error is want of memory
abbrev pub IsRefusalOf : {E : Type 0} → E → (E → Refusal) → E → Stop → Type 0
IsRefusalOf memory refusal e stop = ((e ≡ memory) × (stop ≡ Stops.Memory)) ⊎ ((e ≢ memory) × (stop ≡ Stops.Refused (refusal e)))

-- the stop that an error of the schema file is
abbrev pub IsDocumentStop : SchemaError → Stop → Type 0
IsDocumentStop e stop = IsRefusalOf SchemaErrors.Memory (λ x. Refusals.Input (InputRefusals.Schema Root x)) e stop

-- the stop that an error of the writer is
abbrev pub IsWritingStop : WriteError → Stop → Type 0
IsWritingStop e stop = IsRefusalOf WriteErrors.Memory (λ x. Refusals.Unwritten x) e stop

-- why there is no answer: a file is refused, the steps came to one that was not fetched, or memory ran out
abbrev pub Explains : Told → ToolCall → Stop → Type 0
Explains told call (Stops.Refused refusal) = IsRefused told call refusal
Explains told call (Stops.Failed source) = Reaches told call source
Explains told call Stops.Memory = ⊤

-- what a call that stops does to the count of faults of the files: it rises where a fetch failed, which is then named, and else stays
abbrev pub FaultsAs : ToolCall → ℕ → ℕ → List ℕ → Act → Stop → Type 0
FaultsAs call before after blame act (Stops.Failed source) = HasFailed (name_of call source) before after blame act
FaultsAs call before after blame act (Stops.Refused refusal) = after ≡ before
FaultsAs call before after blame act Stops.Memory = after ≡ before

-- why a document is not written
abbrev pub WritingStops : (WriteError → Type 0) → Stop → Type 0
WritingStops Lacks (Stops.Refused (Refusals.Unwritten e)) = Lacks e
WritingStops Lacks (Stops.Refused refusal) = ⊥
WritingStops Lacks (Stops.Failed source) = ⊥
WritingStops Lacks Stops.Memory = ⊤

-- the stop of a fetch of the schema file
abbrev pub fetch_stop : FetchError → Stop
fetch_stop FetchErrors.Failed = Stops.Failed (CallFiles.Input (Sources.Schema Root))
fetch_stop FetchErrors.Long = Stops.Refused (Refusals.Input (InputRefusals.Size (Sources.Schema Root)))
fetch_stop FetchErrors.Memory = Stops.Memory

-- what it does to the count of faults that nothing is shown of a file of this name: it rises where a fetch of it failed, and else stays
abbrev pub IsUnshown : List ℕ → Source → ℕ → ℕ → List ℕ → Act → Unshown → Type 0
IsUnshown name source before after blame act (Unshowns.Failed other) = (other ≡ source) × HasFailed name before after blame act
IsUnshown name source before after blame act Unshowns.Memory = after ≡ before

-- what it does to the count of faults that nothing is shown: it rises where a fetch of a file failed to which the steps came, and else stays
abbrev pub LeavesUnshown : Told → ToolCall → ℕ → ℕ → List ℕ → Act → Unshown → Type 0
LeavesUnshown told call before after blame act (Unshowns.Failed source) =
    Reaches told call (CallFiles.Input source) × HasFailed (name_of call (CallFiles.Input source)) before after blame act
LeavesUnshown told call before after blame act Unshowns.Memory = after ≡ before
