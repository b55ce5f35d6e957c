-- What the files hold for a call, or why it refuses one of them.
use Rattle.std.specs.Prelude.{ℕ, List, ◌≡◌, ◌≢◌, ◌⊎◌, ⊤}
use Rattle.shex_io.specs.Files.{Told}
use Rattle.label_extents.specs.Demanded.{AreTooMany}
use Rattle.schema_documents.specs.Tree.{Document}
use Rattle.schema_documents.specs.declared.error.SchemaError.{SchemaError}
use Rattle.schema_files.specs.declared.error.SchemaFile.TheVariants.{Root}
use Rattle.shex_inputs.specs.Asked.{IsAskedOf, Question}
use Rattle.shex_inputs.specs.declared.error.Refusal.{Refusal as InputRefusal}
use Rattle.shex_inputs.specs.declared.error.Refusal.TheVariants as InputRefusals
use Rattle.shex_inputs.specs.declared.error.Source.TheVariants as Sources
use Rattle.shex_inputs.specs.Held.{Held, IsTaken}
use Rattle.shex_inputs.specs.Named.{source_of}
use Rattle.shex_inputs.specs.Outcomes.{IsAbsent as IsInputAbsent}
use Rattle.shex_inputs.specs.Refusals.{IsRefused as IsInputRefused, Reaches as ReachesInput}
use Rattle.tool_words.specs.Asked.{Explaining, Listing, ToolCall, of_labels, of_reasons, of_schema, of_shards}
use Rattle.shard_answers.specs.declared.error.CallFile.{CallFile}
use Rattle.shard_answers.specs.declared.error.CallFile.TheVariants as CallFiles
use Rattle.shard_answers.specs.Answers.{IsAnswer as IsShardAnswer}
use Rattle.shard_answers.specs.Refusals.{IsAbsent as IsShardAbsent, IsRefused as IsShardRefused, Reaches as ReachesShard}
use Rattle.shex_tools.specs.declared.stop.Refusal.{Refusal}
use Rattle.shex_tools.specs.declared.stop.Refusal.TheVariants as Refusals
use Rattle.shex_tools.specs.Calls.{IsReadBy, inputs_of}
use Rattle.shex_tools.specs.Documents.{HasText, HoldsDocument, LacksText}

-- the schema and the data that `extents` is given are taken
abbrev pub AreHeld : Told → Listing → Held → Type 0
AreHeld told l h = IsTaken told (inputs_of (of_labels l)) h

-- the schema and the data that `explain` is given are taken, and its map asks this of them
abbrev pub IsQuestionOf : Told → Explaining → Question → Type 0
IsQuestionOf told e q = IsAskedOf told (inputs_of (of_reasons e)) q

-- what a call is given is taken, and it refuses nothing: `convert` has a document with a text in ShExJ, `extents` a schema and a graph
-- that ask for few pairs, and `explain` a map that asks something; and of a call about data in shards there is something that answers it
abbrev pub AreTaken : Told → ToolCall → Type 0
AreTaken told (of_schema c) = (doc : Document) × HoldsDocument told c doc × HasText doc
AreTaken told (of_labels l) = (h : Held) × AreHeld told l h × (¬ AreTooMany h.schema h.graph)
AreTaken told (of_reasons e) = (q : Question) × IsQuestionOf told e q
AreTaken told (of_shards s) = (status : ℕ) × (text : List ℕ) × IsShardAnswer told s status text

-- a refusal of a file that the call reads: `convert` reads one document, and follows no import and loads no schema
abbrev pub IsInReading : ToolCall → InputRefusal → Type 0
IsInReading (of_schema c) refusal = (refusal ≡ InputRefusals.Size (Sources.Schema Root)) ⊎ ((e : SchemaError) × (refusal ≡ InputRefusals.Schema Root e))
IsInReading (of_labels l) refusal = source_of refusal ≢ Sources.Map
IsInReading (of_reasons e) refusal = ⊤
IsInReading (of_shards s) refusal = ⊥

-- the call refuses a file, and this is why: a file is not taken, or the document of `convert` has no text in ShExJ, or the extents ask for
-- more pairs than may be asked for, or a call about data in shards says why
abbrev pub IsRefused : Told → ToolCall → Refusal → Type 0
IsRefused told call (Refusals.Input refusal) = IsInReading call refusal × IsInputRefused told (inputs_of call) refusal
IsRefused told (of_schema c) (Refusals.Unwritten e) = (doc : Document) × HoldsDocument told c doc × LacksText doc e
IsRefused told (of_labels l) (Refusals.Unwritten e) = ⊥
IsRefused told (of_reasons x) (Refusals.Unwritten e) = ⊥
IsRefused told (of_shards s) (Refusals.Unwritten e) = ⊥
IsRefused told (of_schema c) Refusals.Pairs = ⊥
IsRefused told (of_labels l) Refusals.Pairs = (h : Held) × AreHeld told l h × AreTooMany h.schema h.graph
IsRefused told (of_reasons x) Refusals.Pairs = ⊥
IsRefused told (of_shards s) Refusals.Pairs = ⊥
IsRefused told (of_schema c) (Refusals.Shards refusal) = ⊥
IsRefused told (of_labels l) (Refusals.Shards refusal) = ⊥
IsRefused told (of_reasons x) (Refusals.Shards refusal) = ⊥
IsRefused told (of_shards s) (Refusals.Shards refusal) = IsShardRefused told s refusal

-- the steps come to a file of the inputs that the call reads
abbrev pub ReachesInputs : Told → ToolCall → CallFile → Type 0
ReachesInputs told call (CallFiles.Input source) = IsReadBy call source × ReachesInput told (inputs_of call) source
ReachesInputs told call (CallFiles.Cover file) = ⊥

-- the steps come to a file that the call reads
abbrev pub Reaches : Told → ToolCall → CallFile → Type 0
Reaches told (of_schema c) file = ReachesInputs told (of_schema c) file
Reaches told (of_labels l) file = ReachesInputs told (of_labels l) file
Reaches told (of_reasons e) file = ReachesInputs told (of_reasons e) file
Reaches told (of_shards s) file = ReachesShard told s file

-- the steps come to a file of the inputs that the call reads, and it is told to be absent
abbrev pub IsInputsAbsent : Told → ToolCall → CallFile → Type 0
IsInputsAbsent told call (CallFiles.Input source) = IsReadBy call source × IsInputAbsent told (inputs_of call) source
IsInputsAbsent told call (CallFiles.Cover file) = ⊥

-- the steps come to a file that the call reads, and it is told to be absent
abbrev pub IsAbsent : Told → ToolCall → CallFile → Type 0
IsAbsent told (of_schema c) file = IsInputsAbsent told (of_schema c) file
IsAbsent told (of_labels l) file = IsInputsAbsent told (of_labels l) file
IsAbsent told (of_reasons e) file = IsInputsAbsent told (of_reasons e) file
IsAbsent told (of_shards s) file = IsShardAbsent told s file
