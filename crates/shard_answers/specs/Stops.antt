-- How the functions of a call about data in shards stop. Of want of memory nothing is said.
use Rattle.std.specs.Prelude.{ℕ, List, ◌++◌, ◌∷◌, ◌≡◌, ◌≢◌, ◌⊎◌, length, ⊤}
use Rattle.graph_index.specs.declared.read_error.ReadError.{ReadError}
use Rattle.graph_index.specs.declared.read_error.ReadError.TheVariants as ReadErrors
use Rattle.shex_io.specs.Fetching.{HasFailed, IsFile, IsTooLong}
use Rattle.shex_inputs.specs.declared.error.InputError.{InputError}
use Rattle.shex_inputs.specs.declared.error.InputError.TheVariants as InputErrors
use Rattle.shex_inputs.specs.declared.error.Refusal.TheVariants as Refusals
use Rattle.shex_io.specs.Files.{Told}
use Rattle.shex_io.specs.declared.files.Act.{Act}
use Rattle.tool_words.specs.Asked.{ShardCall}
use Rattle.tool_words.specs.Requests.{ShardFiles}
use Rattle.shard_answers.specs.declared.error.CoverFile.TheVariants.{Nodes, Shard}
use Rattle.shard_answers.specs.declared.error.ShardError.{ShardError}
use Rattle.shard_answers.specs.declared.error.ShardError.TheVariants.{Refused, Failed, Memory}
use Rattle.shard_answers.specs.declared.error.ShardRefusal.{ShardRefusal}
use Rattle.shard_answers.specs.declared.error.ShardRefusal.TheVariants as ShardRefusals
use Rattle.shard_answers.specs.declared.error.CallFile.{CallFile}
use Rattle.shard_answers.specs.declared.error.CallFile.TheVariants.{Input, Cover}
use Rattle.shard_answers.specs.Answers.{LackNothing}
use Rattle.shard_answers.specs.Refusals.{IsRefused, Reaches}
use Rattle.shard_answers.specs.Sources.{name_of}

-- the stop that an error of the inputs is
abbrev pub stop_of : InputError → ShardError
stop_of (InputErrors.Refused refusal) = Refused (ShardRefusals.Input refusal)
stop_of (InputErrors.Failed source) = Failed (Input source)
stop_of InputErrors.Memory = Memory

-- the stop that an error of the data is
abbrev pub IsDataStop : ReadError → ShardError → Type 0
IsDataStop e stop = ((e ≡ ReadErrors.Memory) × (stop ≡ Memory)) ⊎ ((e ≢ ReadErrors.Memory) × (stop ≡ Refused (ShardRefusals.Input (Refusals.Data e))))

-- the refusal of a file that is too long
abbrev pub size_refusal : CallFile → ShardRefusal
size_refusal (Input source) = ShardRefusals.Input (Refusals.Size source)
size_refusal (Cover file) = ShardRefusals.Size file

-- a file is too long, it was not fetched, or memory ran out
abbrev pub FetchStops : Told → List ℕ → CallFile → ℕ → ℕ → List ℕ → Act → ShardError → Type 0
FetchStops told name source before after blame act (Refused refusal) = (refusal ≡ size_refusal source) × IsTooLong told name × (after ≡ before)
FetchStops told name source before after blame act (Failed other) = (other ≡ source) × HasFailed name before after blame act
FetchStops told name source before after blame act Memory = after ≡ before

-- why there is no answer: a file is refused, the steps came to one that was not fetched, or memory ran out
abbrev pub Explains : Told → ShardCall → ShardError → Type 0
Explains told call (Refused refusal) = IsRefused told call refusal
Explains told call (Failed source) = Reaches told call source
Explains told call Memory = ⊤

-- what a call that stops does to the count of faults of the files: it rises where a fetch failed, which is then named, and else stays
abbrev pub FaultsAs : ShardCall → ℕ → ℕ → List ℕ → Act → ShardError → Type 0
FaultsAs call before after blame act (Failed source) = HasFailed (name_of call source) before after blame act
FaultsAs call before after blame act (Refused refusal) = after ≡ before
FaultsAs call before after blame act Memory = after ≡ before

-- a shard at a place is not compared: the file with its nodes is not fetched, or that file is and the one with its lines is not; or
-- memory ran out
abbrev pub PairStops : Told → ShardFiles → ℕ → ℕ → ℕ → List ℕ → Act → ShardError → Type 0
PairStops told s at before after blame act e =
    FetchStops told s.nodes (Cover (Nodes at)) before after blame act e
    ⊎ ((nodes : List ℕ) × IsFile told s.nodes nodes × FetchStops told s.shard (Cover (Shard at)) before after blame act e)

-- shards are not compared: those before one lack nothing, and that one is not compared
pub record ComparingStops (told : Told) (lines back : List (List ℕ)) (shards : List ShardFiles) (before after : ℕ) (blame : List ℕ) (act : Act) (e : ShardError) : Type 0 where
  pub those : List ShardFiles
  pub one : ShardFiles
  pub others : List ShardFiles
  pub shards_are : shards ≡ those ++ one ∷ others
  pub lack_nothing : LackNothing told lines back those
  pub stops : PairStops told one (length those) before after blame act e
