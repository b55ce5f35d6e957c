-- Why a file of a call about data in shards is refused.
use Rattle.std.specs.Prelude.{ℕ, List, [], ◌++◌, ◌∷◌, ◌≡◌, ◌≢◌, length, ⊤}
use Rattle.data_reader.specs.Endings.{Explains as DataExplains}
use Rattle.data_reader.specs.Formats.{format_of}
use Rattle.graph_index.specs.declared.read_error.ReadError.{ReadError}
use Rattle.graph_index.specs.declared.read_error.ReadError.TheVariants as ReadErrors
use Rattle.shex_io.specs.Fetching.{IsFile, IsTooLong}
use Rattle.schema_files.specs.declared.error.SchemaFile.{SchemaFile}
use Rattle.shard_checks.specs.Cover.{read_back_in}
use Rattle.shard_checks.specs.Lines.{lines_of}
use Rattle.shex_inputs.specs.declared.error.Refusal.{Refusal}
use Rattle.shex_inputs.specs.declared.error.Refusal.TheVariants as Refusals
use Rattle.shex_inputs.specs.declared.error.Source.{Source}
use Rattle.shex_inputs.specs.declared.error.Source.TheVariants as Sources
use Rattle.shex_inputs.specs.Named.{source_of}
use Rattle.shex_inputs.specs.Refusals.{IsRefused as IsInputRefused, Reaches as ReachesInput}
use Rattle.shex_inputs.specs.Stops.{AreUnreadable}
use Rattle.shex_io.specs.Files.{Lacks, Told}
use Rattle.tool_words.specs.Asked.{ShardCall, of_cover, of_lines, of_nodes, of_ways}
use Rattle.tool_words.specs.Requests.{Covering, Lining, ShardFiles}
use Rattle.shard_answers.specs.declared.error.CoverFile.{CoverFile}
use Rattle.shard_answers.specs.declared.error.CoverFile.TheVariants as Covers
use Rattle.shard_answers.specs.declared.error.ShardRefusal.{ShardRefusal}
use Rattle.shard_answers.specs.declared.error.ShardRefusal.TheVariants as ShardRefusals
use Rattle.shard_answers.specs.declared.error.CallFile.{CallFile}
use Rattle.shard_answers.specs.declared.error.CallFile.TheVariants as CallFiles
use Rattle.shard_answers.specs.Answers.{AreCompared, LackNothing}
use Rattle.shard_answers.specs.Sources.{cover_name, inputs_of, name_of}

-- the ways and the part are compared with the shards, and the steps come to those behind the first that lack nothing
pub record ComesBehind (told : Told) (c : Covering) (before : List ShardFiles) : Type 0 where
  pub ways : List ℕ
  pub part : List ℕ
  pub are_compared : AreCompared told c ways part
  pub lack_nothing : LackNothing told (lines_of part) (read_back_in (lines_of ways)) before

-- the steps come to the shard at this place
pub record ComesTo (told : Told) (c : Covering) (at : ℕ) : Type 0 where
  pub before : List ShardFiles
  pub shard : ShardFiles
  pub behind : List ShardFiles
  pub shards_are : c.shards ≡ before ++ shard ∷ behind
  pub place : at ≡ length before
  pub comes : ComesBehind told c before

-- the steps of `covers` come to a file: those before it are fetched, and the shards before it lack nothing
abbrev pub ReachesCover : Told → Covering → CoverFile → Type 0
ReachesCover told c Covers.Followed = ⊤
ReachesCover told c Covers.Part = (ways : List ℕ) × IsFile told c.ways ways
ReachesCover told c (Covers.Nodes at) = ComesTo told c at
ReachesCover told c (Covers.Shard at) = (came : ComesTo told c at) × (nodes : List ℕ) × IsFile told came.shard.nodes nodes

-- the file is one of the schema
abbrev pub IsOfSchema : Source → Type 0
IsOfSchema source = (file : SchemaFile) × (source ≡ Sources.Schema file)

-- the steps of a call come to a file of it
abbrev pub Reaches : Told → ShardCall → CallFile → Type 0
Reaches told (of_lines l) (CallFiles.Input source) = source ≡ Sources.Data
Reaches told (of_ways f) (CallFiles.Input source) = IsOfSchema source × ReachesInput told (inputs_of (of_ways f)) source
Reaches told (of_nodes r) (CallFiles.Input source) = ReachesInput told (inputs_of (of_nodes r)) source
Reaches told (of_cover c) (CallFiles.Input source) = ⊥
Reaches told (of_lines l) (CallFiles.Cover file) = ⊥
Reaches told (of_ways f) (CallFiles.Cover file) = ⊥
Reaches told (of_nodes r) (CallFiles.Cover file) = ⊥
Reaches told (of_cover c) (CallFiles.Cover file) = ReachesCover told c file

-- the data file's bytes, within the limit, have this cause, and no table and graph within their limits are made of them
pub record AreUnread (told : Told) (l : Lining) (e : ReadError) : Type 0 where
  pub bytes : List ℕ
  pub file : IsFile told l.data_file bytes
  pub apart : e ≢ ReadErrors.Memory
  pub cause : DataExplains (format_of l.data_file) l.data_base e bytes [] []
  pub none : AreUnreadable (format_of l.data_file) l.data_base [] bytes

-- why `lines` refuses its file
abbrev pub RefusesData : Told → Lining → Refusal → Type 0
RefusesData told l (Refusals.Size source) = (source ≡ Sources.Data) × IsTooLong told l.data_file
RefusesData told l (Refusals.Data e) = AreUnread told l e
RefusesData told l refusal = ⊥

-- the call refuses a file, and this is why
abbrev pub IsRefused : Told → ShardCall → ShardRefusal → Type 0
IsRefused told (of_lines l) (ShardRefusals.Input refusal) = RefusesData told l refusal
IsRefused told (of_ways f) (ShardRefusals.Input refusal) = IsOfSchema (source_of refusal) × IsInputRefused told (inputs_of (of_ways f)) refusal
IsRefused told (of_nodes r) (ShardRefusals.Input refusal) = IsInputRefused told (inputs_of (of_nodes r)) refusal
IsRefused told (of_cover c) (ShardRefusals.Input refusal) = ⊥
IsRefused told (of_lines l) (ShardRefusals.Size file) = ⊥
IsRefused told (of_ways f) (ShardRefusals.Size file) = ⊥
IsRefused told (of_nodes r) (ShardRefusals.Size file) = ⊥
IsRefused told (of_cover c) (ShardRefusals.Size file) = ReachesCover told c file × IsTooLong told (cover_name c file)

-- the steps come to a file that is told to be absent
abbrev pub IsAbsent : Told → ShardCall → CallFile → Type 0
IsAbsent told call file = Reaches told call file × Lacks told (name_of call file)
