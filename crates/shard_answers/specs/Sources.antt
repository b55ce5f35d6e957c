-- The files that a call about data in shards reads, by their names in the words.
use Rattle.std.specs.Prelude.{ℕ, List, [], Option, Some, None, slice_get}
use Rattle.shex_inputs.specs.Named.{Inputs, source_name, source_of}
use Rattle.tool_words.specs.Asked.{ShardCall, of_cover, of_lines, of_nodes, of_ways}
use Rattle.tool_words.specs.Requests.{Covering, ShardFiles}
use Rattle.shard_answers.specs.declared.error.CoverFile.{CoverFile}
use Rattle.shard_answers.specs.declared.error.CoverFile.TheVariants.{Followed, Part, Nodes, Shard}
use Rattle.shard_answers.specs.declared.error.ShardRefusal.{ShardRefusal}
use Rattle.shard_answers.specs.declared.error.ShardRefusal.TheVariants as Refusals
use Rattle.shard_answers.specs.declared.error.CallFile.{CallFile}
use Rattle.shard_answers.specs.declared.error.CallFile.TheVariants.{Input, Cover}

-- the files of the inputs: `lines` is given data alone, `followed` a schema, and `reached` all; `covers` is given none
abbrev pub inputs_of : ShardCall → Inputs
inputs_of (of_lines l) = record { schema = []; data_file = l.data_file; map_file = []; schema_base = []; data_base = l.data_base; imports = [] }
inputs_of (of_ways f) = record { schema = f.schema; data_file = []; map_file = []; schema_base = f.schema_base; data_base = []; imports = f.imports }
inputs_of (of_nodes r) = record {
  schema = r.inputs.schema;
  data_file = r.inputs.data_file;
  map_file = r.map_file;
  schema_base = r.inputs.schema_base;
  data_base = r.inputs.data_base;
  imports = r.inputs.imports;
}
inputs_of (of_cover c) = record { schema = []; data_file = []; map_file = []; schema_base = []; data_base = []; imports = [] }

-- the names of a shard's files, and the empty text where there is no such shard
abbrev pub nodes_name : Option ShardFiles → List ℕ
nodes_name None = []
nodes_name (Some s) = s.nodes

abbrev pub shard_name : Option ShardFiles → List ℕ
shard_name None = []
shard_name (Some s) = s.shard

-- the name of a file of `covers`
abbrev pub cover_name : Covering → CoverFile → List ℕ
cover_name c Followed = c.ways
cover_name c Part = c.part
cover_name c (Nodes i) = nodes_name (slice_get c.shards i)
cover_name c (Shard i) = shard_name (slice_get c.shards i)

-- the name of a file of a call, and the empty text where the call has no such file
abbrev pub name_of : ShardCall → CallFile → List ℕ
name_of call (Input source) = source_name (inputs_of call) source
name_of (of_lines l) (Cover file) = []
name_of (of_ways f) (Cover file) = []
name_of (of_nodes r) (Cover file) = []
name_of (of_cover c) (Cover file) = cover_name c file

-- the file that is refused
abbrev pub refused_source : ShardRefusal → CallFile
refused_source (Refusals.Input refusal) = Input (source_of refusal)
refused_source (Refusals.Size file) = Cover file
