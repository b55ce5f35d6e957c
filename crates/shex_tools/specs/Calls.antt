-- The files that a call reads, by their names in the words.
use Rattle.std.specs.Prelude.{[], ◌≡◌, ◌≢◌, ⊤}
use Rattle.shard_answers.specs.Sources.{inputs_of as shard_inputs}
use Rattle.schema_files.specs.declared.error.SchemaFile.TheVariants.{Root}
use Rattle.shex_inputs.specs.declared.error.Source.{Source}
use Rattle.shex_inputs.specs.declared.error.Source.TheVariants.{Map, Schema}
use Rattle.shex_inputs.specs.Named.{Inputs}
use Rattle.tool_words.specs.Asked.{ToolCall, of_labels, of_reasons, of_schema, of_shards}

-- what a call is given; `convert` is given no data and no imports, and `explain` alone a map
abbrev pub inputs_of : ToolCall → Inputs
inputs_of (of_schema c) = record { schema = c.schema; data_file = []; map_file = []; schema_base = c.schema_base; data_base = []; imports = [] }
inputs_of (of_labels l) = record {
  schema = l.inputs.schema;
  data_file = l.inputs.data_file;
  map_file = [];
  schema_base = l.inputs.schema_base;
  data_base = l.inputs.data_base;
  imports = l.inputs.imports;
}
inputs_of (of_reasons e) = record {
  schema = e.inputs.schema;
  data_file = e.inputs.data_file;
  map_file = e.map_file;
  schema_base = e.inputs.schema_base;
  data_base = e.inputs.data_base;
  imports = e.inputs.imports;
}
inputs_of (of_shards s) = shard_inputs s

-- the file of the inputs is one that the call reads: `convert` reads the schema file alone, `extents` all but a map, and `explain` all; calls about
-- data in shards say by themselves what they read
abbrev pub IsReadBy : ToolCall → Source → Type 0
IsReadBy (of_schema c) source = source ≡ Schema Root
IsReadBy (of_labels l) source = source ≢ Map
IsReadBy (of_reasons e) source = ⊤
IsReadBy (of_shards s) source = ⊥
