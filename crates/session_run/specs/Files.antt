-- The files that a call reads, by their names in the words.
use Rattle.std.specs.Prelude.{ℕ, List, []}
use Rattle.shex_inputs.specs.Named.{Inputs, source_name}
use Rattle.tool_words.specs.Asked.{Editing}
use Rattle.session_run.specs.declared.stop.File.{File}
use Rattle.session_run.specs.declared.stop.File.TheVariants as Files

-- what names the schema and the data; there is no map
abbrev pub inputs_of : Editing → Inputs
inputs_of e = record {
  schema = e.inputs.schema;
  data_file = e.inputs.data_file;
  map_file = [];
  schema_base = e.inputs.schema_base;
  data_base = e.inputs.data_base;
  imports = e.inputs.imports;
}

-- the name of a file
abbrev pub name_of : Editing → File → List ℕ
name_of e (Files.Input source) = source_name (inputs_of e) source
name_of e Files.Script = e.script
