-- The inputs of a drill: its three texts, as if they were files that words name.
use Rattle.std.specs.Prelude.{[]}
use Rattle.command_words.specs.Requests.{default_base}
use Rattle.shex_inputs.specs.Named.{Inputs}
use Rattle.shex_drill.specs.Files.{data_name, map_name, schema_name}

abbrev pub drill_inputs : Inputs
drill_inputs = record {
  schema = schema_name;
  data_file = data_name;
  map_file = map_name;
  schema_base = default_base;
  data_base = default_base;
  imports = [];
}
