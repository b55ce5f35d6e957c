-- The files of the inputs, by their names.
use Rattle.std.specs.Prelude.{ℕ, List, map}
use Rattle.input_names.specs.Names.{Import, Text}
use Rattle.input_names.specs.Lent.{import_of}
use Rattle.input_names.specs.declared.inputs.Inputs.{Inputs as LentInputs}
use Rattle.schema_files.specs.Named.{Asked, name_of}
use Rattle.schema_files.specs.declared.error.SchemaFile.TheVariants.{Root}
use Rattle.shex_inputs.specs.declared.error.Refusal.{Refusal}
use Rattle.shex_inputs.specs.declared.error.Refusal.TheVariants as Refusals
use Rattle.shex_inputs.specs.declared.error.Source.{Source}
use Rattle.shex_inputs.specs.declared.error.Source.TheVariants.{Schema, Data, Map}

-- the names of the files, the bases, and the files of imported documents; where no map is asked for, its name is empty
pub record Inputs : Type 0 where
  pub schema : Text
  pub data_file : Text
  pub map_file : Text
  pub schema_base : Text
  pub data_base : Text
  pub imports : List Import

-- these inputs, and a map of this name
abbrev pub inputs_with : LentInputs → Text → Inputs
inputs_with lent map_name = record {
  schema = lent.schema.now;
  data_file = lent.data.now;
  map_file = map_name;
  schema_base = lent.schema_base.now;
  data_base = lent.data_base.now;
  imports = map import_of lent.imports.items;
}

-- what of them names the files of the schema
abbrev pub asked_of : Inputs → Asked
asked_of i = record { root = i.schema; base = i.schema_base; words = i.imports }

-- the name of a file of the inputs
abbrev pub source_name : Inputs → Source → List ℕ
source_name i (Schema file) = name_of (asked_of i) file
source_name i Data = i.data_file
source_name i Map = i.map_file

-- the file that is refused; what all documents of the schema are refused for together names the schema file
abbrev pub source_of : Refusal → Source
source_of (Refusals.Size source) = source
source_of (Refusals.Schema file error) = Schema file
source_of (Refusals.Import file iri) = Schema file
source_of (Refusals.Load error) = Schema Root
source_of (Refusals.NegatedCycle cycle) = Schema Root
source_of (Refusals.Data error) = Data
source_of (Refusals.Map error) = Map
source_of Refusals.Pairs = Map
