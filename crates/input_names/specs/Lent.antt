-- What is to be read, by names that are lent.
use Rattle.std.specs.Prelude.{map}
use Rattle.input_names.specs.declared.inputs.Import.{Import as LentImport}
use Rattle.input_names.specs.declared.inputs.Inputs.{Inputs as LentInputs}
use Rattle.input_names.specs.Names.{Import, Inputs}

abbrev pub import_of : LentImport → Import
import_of i = record { iri = i.iri.now; file = i.file.now }

abbrev pub inputs_of : LentInputs → Inputs
inputs_of i = record {
  schema = i.schema.now;
  data_file = i.data.now;
  schema_base = i.schema_base.now;
  data_base = i.data_base.now;
  imports = map import_of i.imports.items;
}
