use Rattle.std.proofs.Common.{◌∙◌, [], map}
use Rattle.input_names.specs.Lent.{import_of}
use Rattle.shard_answers.proofs.followed.inputs_of.Goals as goal

pub returns-clause-inputs : goal.returns-clause-inputs
returns-clause-inputs c = λ i.
    let f = c.args.following.now in
    record {
      schema = f.schema.now;
      data_file = [];
      map_file = [];
      schema_base = f.schema_base.now;
      data_base = [];
      imports = map import_of ((c.in_ok-imports.ensures.items ∙ c.as_slice.ensures.value) i);
    }
