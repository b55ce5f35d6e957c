use Rattle.std.proofs.Common.{◌∙◌, ap}
use Rattle.std.specs.List.{list_any}
use Rattle.std.specs.Str.{bytes_eq}
use Rattle.schema_files.specs.Held.{asked_of}
use Rattle.schema_files.specs.Named.{name_of}
use Rattle.schema_files.proofs.Steps.{read_by_files}
use Rattle.schema_files.proofs.imports.is_read.Goals as goal

pub returns : goal.returns
returns c =
    let a = asked_of c.args.asked.now in
    c.has_file.ensures ∙ ap (λ name. list_any (λ h. bytes_eq (name_of a h.file) name) c.args.held.now) c.name.ensures ∙ read_by_files a c.args.held.now (name_of a c.args.file)
