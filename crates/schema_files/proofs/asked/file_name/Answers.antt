use Rattle.std.proofs.Common.{◌∙◌, ap, map, sym, []}
use Rattle.input_names.specs.Lent.{import_of}
use Rattle.schema_files.specs.Named.{file_named}
use Rattle.schema_files.proofs.Words.{seen_twice}
use Rattle.schema_files.proofs.asked.file_name.Goals as goal

pub returns-in-Some : goal.returns-in-Some
returns-in-Some c =
    seen_twice import_of (λ w. w.file) c.args.words.now c.in-Imported.number c.in-Some.word.now [] c.in-Some.ensures.lookup.3.0 c.in-Some.ensures.lookup.1
    ∙ ap (file_named c.args.root.now (map import_of c.args.words.now)) (sym c.in-Imported.is)
