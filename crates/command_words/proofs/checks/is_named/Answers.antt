use Rattle.std.proofs.Common.{◌∙◌, ap, sym}
use Rattle.std.specs.List.{list_any}
use Rattle.std.specs.Str.{bytes_eq}
use Rattle.input_names.specs.Lent.{import_of}
use Rattle.command_words.specs.Lent.{task_of}
use Rattle.command_words.specs.Requests.{map_names}
use Rattle.command_words.proofs.Named.{named_by}
use Rattle.command_words.proofs.checks.is_named.Goals as goal

pub returns-else-is_map : goal.returns-else-is_map
returns-else-is_map c =
    named_by c.args.name.now c.args.inputs.now.schema.now c.args.inputs.now.data.now (map_names (task_of c.args.task)) (λ i. i.file) import_of c.args.inputs.now.imports.items c.is_imported.result
    (sym c.eq.ensures ∙ c.if-eq.false) (sym c.eq-else-eq.ensures ∙ c.if-eq-2.false) (sym c.is_map.ensures ∙ c.if-is_map.false)
    (c.is_imported.ensures ∙ ap (list_any (λ i. bytes_eq i.file.now c.args.name.now)) c.deref.ensures.value)
