-- What is printed of a command that is refused.
use Rattle.std.specs.Prelude.{ℕ, List, ◌++◌, codes}
use Rattle.schema_documents.specs.Labels.{label_text}
use Rattle.session_run.specs.declared.error.CommandError.{CommandError}
use Rattle.session_run.specs.declared.error.CommandError.TheVariants as Errors

-- why a command is refused; none is refused for want of memory, which has its name here too
abbrev pub command_text : CommandError → List ℕ
command_text (Errors.Label label) = codes "Label(" ++ (label_text label ++ codes ")")
command_text Errors.NoStart = codes "NoStart"
command_text Errors.Full = codes "Full"
command_text Errors.Pairs = codes "Pairs"
command_text Errors.Memory = codes "Memory"
