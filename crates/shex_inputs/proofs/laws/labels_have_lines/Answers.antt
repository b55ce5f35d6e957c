use Rattle.shex_inputs.specs.Named.{asked_of}
use Rattle.shex_inputs.proofs.Sources.{names_are_lines}
use Rattle.shex_inputs.proofs.laws.labels_have_lines.Goals as goal

pub returns : goal.returns
returns c = λ told i h line x. names_are_lines told (asked_of i) c.names_have_lines.ensures x.sources h.labels x.are_sources line x.labels
