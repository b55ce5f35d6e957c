use Rattle.std.proofs.Common.{◌∙◌, ap, sym}
use Rattle.shex_inputs.specs.Named.{source_name}
use Rattle.tool_words.specs.Lent.{covering_of, shard_call_of}
use Rattle.shard_answers.specs.Sources.{inputs_of}
use Rattle.shard_answers.proofs.answering.inputs_name.Goals as goal

pub returns-in-Covers : goal.returns-in-Covers
returns-in-Covers c = c.no_name.ensures (covering_of c.in-Covers.field-0) ∙ ap (λ z. source_name (inputs_of (shard_call_of z)) c.args.source) (sym c.in-Covers.is)
