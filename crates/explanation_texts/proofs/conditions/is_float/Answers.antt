use Rattle.std.proofs.Common.{◌∙◌, ap}
use Rattle.explanation_texts.specs.Conditions.{has_datatype}
use Rattle.explanation_texts.proofs.Spelled.{float_chars}
use Rattle.explanation_texts.proofs.conditions.is_float.Goals as goal

pub returns : goal.returns
returns c = c.has_iri.ensures ∙ ap (λ d. has_datatype d c.args.term.now) float_chars
